-- How high trees are, and how one sound object after another is found.
use Rattle.std.proofs.Common.{◌≡◌, ◌≢◌, ◌∙◌, ℕ, ◌+◌, ◌<◌, inl, inr, min, max, List, [], ◌∷◌, ◌++◌, length, get_or, set, take, Bool, true, false, Option, Some, None, is_some, refl, sym, ap, subst, arith, ◌==◌, ◌&&◌, ◌||◌}
use Rattle.std.specs.Bool.{OnTrue, OnFalse}
use Rattle.std.proofs.lemmas.Bool.{false≢true}
use Rattle.std.proofs.lemmas.List.{get_or-set_same, get_or-set_other, take_more}
use Rattle.std.proofs.lemmas.List.Folds.{list_all-append}
use Rattle.reference_graph.specs.Links.{Links, is_among, is_to, links_at}
use Rattle.reference_graph.specs.Trees.{Trees, bare, tree, AreTrees, depth, size}
use Rattle.reference_graph.specs.Heights.{Heights, height_at, is_sound, is_sound_link, are_sound, is_blocked, depth_of, AreTall, IsHeight, AreHeights, IsJudged, unsettled, height_behind, IsBeside, IsSettling}
use Rattle.reference_graph.specs.declared.height.Height.{Height}
use Rattle.reference_graph.proofs.SearchLemmas.{any_either, any_one, same_place, place_same, or_true}

-- trees beside one another
abbrev pub join_trees : Trees → Trees → Trees
join_trees bare u = u
join_trees (tree at below beside) u = tree at below (join_trees beside u)

depth-join_trees : (t u : Trees) → depth (join_trees t u) ≡ max (depth t) (depth u)
depth-join_trees bare u = omega arith
depth-join_trees (tree at below beside) u = let h = depth-join_trees beside u in omega (arith, h)

size-join_trees : (t u : Trees) → size (join_trees t u) ≡ size t + size u
size-join_trees bare u = omega arith
size-join_trees (tree at below beside) u = let h = size-join_trees beside u in omega (arith, h)

are_trees-join : (links : Links) (xs ys : List (Option ℕ)) (t u : Trees) → AreTrees links xs t → AreTrees links ys u → AreTrees links (xs ++ ys) (join_trees t u)
are_trees-join links [] ys bare u a b = b
are_trees-join links [] ys (tree at below beside) u a b = absurd a
are_trees-join links (None ∷ xs) ys t u a b = absurd a
are_trees-join links (Some at ∷ xs) ys bare u a b = absurd a
are_trees-join links (Some at ∷ xs) ys (tree root below beside) u a b = (a.0, a.1, are_trees-join links xs ys beside u a.2 b)

and_true : (a b : Bool) → a ≡ true → b ≡ true → (a && b) ≡ true
and_true true b h k = k
and_true false b h k = absurd (false≢true h)

pub and_first : (a b : Bool) → (a && b) ≡ true → a ≡ true
and_first true b h = refl
and_first false b h = absurd (false≢true h)

pub and_second : (a b : Bool) → (a && b) ≡ true → b ≡ true
and_second true b h = h
and_second false b h = absurd (false≢true h)

some_sound : (o : Option Height) (h : Height) → o ≡ Some h → is_some o ≡ true
some_sound o h e = ap is_some e

-- one more reference, which leads to a sound object
pub beside_more : (links : Links) (heights : Heights) (xs : List (Option ℕ)) (at : ℕ) (b h c : Height) → AreTall links heights → IsBeside links heights xs b
    → height_at heights at ≡ Some h → c.depth ≡ max b.depth h.depth → c.size ≡ min (b.size + h.size) 4294967295 → IsBeside links heights (xs ++ Some at ∷ []) c
beside_more links heights xs at b h c tall is found d s =
    let one = tall at h found in
    let there : is_sound heights at ≡ true = some_sound (height_at heights at) h found in
    record {
      sound = list_all-append (is_sound_link heights) xs (Some at ∷ []) ∙ and_true (are_sound heights xs) (are_sound heights (Some at ∷ [])) is.sound (and_true (is_sound heights at) true there refl);
      trees = join_trees is.trees (tree at one.below bare);
      are_trees = are_trees-join links xs (Some at ∷ []) is.trees (tree at one.below bare) is.are_trees (refl, one.trees, tt);
      depth_is =
          let j = depth-join_trees is.trees (tree at one.below bare) in
          let k = is.depth_is in
          let m = one.depth_is in
          omega (arith, d, j, k, m);
      size_is =
          let j = size-join_trees is.trees (tree at one.below bare) in
          let k = is.size_is in
          let m = one.size_is in
          omega (arith, s, j, k, m);
      within = λ to among. elim (any_either (is_to to) xs (Some at ∷ []) among) [
        | inl x ↦ let w = is.within to x in omega (arith, w, d)
        | inr y ↦
            let same : at ≡ to = same_place at to (any_one (is_to to) (Some at) y) in
            let e : depth_of (height_at heights to) ≡ h.depth = ap (λ (k : ℕ). depth_of (height_at heights k)) (sym same) ∙ ap depth_of found in
            omega (arith, e, d)
      ];
    }

-- of references to sound objects each leads to one
pub sound_among : (heights : Heights) (places : List (Option ℕ)) (to : ℕ) → are_sound heights places ≡ true → is_among to places ≡ true → is_sound heights to ≡ true
sound_among heights [] to all among = absurd (false≢true among)
sound_among heights (None ∷ places) to all among = absurd (false≢true all)
sound_among heights (Some at ∷ places) to all among = elim (or_true (at == to) (is_among to places) among) [
  | inl e ↦ subst (λ (k : ℕ). is_sound heights k ≡ true) (same_place at to e) (and_first (is_sound heights at) (are_sound heights places) all)
  | inr e ↦ sound_among heights places to (and_second (is_sound heights at) (are_sound heights places) all) e
]

none_unsound : (o : Option Height) → o ≡ None → is_some o ≡ false
none_unsound o e = ap is_some e

apart : (heights : Heights) (at k : ℕ) → height_at heights at ≡ None → is_sound heights k ≡ true → k ≢ at
apart heights at k none sound same = false≢true (sym (none_unsound (height_at heights at) none) ∙ ap (is_sound heights) (sym same) ∙ sound)

-- what was found sound stays as it is
pub height_stays : (heights : Heights) (at k : ℕ) (h : Height) → height_at heights at ≡ None → is_sound heights k ≡ true → height_at (set heights at (Some h)) k ≡ height_at heights k
height_stays heights at k h none sound = get_or-set_other heights at k (Some h) None (apart heights at k none sound)

sound_stays : (heights : Heights) (at : ℕ) (h : Height) (places : List (Option ℕ)) → height_at heights at ≡ None → are_sound heights places ≡ true → are_sound (set heights at (Some h)) places ≡ true
sound_stays heights at h [] none all = refl
sound_stays heights at h (None ∷ places) none all = absurd (false≢true all)
sound_stays heights at h (Some k ∷ places) none all =
    let here : is_sound heights k ≡ true = and_first (is_sound heights k) (are_sound heights places) all in
    and_true (is_sound (set heights at (Some h)) k) (are_sound (set heights at (Some h)) places) (ap is_some (height_stays heights at k h none here) ∙ here)
    (sound_stays heights at h places none (and_second (is_sound heights k) (are_sound heights places) all))

height_kept : (links : Links) (blocked : List Bool) (heights : Heights) (at k : ℕ) (h g : Height) → height_at heights at ≡ None → IsHeight links blocked heights k g
    → IsHeight links blocked (set heights at (Some h)) k g
height_kept links blocked heights at k h g none is = record {
  free = is.free;
  sound = sound_stays heights at h (links_at links k) none is.sound;
  tall = is.tall;
  higher = λ to r.
      let e : depth_of (height_at (set heights at (Some h)) to) ≡ depth_of (height_at heights to) =
      ap depth_of (height_stays heights at to h none (sound_among heights (links_at links k) to is.sound r)) in
      let l = is.higher to r in
      omega (arith, e, l);
}

height_new : (links : Links) (blocked : List Bool) (heights : Heights) (at : ℕ) (b h : Height) → height_at heights at ≡ None → is_blocked blocked at ≡ false
    → IsBeside links heights (links_at links at) b → b.depth < 8 → b.size < 64 → h.depth ≡ b.depth + 1 → h.size ≡ b.size + 1
    → IsHeight links blocked (set heights at (Some h)) at h
height_new links blocked heights at b h none free is low few d s = record {
  free = free;
  sound = sound_stays heights at h (links_at links at) none is.sound;
  tall = record {
    below = is.trees;
    trees = is.are_trees;
    small = (let e = is.depth_is in omega (arith, e, low), let e = is.size_is in omega (arith, e, few));
    depth_is = let e = is.depth_is in omega (arith, e, d);
    size_is = let e = is.size_is in omega (arith, e, s, few);
  };
  higher = λ to r.
      let e : depth_of (height_at (set heights at (Some h)) to) ≡ depth_of (height_at heights to) =
      ap depth_of (height_stays heights at to h none (sound_among heights (links_at links at) to is.sound r)) in
      let w = is.within to r in
      omega (arith, e, w, d);
}

some_same : (g h : Height) → Some g ≡ Some h → g ≡ h
some_same g h e = cc

-- one more object is found sound
pub heights_more : (links : Links) (blocked : List Bool) (heights : Heights) (at : ℕ) (b h : Height) → at < length heights → AreHeights links blocked heights
    → height_at heights at ≡ None → is_blocked blocked at ≡ false → IsBeside links heights (links_at links at) b → b.depth < 8 → b.size < 64
    → h.depth ≡ b.depth + 1 → h.size ≡ b.size + 1 → AreHeights links blocked (set heights at (Some h))
heights_more links blocked heights at b h l are none free is low few d s = λ k g found.
    elim (k == at) as (λ v. ((k == at) ≡ v) → IsHeight links blocked (set heights at (Some h)) k g) [
      | true ↦ λ e.
          let same : k ≡ at = same_place k at e in
          let here : height_at (set heights at (Some h)) at ≡ Some h = get_or-set_same heights at (Some h) None l in
          let it : h ≡ g = some_same h g (sym here ∙ ap (height_at (set heights at (Some h))) (sym same) ∙ found) in
          subst (λ (j : ℕ). IsHeight links blocked (set heights at (Some h)) j g) (sym same)
          (subst (λ (x : Height). IsHeight links blocked (set heights at (Some h)) at x) it (height_new links blocked heights at b h none free is low few d s))
      | false ↦ λ e.
          let other : k ≢ at = λ same. false≢true (sym e ∙ place_same k at same) in
          height_kept links blocked heights at k h g none (are k g (sym (get_or-set_other heights at k (Some h) None other) ∙ found))
    ] refl

pub settling_first : (links : Links) (blocked : List Bool) (heights : Heights) → length heights ≡ length links → AreHeights links blocked heights
    → IsSettling links blocked heights heights 0 false
settling_first links blocked heights long are = record {
  long = long;
  are_heights = are;
  fewer = λ t. absurd (false≢true t);
  same = λ _. refl;
  judged = λ _ at l. absurd (omega (arith, l));
}

-- a further object was found
pub settling_found : (links : Links) (blocked : List Bool) (before heights heights' : Heights) (at : ℕ) (found : Bool) → IsSettling links blocked before heights at found
    → length heights' ≡ length links → AreHeights links blocked heights' → unsettled heights' < unsettled heights → IsSettling links blocked before heights' (at + 1) true
settling_found links blocked before heights heights' at true is long are fewer = record {
  long = long;
  are_heights = are;
  fewer = λ _. (let f = is.fewer refl in omega (arith, f, fewer));
  same = λ f. absurd (false≢true (sym f));
  judged = λ f. absurd (false≢true (sym f));
}
settling_found links blocked before heights heights' at false is long are fewer = record {
  long = long;
  are_heights = are;
  fewer = λ _. (let e = ap unsettled (is.same refl) in omega (arith, e, fewer));
  same = λ f. absurd (false≢true (sym f));
  judged = λ f. absurd (false≢true (sym f));
}

-- it wasn't
pub settling_on : (links : Links) (blocked : List Bool) (before heights heights' : Heights) (at : ℕ) (found : Bool) → IsSettling links blocked before heights at found
    → heights' ≡ heights → IsJudged links blocked heights' at → IsSettling links blocked before heights' (at + 1) found
settling_on links blocked before heights heights' at found is same one =
    let P : Heights → Type 0 = λ hs. IsSettling links blocked before hs (at + 1) found in
    let Q : Heights → Type 0 = λ hs. IsJudged links blocked hs at in
    subst P (sym same) (record {
      long = is.long;
      are_heights = is.are_heights;
      fewer = is.fewer;
      same = is.same;
      judged = λ f k l. elim (k == at) as (λ v. ((k == at) ≡ v) → IsJudged links blocked heights k) [
        | true ↦ λ e. subst (λ (j : ℕ). IsJudged links blocked heights j) (sym (same_place k at e)) (subst Q same one)
        | false ↦ λ e. is.judged f k (let other : k ≢ at = λ s. false≢true (sym e ∙ place_same k at s) in omega (arith, l, other))
      ] refl;
    })

-- one more reference, which leads to an object of this height
pub beside_place : (links : Links) (heights : Heights) (xs : List (Option ℕ)) (place : Option ℕ) (b h c : Height) → AreTall links heights → IsBeside links heights xs b
    → height_behind heights place ≡ Some h → c.depth ≡ max b.depth h.depth → c.size ≡ min (b.size + h.size) 4294967295 → IsBeside links heights (xs ++ place ∷ []) c
beside_place links heights xs None b h c tall is found d s = absurd (false≢true (ap is_some found))
beside_place links heights xs (Some at) b h c tall is found d s = beside_more links heights xs at b h c tall is found d s

-- one more object was looked at
pub settling_more : (links : Links) (blocked : List Bool) (before heights heights' : Heights) (at : ℕ) (found here : Bool) → IsSettling links blocked before heights at found
    → length heights' ≡ length links → AreHeights links blocked heights' → OnTrue here (unsettled heights' < unsettled heights) → OnFalse here (heights' ≡ heights)
    → OnFalse here (IsJudged links blocked heights' at) → IsSettling links blocked before heights' (at + 1) (found || here)
settling_more links blocked before heights heights' at true true is long are fewer same one = settling_found links blocked before heights heights' at true is long are fewer
settling_more links blocked before heights heights' at false true is long are fewer same one = settling_found links blocked before heights heights' at false is long are fewer
settling_more links blocked before heights heights' at true false is long are fewer same one = settling_on links blocked before heights heights' at true is same one
settling_more links blocked before heights heights' at false false is long are fewer same one = settling_on links blocked before heights heights' at false is same one

-- the next reference, of these
pub beside_next : (links : Links) (heights : Heights) (items places : List (Option ℕ)) (i : ℕ) (b h c : Height) → items ≡ places → i < length items → AreTall links heights
    → IsBeside links heights (take i places) b → Some h ≡ height_behind heights (get_or items i None) → c.depth ≡ max b.depth h.depth → c.size ≡ min (b.size + h.size) 4294967295
    → IsBeside links heights (take (i + 1) places) c
beside_next links heights items places i b h c same l tall is found d s =
    let P : List (Option ℕ) → Type 0 = λ ps. IsBeside links heights ps c in
    let m : length items ≡ length places = ap length same in
    let k : i < length places = omega (arith, l, m) in
    subst P (sym (take_more places i None k))
    (beside_place links heights (take i places) (get_or places i None) b h c tall is (ap (λ ps. height_behind heights (get_or ps i None)) (sym same) ∙ sym found) d s)
