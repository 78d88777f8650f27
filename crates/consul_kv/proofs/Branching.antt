-- The branch of the first leaf.
use Rattle.std.proofs.Common.{◌≡◌, ◌≢◌, ℕ, zero, suc, ◌+◌, ◌-◌, ◌<◌, ◌≤◌, ◌⊎◌, inl, inr, Bool, true, ◌&&◌, nat_lt, List, [], ◌∷◌, ◌++◌, length, take, drop, map, get_or, refl, sym, ap, ap₂, ◌∙◌, subst, arith, append-nil}
use Rattle.std.specs.List.{prefix_len}
use Rattle.std.specs.List.Sorted.{IsStrictlySortedBy}
use Rattle.std.proofs.lemmas.Bool.{and_from, lt-ltb, cond-true}
use Rattle.std.proofs.lemmas.List.{length-append, length-map, length-drop, take_all}
use Rattle.std.proofs.lemmas.List.Sums.{prefix_len-le-length}
use Rattle.field_tree.specs.declared.tree.Tree.{Tree, fold-roll-Tree}
use Rattle.field_tree.specs.declared.tree.Tree.TheOpen.{Tree-F}
use Rattle.field_tree.specs.declared.tree.Tree.TheVariants as tree
use Rattle.field_tree.specs.declared.tree.Tree.TheVariants.{rolls-Text, rolls-Table}
use Rattle.consul_kv.specs.declared.grow.Leaf.{Leaf}
use Rattle.consul_kv.specs.Keys.{Pair, is_below}
use Rattle.consul_kv.specs.Leaves.{leaves, leaves_step, field_leaves, fields_grown, is_part, is_grown, grown_step, under}
use Rattle.consul_kv.specs.Rises.{Rises, first_part, slashed, cut, IsAhead, IsBranch}
use Rattle.consul_kv.specs.Grown.{leaf_view, paths_of}
use Rattle.consul_kv.proofs.Growing.{part_or_below, part_is_part, below_from, ahead_at_end, ahead_past, all_taken, under_all, AllBelow, cut_rises, rises_take, total, total_cut, total_take, IsGrownUpto}
use Rattle.consul_kv.proofs.Lists.{count_is}

part_whole : (b : List ℕ) → length (first_part b) ≡ length b → first_part b ≡ b
part_whole b e = by (part_or_below b)
  where
    by : (b ≡ first_part b) ⊎ ((rest : List ℕ) × (b ≡ first_part b ++ 47 ∷ rest)) → first_part b ≡ b
    by (inl w) = sym w
    by (inr (rest, w)) = let n : length b ≡ length (first_part b ++ 47 ∷ rest) = ap length w in absurd (omega (arith, n, e, length-append (first_part b) (47 ∷ rest)))

part_goes_on : (b : List ℕ) → length (first_part b) ≢ length b → is_below (first_part b) b ≡ true
part_goes_on b n = by (part_or_below b)
  where
    by : (b ≡ first_part b) ⊎ ((rest : List ℕ) × (b ≡ first_part b ++ 47 ∷ rest)) → is_below (first_part b) b ≡ true
    by (inl w) = absurd (n (ap length (sym w)))
    by (inr (rest, w)) = ap (is_below (first_part b)) w ∙ below_from (first_part b) rest

-- ---- what stands below a tree's root

leaves_text : (text : List ℕ) → leaves (tree.Text text) ≡ ([], text) ∷ []
leaves_text text = ap leaves (sym (rolls-Text text)) ∙ fold-roll-Tree (List Pair) leaves_step (Tree-F.Text text)

leaves_table : (fields : List (List ℕ × Tree)) → leaves (tree.Table fields) ≡ field_leaves fields
leaves_table fields = ap leaves (sym (rolls-Table fields)) ∙ fold-roll-Tree (List Pair) leaves_step (Tree-F.Table fields)

grown_text : (text : List ℕ) → is_grown (tree.Text text) ≡ true
grown_text text = ap is_grown (sym (rolls-Text text)) ∙ fold-roll-Tree Bool grown_step (Tree-F.Text text)

abbrev grown_field : List ℕ × Tree → List ℕ × Bool
grown_field f = (f.0, is_grown f.1)

grown_table : (fields : List (List ℕ × Tree)) → is_grown (tree.Table fields) ≡ (nat_lt 0 (length (map grown_field fields)) && fields_grown fields)
grown_table fields = ap is_grown (sym (rolls-Table fields)) ∙ fold-roll-Tree Bool grown_step (Tree-F.Table fields)

-- ---- the first leaf's branch

abbrev one_leaf : List ℕ → List ℕ → List Pair
one_leaf key text = (47 ∷ key, text) ∷ []

pub branch_end : (ls : List Leaf) (first : Leaf) (name text : List ℕ) → 0 < length ls → Rises (paths_of ls)
    → name ≡ first_part (get_or ls 0 first).path.now → length (first_part (get_or ls 0 first).path.now) ≡ length (get_or ls 0 first).path.now → text ≡ (get_or ls 0 first).text.now
    → IsBranch (paths_of ls) name (tree.Text text) 1
branch_end [] first name text l r n e t = absurd (omega (arith, l))
branch_end (leaf ∷ ls) first name text l r n e t =
    let whole : first_part leaf.path.now ≡ leaf.path.now = part_whole leaf.path.now e in
    record {
      some_ = omega arith;
      within = omega arith;
      named = n;
      texts = ap (map (under name)) (leaves_text text) ∙ ap₂ one_leaf (append-nil name ∙ n ∙ whole) t;
      part = ap is_part n ∙ part_is_part leaf.path.now;
      grown = grown_text text;
      ahead = subst (λ (k : List ℕ). IsAhead (k ∷ []) (paths_of ls)) (sym n) (ahead_at_end (leaf_view leaf) (paths_of ls) r whole);
    }

taken_of : (p : List ℕ) (leaf : Leaf) (ls : List Leaf) → is_below p leaf.path.now ≡ true
    → prefix_len (λ (l : Leaf). is_below p l.path.now) (leaf ∷ ls) ≡ suc (prefix_len (λ (l : Leaf). is_below p l.path.now) ls)
taken_of p leaf ls h = cond-true (is_below p leaf.path.now) _ _ h ∙ omega arith

pub taken_some : (ls : List Leaf) (first : Leaf) (taken : ℕ) → 0 < length ls
    → length (first_part (get_or ls 0 first).path.now) ≢ length (get_or ls 0 first).path.now
    → taken ≡ prefix_len (λ (l : Leaf). is_below (first_part (get_or ls 0 first).path.now) l.path.now) ls → 0 < taken
taken_some [] first taken l n e = absurd (omega (arith, l))
taken_some (leaf ∷ ls) first taken l n e =
    let m = taken_of (first_part leaf.path.now) leaf ls (part_goes_on leaf.path.now n) in
    omega (arith, e, m)

take_paths : (n : ℕ) (ls : List Leaf) → paths_of (take n ls) ≡ take n (paths_of ls)
take_paths zero ls = refl
take_paths (suc n) [] = refl
take_paths (suc n) (l ∷ ls) = ap (λ (ps : List Pair). leaf_view l ∷ ps) (take_paths n ls)

-- the leaves that are taken, by their paths
group_is : (p : List ℕ) (ls : List Leaf) (taken : ℕ) → taken ≡ prefix_len (λ (l : Leaf). is_below p l.path.now) ls
    → paths_of (take taken ls) ≡ take (prefix_len (λ (q : Pair). is_below p q.0) (paths_of ls)) (paths_of ls)
group_is p ls taken e = take_paths taken ls ∙ ap (λ (n : ℕ). take n (paths_of ls)) (e ∙ count_is p ls)

pub group_below : (p : List ℕ) (ls : List Leaf) (taken : ℕ) → taken ≡ prefix_len (λ (l : Leaf). is_below p l.path.now) ls → AllBelow p (paths_of (take taken ls))
group_below p ls taken e = subst (AllBelow p) (sym (group_is p ls taken e)) (all_taken p (paths_of ls))

pub below_rises : (p : List ℕ) (ls : List Leaf) (taken : ℕ) (below : List Pair) → taken ≡ prefix_len (λ (l : Leaf). is_below p l.path.now) ls
    → below ≡ map (cut (length p + 1)) (paths_of (take taken ls)) → Rises (paths_of ls) → Rises below
below_rises p ls taken below e b r =
    let group : Rises (paths_of (take taken ls)) = subst Rises (sym (take_paths taken ls)) (rises_take taken (paths_of ls) r) in
    subst Rises (sym b) (cut_rises p (paths_of (take taken ls)) (group_below p ls taken e) group)

length_taken : (n : ℕ) (ls : List Leaf) → n ≤ length ls → length (paths_of (take n ls)) ≡ n
length_taken zero ls h = refl
length_taken (suc n) [] h = absurd (omega (arith, h))
length_taken (suc n) (l ∷ ls) h = ap suc (length_taken n ls (omega (arith, h)))

pub below_total : (p : List ℕ) (ls : List Leaf) (taken : ℕ) (below : List Pair) → taken ≡ prefix_len (λ (l : Leaf). is_below p l.path.now) ls
    → below ≡ map (cut (length p + 1)) (paths_of (take taken ls)) → 0 < taken → total below < total (paths_of ls)
below_total p ls taken below e b some =
    let less = total_cut p (paths_of (take taken ls)) (group_below p ls taken e) in
    let same : total below ≡ total (map (cut (length p + 1)) (paths_of (take taken ls))) = ap total b in
    let part = total_take taken (paths_of ls) in
    let parted : total (paths_of (take taken ls)) ≡ total (take taken (paths_of ls)) = ap total (take_paths taken ls) in
    let fits = prefix_len-le-length (λ (l : Leaf). is_below p l.path.now) ls in
    let long : length (paths_of (take taken ls)) ≡ taken = length_taken taken ls (omega (arith, e, fits)) in
    omega (arith, less, same, part, parted, long, some)

-- what is taken isn't empty without the part
pub below_filled : (p : List ℕ) (ls : List Leaf) (taken : ℕ) (below : List Leaf) → taken ≡ prefix_len (λ (l : Leaf). is_below p l.path.now) ls
    → paths_of below ≡ map (cut (length p + 1)) (paths_of (take taken ls)) → 0 < taken → 0 < length below
below_filled p ls taken below e b some =
    let fits = prefix_len-le-length (λ (l : Leaf). is_below p l.path.now) ls in
    let long : length (paths_of (take taken ls)) ≡ taken = length_taken taken ls (omega (arith, e, fits)) in
    let same : length (paths_of below) ≡ length (map (cut (length p + 1)) (paths_of (take taken ls))) = ap length b in
    let left : length (paths_of below) ≡ length below = length-map below leaf_view in
    let right : length (map (cut (length p + 1)) (paths_of (take taken ls))) ≡ length (paths_of (take taken ls)) = length-map (paths_of (take taken ls)) (cut (length p + 1)) in
    omega (arith, long, same, left, right, some)

pub branch_below : (ls : List Leaf) (first : Leaf) (name : List ℕ) (fields : List (List ℕ × Tree)) (taken : ℕ) → 0 < length ls
    → Rises (paths_of ls) → name ≡ first_part (get_or ls 0 first).path.now → length (first_part (get_or ls 0 first).path.now) ≢ length (get_or ls 0 first).path.now
    → taken ≡ prefix_len (λ (l : Leaf). is_below (first_part (get_or ls 0 first).path.now) l.path.now) ls
    → field_leaves fields ≡ map slashed (map (cut (length (first_part (get_or ls 0 first).path.now) + 1)) (paths_of (take taken ls)))
    → fields_grown fields ≡ true → 0 < length fields
    → IsBranch (paths_of ls) name (tree.Table fields) taken
branch_below [] first name fields taken l r n w e t g f = absurd (omega (arith, l))
branch_below (leaf ∷ ls) first name fields taken l r n w e t g f =
    let p = first_part leaf.path.now in
    let some : 0 < taken = taken_some (leaf ∷ ls) first taken l w e in
    let count : taken ≡ suc (prefix_len (λ (k : Leaf). is_below p k.path.now) ls) = e ∙ taken_of p leaf ls (part_goes_on leaf.path.now w) in
    let fits = prefix_len-le-length (λ (k : Leaf). is_below p k.path.now) ls in
    let after : drop taken (paths_of (leaf ∷ ls)) ≡ drop (prefix_len (λ (q : Pair). is_below p q.0) (paths_of ls)) (paths_of ls) =
    ap (λ (m : ℕ). drop m (paths_of (leaf ∷ ls))) (count ∙ ap suc (count_is p ls)) in
    let filled : 0 < length (map grown_field fields) = omega (arith, f, length-map fields grown_field) in
    record {
      some_ = some;
      within = omega (arith, count, fits, length-map ls leaf_view);
      named = n;
      texts = ap (map (under name)) (leaves_table fields) ∙ ap (map (under name)) t
          ∙ subst (λ (k : List ℕ). map (under k) (map slashed (map (cut (length p + 1)) (paths_of (take taken (leaf ∷ ls))))) ≡ map slashed (paths_of (take taken (leaf ∷ ls)))) (sym n)
          (under_all p (paths_of (take taken (leaf ∷ ls))) (group_below p (leaf ∷ ls) taken e))
          ∙ ap (map slashed) (take_paths taken (leaf ∷ ls));
      part = ap is_part n ∙ part_is_part leaf.path.now;
      grown = grown_table fields ∙ and_from (nat_lt 0 (length (map grown_field fields))) (fields_grown fields) (lt-ltb 0 (length (map grown_field fields)) filled) g;
      ahead = subst (λ (k : List ℕ). IsAhead (k ∷ []) (drop taken (paths_of (leaf ∷ ls)))) (sym n) (subst (IsAhead (p ∷ [])) (sym after) (ahead_past (leaf_view leaf) (paths_of ls) r.0));
    }

pub drop_paths : (n : ℕ) (ls : List Leaf) → paths_of (drop n ls) ≡ drop n (paths_of ls)
drop_paths zero ls = refl
drop_paths (suc n) [] = refl
drop_paths (suc n) (l ∷ ls) = drop_paths n ls

-- the leaves from a place on, as a slice has them
slice_is : (n : ℕ) (ls : List Leaf) → take (length ls - n) (drop n ls) ≡ drop n ls
slice_is n ls = take_all (length ls - n) (drop n ls) (omega (arith, length-drop n ls))

pub slice_paths : (n : ℕ) (ls : List Leaf) → paths_of (take (length ls - n) (drop n ls)) ≡ drop n (paths_of ls)
slice_paths n ls = ap paths_of (slice_is n ls) ∙ drop_paths n ls

pub slice_filled : (n : ℕ) (ls : List Leaf) → n < length ls → 0 < length (take (length ls - n) (drop n ls))
slice_filled n ls h = let same : length (take (length ls - n) (drop n ls)) ≡ length (drop n ls) = ap length (slice_is n ls) in omega (arith, h, same, length-drop n ls)

pub nothing_grown : (ps : List Pair) → IsGrownUpto ps 0 []
unfolding IsStrictlySortedBy
nothing_grown [] = record { within = omega arith; texts = refl; grown = refl; rising = tt; ahead = tt; filled = λ h. absurd (omega (arith, h)) }
nothing_grown (p ∷ ps) = record { within = omega arith; texts = refl; grown = refl; rising = tt; ahead = tt; filled = λ h. absurd (omega (arith, h)) }
