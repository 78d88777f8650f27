-- How one number after another is given.
use Rattle.std.proofs.Common.{◌≡◌, ◌≢◌, ◌∙◌, ℕ, ◌+◌, ◌<◌, List, [], ◌∷◌, ◌++◌, length, get_or, set, Bool, true, false, Option, Some, None, is_some, refl, sym, ap, subst, arith, ◌==◌, ◌||◌, append_assoc, append-nil, if◌then◌else◌, sum_by, replicate, zero, suc}
use Rattle.std.proofs.lemmas.Grind.{common_steps}
use Rattle.std.proofs.lemmas.Bool.{false≢true}
use Rattle.std.proofs.lemmas.List.{get_or-set_same, get_or-set_other, get_or_default, length-append}
use Rattle.std.proofs.lemmas.List.Sums.{sum_by-set}
use Rattle.std.proofs.lemmas.List.Folds.{sum_by-replicate}
use Rattle.reference_graph.specs.Links.{Links, is_among, links_at, AreWithin}
use Rattle.reference_graph.specs.Heights.{Heights, height_at, is_sound, depth_of}
use Rattle.reference_graph.specs.Search.{is_in}
use Rattle.reference_graph.specs.Numbering.{first_without, GoesDown, IsNext, AreNext, number_from, number_of, number_in, has_number, AreNumbers, AreLayered, AreOfSound, IsNumberedBelow, unnumbered}
use Rattle.reference_graph.specs.declared.height.Height.{Height}
use Rattle.reference_graph.proofs.SearchLemmas.{any_left, same_place, place_same, or_left, or_right}
use Rattle.reference_graph.proofs.HeightLemmas.{sound_among}

-- what is found is among the references, and has no number
first_is_among : (p : ℕ → Bool) (places : List (Option ℕ)) (at : ℕ) → first_without p places ≡ Some at → (is_among at places ≡ true) × (p at ≡ false)
first_is_among p [] at h = absurd (false≢true (ap is_some h))
first_is_among p (None ∷ places) at h = first_is_among p places at h
first_is_among p (Some k ∷ places) at h = elim (p k) as (λ v. (p k ≡ v) → ((if v then first_without p places else Some k) ≡ Some at) → (is_among at (Some k ∷ places) ≡ true) × (p at ≡ false)) [
  | true ↦ λ e t. let is = first_is_among p places at t in (or_right (k == at) (is_among at places) is.0, is.1)
  | false ↦ λ e t. let same : k ≡ at = some_same k at t in (or_left (k == at) (is_among at places) (place_same k at same), ap p (sym same) ∙ e)
] refl h
  where
    some_same : (a b : ℕ) → Some a ≡ Some b → a ≡ b
    some_same a b e = cc

-- two tests that agree find the same
pub first_same : (p q : ℕ → Bool) (places : List (Option ℕ)) → ((k : ℕ) → p k ≡ q k) → first_without p places ≡ first_without q places
first_same p q [] agree = refl
first_same p q (None ∷ places) agree = first_same p q places agree
first_same p q (Some k ∷ places) agree = ap (λ v. if v then first_without p places else Some k) (agree k) ∙ ap (λ t. if q k then t else Some k) (first_same p q places agree)

down_same : (links : Links) (p q : ℕ → Bool) (from : ℕ) (between : List ℕ) (at : ℕ) → ((k : ℕ) → p k ≡ q k) → GoesDown links p from between at → GoesDown links q from between at
down_same links p q from [] at agree d = (d.0, sym (first_same p q (links_at links at) agree) ∙ d.1)
down_same links p q from (next ∷ between) at agree d = (sym (first_same p q (links_at links from) agree) ∙ d.0, down_same links p q next between at agree d.1)

-- what has its number is among the numbered ones
number_is_in : (n : ℕ) (order : List ℕ) (k : ℕ) → is_some (number_from n order k) ≡ is_in order k
number_is_in n [] k = refl
number_is_in n (x ∷ order) k = elim (x == k) as (λ v. is_some (if v then Some n else number_from (n + 1) order k) ≡ (v || is_in order k)) [
  | true ↦ refl
  | false ↦ number_is_in (n + 1) order k
]

number_last : (n : ℕ) (order : List ℕ) (at : ℕ) → is_in order at ≡ false → number_from n (order ++ at ∷ []) at ≡ Some (n + length order)
number_last n [] at fresh = ap (λ v. if v then Some n else None) (place_same at at refl) ∙ ap Some (omega arith)
number_last n (x ∷ order) at fresh = elim (x == at) as (λ v. ((v || is_in order at) ≡ false) → (if v then Some n else number_from (n + 1) (order ++ at ∷ []) at) ≡ Some (n + length (x ∷ order))) [
  | true ↦ λ t. absurd (false≢true (sym t))
  | false ↦ λ t. number_last (n + 1) order at t ∙ ap Some (omega arith)
] fresh

number_other : (n : ℕ) (order : List ℕ) (at k : ℕ) → k ≢ at → number_from n (order ++ at ∷ []) k ≡ number_from n order k
number_other n [] at k other = elim (at == k) as (λ v. ((at == k) ≡ v) → (if v then Some n else None) ≡ None) [
  | true ↦ λ e. absurd (other (sym (same_place at k e)))
  | false ↦ λ e. refl
] refl
number_other n (x ∷ order) at k other = ap (λ t. if x == k then Some n else t) (number_other (n + 1) order at k other)

-- the numbers and the order agree on what has a number
pub numbers_agree : (order : List ℕ) (numbers : List (Option ℕ)) → AreNumbers order numbers → (k : ℕ) → has_number numbers k ≡ is_in order k
numbers_agree order numbers are k = ap is_some (are k) ∙ number_is_in 0 order k

numbers_more : (order : List ℕ) (numbers : List (Option ℕ)) (at : ℕ) → at < length numbers → AreNumbers order numbers → has_number numbers at ≡ false
    → AreNumbers (order ++ at ∷ []) (set numbers at (Some (length order)))
numbers_more order numbers at l are none = λ k. elim (k == at) as (λ v. ((k == at) ≡ v) → number_in (set numbers at (Some (length order))) k ≡ number_of (order ++ at ∷ []) k) [
  | true ↦ λ e.
      let same : k ≡ at = same_place k at e in
      let here : number_in (set numbers at (Some (length order))) at ≡ number_of (order ++ at ∷ []) at =
      get_or-set_same numbers at (Some (length order)) None l ∙ ap Some (let z : length order ≡ 0 + length order = omega arith in z) ∙ sym (number_last 0 order at (sym (numbers_agree order numbers are at) ∙ none)) in
      subst (λ (j : ℕ). number_in (set numbers at (Some (length order))) j ≡ number_of (order ++ at ∷ []) j) (sym same) here
  | false ↦ λ e.
      let other : k ≢ at = λ same. false≢true (sym e ∙ place_same k at same) in
      get_or-set_other numbers at k (Some (length order)) None other ∙ are k ∙ sym (number_other 0 order at k other)
] refl

next_push : (links : Links) (sound : ℕ → Bool) (done order : List ℕ) (at : ℕ) → AreNext links sound done order → IsNext links sound (is_in (done ++ order)) at
    → AreNext links sound done (order ++ at ∷ [])
next_push links sound done [] at are next =
    let P : List ℕ → Type 0 = λ ps. IsNext links sound (is_in ps) at in
    (subst P (append-nil done) next, tt)
next_push links sound done (x ∷ order) at are next =
    let P : List ℕ → Type 0 = λ ps. IsNext links sound (is_in ps) at in
    (are.0, next_push links sound (done ++ x ∷ []) order at are.1 (subst P (sym (append_assoc done (x ∷ []) order)) next))

-- the number goes to a sound one
of_sound_more : (sound : ℕ → Bool) (numbers : List (Option ℕ)) (at n : ℕ) → sound at ≡ true → AreOfSound sound numbers → AreOfSound sound (set numbers at (Some n))
of_sound_more sound numbers at n here are = λ k has. elim (k == at) as (λ v. ((k == at) ≡ v) → sound k ≡ true) [
  | true ↦ λ e. ap sound (same_place k at e) ∙ here
  | false ↦ λ e.
      let other : k ≢ at = λ same. false≢true (sym e ∙ place_same k at same) in
      are k (sym (ap is_some (get_or-set_other numbers at k (Some n) None other)) ∙ has)
] refl

none_counts : (o : Option ℕ) → is_some o ≡ false → unnumbered o ≡ 1
none_counts None h = refl
none_counts (Some k) h = absurd (false≢true (sym h))

-- one number more, and one object less without
counted_more : (order : List ℕ) (numbers : List (Option ℕ)) (at n : ℕ) → at < length numbers → has_number numbers at ≡ false → length order + sum_by unnumbered numbers ≡ n
    → length (order ++ at ∷ []) + sum_by unnumbered (set numbers at (Some (length order))) ≡ n
counted_more order numbers at n l fresh sum =
    let moved = sum_by-set unnumbered numbers at (Some (length order)) None l in
    let one : unnumbered (get_or numbers at None) ≡ 1 = none_counts (number_in numbers at) fresh in
    let long = length-append order (at ∷ []) in
    omega (arith, moved, one, long, sum)

-- none has its number yet
pub none_numbered : (n k : ℕ) → has_number (replicate n None) k ≡ false
none_numbered zero k = refl
none_numbered (suc n) zero = refl
none_numbered (suc n) (suc k) = none_numbered n k

pub all_unnumbered : (n : ℕ) → sum_by unnumbered (replicate n None) ≡ n
all_unnumbered n = sum_by-replicate unnumbered n None ∙ (omega arith)

-- one more number is given
pub numbered_more : (links : Links) (heights : Heights) (first at : ℕ) (order : List ℕ) (numbers : List (Option ℕ)) → at < length links → is_sound heights first ≡ true
    → is_sound heights at ≡ true → has_number numbers first ≡ false → has_number numbers at ≡ false → (between : List ℕ) → GoesDown links (has_number numbers) first between at
    → IsNumberedBelow links (is_sound heights) first order numbers → IsNumberedBelow links (is_sound heights) first (order ++ at ∷ []) (set numbers at (Some (length order)))
numbered_more links heights first at order numbers l sound here none fresh between down is =
    let agree = numbers_agree order numbers is.numbers_are in
    let inside : at < length numbers = let e = is.long in omega (arith, e, l) in
    record {
      long = (grind (arith, common_steps)) ∙ is.long;
      numbers_are = numbers_more order numbers at inside is.numbers_are fresh;
      next = next_push links (is_sound heights) [] order at is.next (record {
        first = first;
        is_sound_one = sound;
        has_none = sym (agree first) ∙ none;
        is_first = is.all;
        between = between;
        down = down_same links (has_number numbers) (is_in order) first between at agree down;
      });
      all = λ k lk s. any_left (λ (place : ℕ). place == k) order (at ∷ []) (is.all k lk s);
      of_sound = of_sound_more (is_sound heights) numbers at (length order) here is.of_sound;
      counted = counted_more order numbers at (length links) inside fresh is.counted;
    }

-- the first one has its number too
pub numbered_upto : (links : Links) (heights : Heights) (first : ℕ) (order : List ℕ) (numbers : List (Option ℕ)) → IsNumberedBelow links (is_sound heights) first order numbers
    → (is_sound heights first ≡ true → has_number numbers first ≡ true) → IsNumberedBelow links (is_sound heights) (first + 1) order numbers
numbered_upto links heights first order numbers is has = record {
  long = is.long;
  numbers_are = is.numbers_are;
  next = is.next;
  all = λ k l s. elim (k == first) as (λ v. ((k == first) ≡ v) → is_in order k ≡ true) [
    | true ↦ λ e.
        let same : k ≡ first = same_place k first e in
        sym (numbers_agree order numbers is.numbers_are k) ∙ ap (has_number numbers) same ∙ has (ap (is_sound heights) (sym same) ∙ s)
    | false ↦ λ e. is.all k (let other : k ≢ first = λ same. false≢true (sym e ∙ place_same k first same) in omega (arith, l, other)) s
  ] refl;
  of_sound = is.of_sound;
  counted = is.counted;
}

pub record GoesOn (links : Links) (heights : Heights) (numbers : List (Option ℕ)) (first at : ℕ) : Type 0 where
  pub inside : at < length links
  pub sound : is_sound heights at ≡ true
  pub has_none : has_number numbers at ≡ false
  pub down : (between : List ℕ) (to : ℕ) → GoesDown links (has_number numbers) at between to → (before : List ℕ) × GoesDown links (has_number numbers) first before to

sound_height : (o : Option Height) → is_some o ≡ true → (h : Height) × (o ≡ Some h)
sound_height None s = absurd (false≢true s)
sound_height (Some h) s = (h, refl)

pub goes_on_more : (links : Links) (heights : Heights) (numbers : List (Option ℕ)) (first at next : ℕ) → AreWithin links → AreLayered links heights
    → GoesOn links heights numbers first at → first_without (has_number numbers) (links_at links at) ≡ Some next → GoesOn links heights numbers first next
goes_on_more links heights numbers first at next within layered on found =
    let is = first_is_among (has_number numbers) (links_at links at) next found in
    let h = sound_height (height_at heights at) on.sound in
    record {
      inside = within at next is.0;
      sound = sound_among heights (links_at links at) next (layered at h.0 h.1).sound is.0;
      has_none = is.1;
      down = λ between to d. on.down (next ∷ between) to (found, d);
    }

pub goes_lower : (links : Links) (heights : Heights) (numbers : List (Option ℕ)) (first at next : ℕ) → AreLayered links heights
    → GoesOn links heights numbers first at → first_without (has_number numbers) (links_at links at) ≡ Some next → depth_of (height_at heights next) < depth_of (height_at heights at)
goes_lower links heights numbers first at next layered on found =
    let is = first_is_among (has_number numbers) (links_at links at) next found in
    let h = sound_height (height_at heights at) on.sound in
    let l = (layered at h.0 h.1).higher next is.0 in
    let e = ap depth_of h.1 in
    omega (arith, e, l)

pub goes_no_more : (links : Links) (heights : Heights) (numbers : List (Option ℕ)) (first at : ℕ) → GoesOn links heights numbers first at
    → first_without (has_number numbers) (links_at links at) ≡ None → (between : List ℕ) × GoesDown links (has_number numbers) first between at
goes_no_more links heights numbers first at on none = on.down [] at (refl, none)

-- what is read at a place
pub has_number_read : (numbers : List (Option ℕ)) (at : ℕ) (r : Option ℕ) → at < length numbers → r ≡ get_or numbers at r → has_number numbers at ≡ is_some r
has_number_read numbers at r l e = ap is_some (get_or_default numbers at None r l ∙ sym e)

-- one more number is given, at the end of the order
pub numbered_pushed : (links : Links) (heights : Heights) (first at n : ℕ) (order order' : List ℕ) (numbers : List (Option ℕ)) → order' ≡ order ++ at ∷ [] → n ≡ length order
    → IsNumberedBelow links (is_sound heights) first (order ++ at ∷ []) (set numbers at (Some (length order)))
    → IsNumberedBelow links (is_sound heights) first order' (set numbers at (Some n))
numbered_pushed links heights first at n order order' numbers e m is =
    let P : List ℕ → Type 0 = λ ps. IsNumberedBelow links (is_sound heights) first ps (set numbers at (Some n)) in
    let Q : ℕ → Type 0 = λ k. IsNumberedBelow links (is_sound heights) first (order ++ at ∷ []) (set numbers at (Some k)) in
    subst P (sym e) (subst Q (sym m) is)
