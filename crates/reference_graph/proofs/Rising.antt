-- An object has its number after those that it refers to.
use Rattle.std.proofs.Common.{◌≡◌, ◌∙◌, ℕ, ◌+◌, ◌<◌, inl, inr, List, [], ◌∷◌, ◌++◌, length, get_or, take, Bool, true, false, Option, Some, None, is_some, refl, sym, ap, subst, arith, zero, suc, ◌==◌, ◌||◌, append_assoc, append-nil, if◌then◌else◌}
use Rattle.std.proofs.lemmas.Bool.{false≢true}
use Rattle.reference_graph.specs.Links.{Links, refers, is_among, links_at}
use Rattle.reference_graph.specs.Search.{is_in}
use Rattle.reference_graph.specs.Numbering.{first_without, GoesDown, AreNext, IsNumbering, number_from, number_of}
use Rattle.reference_graph.proofs.SearchLemmas.{or_true, same_place}

-- where none is without, each of them passes
none_without : (p : ℕ → Bool) (places : List (Option ℕ)) (to : ℕ) → first_without p places ≡ None → is_among to places ≡ true → p to ≡ true
none_without p [] to none among = absurd (false≢true among)
none_without p (None ∷ places) to none among = none_without p places to none among
none_without p (Some k ∷ places) to none among = elim (p k) as (λ v. (p k ≡ v) → ((if v then first_without p places else Some k) ≡ None) → p to ≡ true) [
  | true ↦ λ e t. elim (or_true (k == to) (is_among to places) among) [
    | inl same ↦ ap p (sym (same_place k to same)) ∙ e
    | inr more ↦ none_without p places to t more
  ]
  | false ↦ λ e t. absurd (false≢true (sym (ap is_some t)))
] refl none

ends_without : (links : Links) (p : ℕ → Bool) (from : ℕ) (between : List ℕ) (at : ℕ) → GoesDown links p from between at → first_without p (links_at links at) ≡ None
ends_without links p from [] at d = d.1
ends_without links p from (next ∷ between) at d = ends_without links p next between at d.1

numbered_before : (links : Links) (sound : ℕ → Bool) (done order : List ℕ) (n at to : ℕ) → AreNext links sound done order → n < length order → get_or order n at ≡ at
    → refers links at to ≡ true → is_in (done ++ take n order) to ≡ true
numbered_before links sound done [] n at to are l here r = absurd (omega (arith, l))
numbered_before links sound done (x ∷ order) zero at to are l here r =
    let is = are.0 in
    let end : first_without (is_in done) (links_at links at) ≡ None =
    subst (λ (k : ℕ). first_without (is_in done) (links_at links k) ≡ None) here (ends_without links (is_in done) is.first is.between x is.down) in
    ap (λ (ps : List ℕ). is_in ps to) (append-nil done) ∙ none_without (is_in done) (links_at links at) to end r
numbered_before links sound done (x ∷ order) (suc n) at to are l here r =
    ap (λ (ps : List ℕ). is_in ps to) (sym (append_assoc done (x ∷ []) (take n order))) ∙ numbered_before links sound (done ++ x ∷ []) order n at to are.1 (omega (arith, l)) here r

number_early : (m : ℕ) (order : List ℕ) (n to : ℕ) → is_in (take n order) to ≡ true → (k : ℕ) × (number_from m order to ≡ Some k) × (k < m + n)
number_early m [] zero to among = absurd (false≢true among)
number_early m [] (suc n) to among = absurd (false≢true among)
number_early m (x ∷ order) zero to among = absurd (false≢true among)
number_early m (x ∷ order) (suc n) to among = elim (x == to) as (λ v. ((v || is_in (take n order) to) ≡ true) → (k : ℕ) × ((if v then Some m else number_from (m + 1) order to) ≡ Some k) × (k < m + suc n)) [
  | true ↦ λ _. (m, refl, omega arith)
  | false ↦ λ t. let h = number_early (m + 1) order n to t in (h.0, h.1, (let l = h.2 in omega (arith, l)))
] among

pub numbers_rise : (links : Links) (sound : ℕ → Bool) (order : List ℕ) (n at to : ℕ) → IsNumbering links sound order → n < length order → get_or order n at ≡ at
    → refers links at to ≡ true → (k : ℕ) × (number_of order to ≡ Some k) × (k < n)
numbers_rise links sound order n at to is l here r =
    let h = number_early 0 order n to (numbered_before links sound [] order n at to is.next l here r) in
    (h.0, h.1, (let k = h.2 in omega (arith, k)))
