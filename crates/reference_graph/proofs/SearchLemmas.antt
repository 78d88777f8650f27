-- How a search goes on, and what it has found at its end.
use Rattle.std.proofs.Common.{◌≡◌, ◌∙◌, ℕ, ◌<◌, ◌⊎◌, inl, inr, List, [], ◌∷◌, ◌++◌, length, get_or, Bool, true, false, Option, Some, refl, sym, ap, subst, arith, ◌==◌, ◌||◌, rules, zero, suc}
use Rattle.std.specs.List.{list_any}
use Rattle.std.proofs.lemmas.Bool.{false≢true}
use Rattle.std.proofs.lemmas.List.Folds.{list_any-append}
use Rattle.reference_graph.specs.Links.{Links, refers, is_among, is_to, links_at, AreWithin}
use Rattle.reference_graph.specs.Reaching.{Leads, Reaches}
use Rattle.reference_graph.specs.Search.{IsMarked, IsUnderWay, was_seen, is_in}

pub or_true : (a b : Bool) → (a || b) ≡ true → (a ≡ true) ⊎ (b ≡ true)
or_true true b h = inl refl
or_true false b h = inr h

pub or_left : (a b : Bool) → a ≡ true → (a || b) ≡ true
or_left true b h = refl
or_left false b h = absurd (false≢true h)

pub or_right : (a b : Bool) → b ≡ true → (a || b) ≡ true
or_right true b h = refl
or_right false b h = h

-- the one or the other list has one that passes
pub any_either : {X : Type 0} (p : X → Bool) (xs ys : List X) → list_any p (xs ++ ys) ≡ true → (list_any p xs ≡ true) ⊎ (list_any p ys ≡ true)
any_either p xs ys h = or_true (list_any p xs) (list_any p ys) (sym (list_any-append p xs ys) ∙ h)

pub any_left : {X : Type 0} (p : X → Bool) (xs ys : List X) → list_any p xs ≡ true → list_any p (xs ++ ys) ≡ true
any_left p xs ys h = list_any-append p xs ys ∙ or_left (list_any p xs) (list_any p ys) h

pub any_right : {X : Type 0} (p : X → Bool) (xs ys : List X) → list_any p ys ≡ true → list_any p (xs ++ ys) ≡ true
any_right p xs ys h = list_any-append p xs ys ∙ or_right (list_any p xs) (list_any p ys) h

-- an element alone
pub any_one : {X : Type 0} (p : X → Bool) (x : X) → list_any p (x ∷ []) ≡ true → p x ≡ true
any_one p x h = elim (or_true (p x) false h) [ inl t ↦ t | inr f ↦ absurd (false≢true f) ]

pub one_any : {X : Type 0} (p : X → Bool) (x : X) → p x ≡ true → list_any p (x ∷ []) ≡ true
one_any p x h = or_left (p x) false h

pub same_place : (at to : ℕ) → (at == to) ≡ true → at ≡ to
same_place at to h = search rules

pub place_same : (at to : ℕ) → at ≡ to → (at == to) ≡ true
place_same at to h = search rules

-- one reference more
leads_on : (links : Links) (from : ℕ) (via : List ℕ) (at to : ℕ) → Leads links from via at → refers links at to ≡ true → Leads links from (via ++ at ∷ []) to
leads_on links from [] at to h r = (h, r)
leads_on links from (next ∷ via) at to h r = (h.0, leads_on links next via at to h.1 r)

pub reaches_on : (links : Links) (from at to : ℕ) → (at ≡ from) ⊎ Reaches links from at → refers links at to ≡ true → Reaches links from to
reaches_on links from at to (inl same) r = ([], subst (λ (x : ℕ). refers links x to ≡ true) same r)
reaches_on links from at to (inr h) r = (h.0 ++ at ∷ [], leads_on links from h.0 at to h.1 r)

-- the references of one service are looked at
pub under_way_more : (links : Links) (from at : ℕ) (seen seen' : List Bool) (rest todo' : List ℕ) → AreWithin links → IsUnderWay links from seen (rest ++ at ∷ [])
    → IsMarked (links_at links at) seen rest seen' todo' → IsUnderWay links from seen' todo'
under_way_more links from at seen seen' rest todo' within u m =
    let here : is_in (rest ++ at ∷ []) at ≡ true = any_right (λ (place : ℕ). place == at) rest (at ∷ []) (one_any (λ (place : ℕ). place == at) at (place_same at at refl)) in
    record {
      long = m.long ∙ u.long;
      inside = λ x h. elim (m.comes x h) [
        | inl y ↦ u.inside x (any_left (λ (place : ℕ). place == x) rest (at ∷ []) y)
        | inr y ↦ within at x y
      ];
      begun = λ x h. elim (m.comes x h) [
        | inl y ↦ u.begun x (any_left (λ (place : ℕ). place == x) rest (at ∷ []) y)
        | inr y ↦ inr (reaches_on links from at x (u.begun at here) y)
      ];
      found = λ x h. elim (m.no_more x h) [
        | inl y ↦ u.found x y
        | inr y ↦ reaches_on links from at x (u.begun at here) y
      ];
      closed = λ z to known r. closed_more links from at seen seen' rest todo' u m z to known r;
    }
  where
    closed_old : (links : Links) (from at : ℕ) (seen seen' : List Bool) (rest todo' : List ℕ) → IsUnderWay links from seen (rest ++ at ∷ [])
        → IsMarked (links_at links at) seen rest seen' todo' → (z to : ℕ) → (z ≡ from) ⊎ (was_seen seen z ≡ true) → refers links z to ≡ true
        → (is_in todo' z ≡ true) ⊎ (was_seen seen' to ≡ true)
    closed_old links from at seen seen' rest todo' u m z to known r = elim (u.closed z to known r) [
      | inl t ↦ elim (any_either (λ (place : ℕ). place == z) rest (at ∷ []) t) [
        | inl y ↦ inl (m.stays z y)
        | inr y ↦ inr (m.marked to (subst (λ (x : ℕ). refers links x to ≡ true) (sym (same_place at z (any_one (λ (place : ℕ). place == z) at y))) r))
      ]
      | inr t ↦ inr (m.kept to t)
    ]

    closed_more : (links : Links) (from at : ℕ) (seen seen' : List Bool) (rest todo' : List ℕ) → IsUnderWay links from seen (rest ++ at ∷ [])
        → IsMarked (links_at links at) seen rest seen' todo' → (z to : ℕ) → (z ≡ from) ⊎ (was_seen seen' z ≡ true) → refers links z to ≡ true
        → (is_in todo' z ≡ true) ⊎ (was_seen seen' to ≡ true)
    closed_more links from at seen seen' rest todo' u m z to (inl same) r = closed_old links from at seen seen' rest todo' u m z to (inl same) r
    closed_more links from at seen seen' rest todo' u m z to (inr was) r = elim (m.queued z was) [
      | inl y ↦ closed_old links from at seen seen' rest todo' u m z to (inr y) r
      | inr y ↦ inl y
    ]

reached_is_seen : (links : Links) (from : ℕ) (seen : List Bool) → IsUnderWay links from seen [] → (via : List ℕ) (at to : ℕ) → (at ≡ from) ⊎ (was_seen seen at ≡ true)
    → Leads links at via to → was_seen seen to ≡ true
reached_is_seen links from seen u [] at to known r = elim (u.closed at to known r) [ inl t ↦ absurd (false≢true t) | inr t ↦ t ]
reached_is_seen links from seen u (next ∷ via) at to known r =
    let there : was_seen seen next ≡ true = elim (u.closed at next known r.0) [ inl t ↦ absurd (false≢true t) | inr t ↦ t ] in
    reached_is_seen links from seen u via next to (inr there) r.1

-- where nothing waits any more, all that is reached was seen
pub all_seen : (links : Links) (from : ℕ) (seen : List Bool) → IsUnderWay links from seen [] → (to : ℕ) → Reaches links from to → was_seen seen to ≡ true
all_seen links from seen u to r = reached_is_seen links from seen u r.0 from to (inl refl) r.1

-- what stands at an index is among them
pub among_at : (places : List (Option ℕ)) (i at : ℕ) (d : Option ℕ) → i < length places → get_or places i d ≡ Some at → is_among at places ≡ true
among_at [] i at d l is = absurd (omega (arith, l))
among_at (q ∷ places) zero at d l is = or_left (is_to at q) (is_among at places) (ap (is_to at) is ∙ place_same at at refl)
among_at (q ∷ places) (suc i) at d l is = or_right (is_to at q) (is_among at places) (among_at places i at d (omega (arith, l)) is)

pub popped_in : (todo rest : List ℕ) (at : ℕ) → todo ≡ rest ++ at ∷ [] → is_in todo at ≡ true
popped_in todo rest at e =
    let last : is_in (rest ++ at ∷ []) at ≡ true = any_right (λ (place : ℕ). place == at) rest (at ∷ []) (one_any (λ (place : ℕ). place == at) at (place_same at at refl)) in
    ap (λ (ps : List ℕ). is_in ps at) e ∙ last

none_left : (todo : List ℕ) → length todo ≡ 0 → todo ≡ []
none_left [] e = refl
none_left (at ∷ todo) e = absurd (omega (arith, e))

pub all_seen_at_end : (links : Links) (from : ℕ) (seen : List Bool) (todo : List ℕ) → length todo ≡ 0 → IsUnderWay links from seen todo → (to : ℕ) → Reaches links from to → was_seen seen to ≡ true
all_seen_at_end links from seen todo e u = all_seen links from seen (subst (λ (ps : List ℕ). IsUnderWay links from seen ps) (none_left todo e) u)
