-- What is known of the services that have numbers.
use Rattle.std.proofs.Common.{◌≡◌, ◌∙◌, ℕ, ◌<◌, ◌^◌, List, [], ◌∷◌, length, get_or, All, Bool, true, false, Option, Some, None, is_some, is_none, nat_lt, refl, sym, ap, subst, arith, zero, suc, ◌==◌}
use Rattle.std.specs.Prelude.{slice_get}
use Rattle.std.specs.List.{list_all}
use Rattle.std.proofs.lemmas.Bool.{false≢true, ltb-true}
use Rattle.std.proofs.lemmas.List.Folds.{list_any_at}
use Rattle.reference_graph.specs.Links.{links_at, refers, is_to, is_among}
use Rattle.reference_graph.specs.Heights.{is_sound}
use Rattle.reference_graph.specs.Search.{is_in}
use Rattle.reference_graph.specs.Numbering.{IsNumbering, number_of, number_in}
use Rattle.reference_graph.proofs.SearchLemmas.{place_same}
use Rattle.reference_graph.proofs.HeightLemmas.{and_first, and_second}
use Rattle.reference_graph.proofs.NumberLemmas.{numbers_agree}
use Rattle.reference_graph.proofs.Rising.{numbers_rise}
use Rattle.service_faults.specs.Faults.{State, IsFree, IsState}
use Rattle.service_faults.specs.Judgements.{IsJudgement, is_sound_service}
use Rattle.service_faults.specs.References.{ServiceEntry, places_of, links_of}
use Rattle.service_faults.specs.declared.judgement.Judgement.{Judgement}
use Rattle.service_nodes.specs.Nodes.{number_behind}
use Rattle.service_nodes.specs.Ready.{AreNumbered, IsReady}
use Rattle.service_nodes.proofs.Making.{links_there}

entry_at : (services : List ServiceEntry) (at : ℕ) → at < length services → (e : ServiceEntry) × (slice_get services at ≡ Some e)
entry_at [] at l = absurd (omega (arith, l))
entry_at (e ∷ services) zero l = (e, refl)
entry_at (e ∷ services) (suc at) l = entry_at services at (omega (arith, l))

none_is : (s : State) → is_none s ≡ true → s ≡ None
none_is None h = refl
none_is (Some f) h = absurd (false≢true h)

some_at : (o : Option ℕ) → is_some o ≡ true → (n : ℕ) × (o ≡ Some n)
some_at None h = absurd (false≢true h)
some_at (Some n) h = (n, refl)

pub each_at : {X : Type 0} (p : X → Bool) (xs : List X) (i : ℕ) (d : X) → list_all p xs ≡ true → i < length xs → p (get_or xs i d) ≡ true
each_at p [] i d all l = absurd (omega (arith, l))
each_at p (x ∷ xs) zero d all l = and_first (p x) (list_all p xs) all
each_at p (x ∷ xs) (suc i) d all l = each_at p xs i d (and_second (p x) (list_all p xs) all) (omega (arith, l))

pub in_order : (order : List ℕ) (i d : ℕ) → i < length order → is_in order (get_or order i d) ≡ true
in_order order i d l = list_any_at (λ (place : ℕ). place == get_or order i d) order i d l (place_same (get_or order i d) (get_or order i d) refl)

-- nothing stands against a service with a number
free_at : (services : List ServiceEntry) (j : Judgement) (at : ℕ) (e : ServiceEntry) (is : IsJudgement services j) → is_none (is.judged at) ≡ true → slice_get services at ≡ Some e
    → IsFree (links_of services) e at
free_at services j at e is none here =
    let P : State → Type 0 = λ s. IsState (links_of services) is.judged e at s in
    (subst P (none_is (is.judged at) none) (is.are_judged at e here)).0

-- each reference of the service with number n leads to one with a lower number
leads_lower : (services : List ServiceEntry) (order : List ℕ) (sound : ℕ → Bool) (n at : ℕ) (e : ServiceEntry) → IsNumbering (links_of services) sound order → n < length order
    → get_or order n at ≡ at → links_at (links_of services) at ≡ places_of services e → IsFree (links_of services) e at → (k : ℕ) (o : Option ℕ) → k < length (places_of services e)
    → (m : ℕ) × (number_behind (number_of order) (get_or (places_of services e) k o) ≡ Some m) × (m < n)
leads_lower services order sound n at e numbered l here led free k o lk =
    let places = places_of services e in
    let some : is_some (get_or places k o) ≡ true = each_at is_some places k o (ap (list_all is_some) (sym led) ∙ free.declared) lk in
    let to = some_at (get_or places k o) some in
    let hit : is_to to.0 (get_or places k o) ≡ true = ap (is_to to.0) to.1 ∙ place_same to.0 to.0 refl in
    let among : refers (links_of services) at to.0 ≡ true = ap (is_among to.0) led ∙ list_any_at (is_to to.0) places k o lk hit in
    let rise = numbers_rise (links_of services) sound order n at to.0 numbered l here among in
    (rise.0, ap (number_behind (number_of order)) to.1 ∙ rise.1, rise.2)

pub behind_same : (f g : ℕ → Option ℕ) → ((k : ℕ) → f k ≡ g k) → (o : Option ℕ) → number_behind f o ≡ number_behind g o
behind_same f g same None = refl
behind_same f g same (Some k) = same k

sound_at : (services : List ServiceEntry) (j : Judgement) (order : List ℕ) (numbers : List (Option ℕ)) (is : IsJudgement services j) → AreNumbered services j order numbers
    → (n d : ℕ) → n < length order → is_sound_service services is.judged (get_or order n d) ≡ true
sound_at services j order numbers is numbered n d l =
    sym (is.sound (get_or order n d)) ∙ numbered.of_sound (get_or order n d) (numbers_agree order numbers numbered.are_numbers (get_or order n d) ∙ in_order order n d l)

same_at : (xs : List ℕ) (i a b : ℕ) → i < length xs → get_or xs i b ≡ get_or xs i a
same_at [] i a b l = absurd (omega (arith, l))
same_at (x ∷ xs) zero a b l = refl
same_at (x ∷ xs) (suc i) a b l = same_at xs i a b (omega (arith, l))

free_of : (services : List ServiceEntry) (j : Judgement) (order : List ℕ) (numbers : List (Option ℕ)) → IsJudgement services j → AreNumbered services j order numbers
    → (n d : ℕ) (e : ServiceEntry) → n < length order → slice_get services (get_or order n d) ≡ Some e → IsFree (links_of services) e (get_or order n d)
free_of services j order numbers is numbered n d e l here =
    free_at services j (get_or order n d) e is
    (and_second (nat_lt (get_or order n d) (length services)) (is_none (is.judged (get_or order n d))) (sound_at services j order numbers is numbered n d l)) here

-- what the service with number n refers to has lower numbers
pub lower_at : (services : List ServiceEntry) (j : Judgement) (order : List ℕ) (numbers : List (Option ℕ)) → IsJudgement services j → AreNumbered services j order numbers
    → (n d : ℕ) (e : ServiceEntry) → n < length order → slice_get services (get_or order n d) ≡ Some e → (k : ℕ) (o : Option ℕ) → k < length (places_of services e)
    → (m : ℕ) × (number_behind (number_in numbers) (get_or (places_of services e) k o) ≡ Some m) × (m < n)
lower_at services j order numbers is numbered n d e l here k o lk =
    let at = get_or order n d in
    let lower = leads_lower services order (is_sound j.heights.items) n at e numbered.numbered l (same_at order n d at l) (links_there services (links_of services) at e refl here)
    (free_of services j order numbers is numbered n d e l here) k o lk in
    (lower.0, behind_same (number_in numbers) (number_of order) numbered.are_numbers (get_or (places_of services e) k o) ∙ lower.1, lower.2)

-- the node of each can be made
pub are_ready : (services : List ServiceEntry) (j : Judgement) (order : List ℕ) (numbers : List (Option ℕ)) → length services < 2 ^ 32 → IsJudgement services j
    → AreNumbered services j order numbers → All (IsReady services numbers) order
are_ready services j order numbers low is numbered = λ n d l.
    let at = get_or order n d in
    let inside : at < length services =
    ltb-true at (length services) (and_first (nat_lt at (length services)) (is_none (is.judged at)) (sound_at services j order numbers is numbered n d l)) in
    let found = entry_at services at inside in
    record {
      entry = found.0;
      here = found.1;
      plain = (free_of services j order numbers is numbered n d found.0 l found.1).plain;
      leads = λ k o lk.
          let lower = lower_at services j order numbers is numbered n d found.0 l found.1 k o lk in
          (lower.0, lower.1, (let less = lower.2 in let few = numbered.few in omega (arith, less, few, l, low)));
    }
