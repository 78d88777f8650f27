-- How services are judged by what stands against them and by their heights.
use Rattle.std.proofs.Common.{◌≡◌, ◌≢◌, ◌∙◌, ℕ, ◌+◌, ◌<◌, ◌≤◌, inl, inr, List, [], ◌∷◌, ◌++◌, length, get_or, map, Bool, true, false, Option, Some, None, is_some, is_none, nat_lt, refl, sym, ap, subst, arith, zero, suc, ◌==◌, ◌&&◌, if◌then◌else◌}
use Rattle.std.specs.List.{list_any, list_all}
use Rattle.std.specs.Str.{bytes_eq}
use Rattle.std.proofs.lemmas.Option.{slice_get_within, get_or_from_slice_get}
use Rattle.std.proofs.lemmas.List.{length-map}
use Rattle.std.proofs.lemmas.Grind.{common_steps}
use Rattle.std.proofs.lemmas.Bool.{false≢true, leb-true, cases_lt}
use Rattle.std.proofs.lemmas.Bool.Decides.{nat_tests}
use Rattle.reference_graph.specs.Links.{Links, is_among, is_to, links_at, AreWithin}
use Rattle.reference_graph.specs.Trees.{IsLarge}
use Rattle.reference_graph.specs.Heights.{Heights, height_at, is_sound, are_sound, is_blocked, AreHeights, IsHeld, IsJudged}
use Rattle.reference_graph.specs.declared.height.Height.{Height}
use Rattle.reference_graph.proofs.SearchLemmas.{or_true, or_left, or_right, same_place, place_same}
use Rattle.reference_graph.proofs.HeightLemmas.{sound_among, and_first, and_second}
use Rattle.service_faults.specs.References.{ServiceEntry, written, place_from, place_of, places_of, links_of}
use Rattle.service_faults.specs.Faults.{State, IsFree, RefersToSound, HasBelow, IsState, AreJudged, faults_from}
use Rattle.service_faults.specs.Judgements.{is_sound_service, IsJudgement}
use Rattle.service_faults.specs.declared.judgement.Judgement.{Judgement}
use Rattle.service_faults.specs.Blocked.{IsBlockedBy, judged_by, blocked_at, AreBlockedBelow, AreBlocked, judgement}
use Rattle.service_faults.specs.declared.fault.ServiceFault.{ServiceFault}
use Rattle.service_faults.specs.declared.fault.ServiceFault.TheVariants as fault
use Rattle.dyn_config.specs.Names.{referred}
use Rattle.dyn_config.specs.Joined.{is_qualified}

some_is : {X : Type 0} (a b : X) → Some a ≡ Some b → a ≡ b
some_is a b e = cc

place_within : (n : ℕ) (services : List ServiceEntry) (name : List ℕ) (at : ℕ) → place_from n services name ≡ Some at → at < n + length services
place_within n [] name at h = absurd (false≢true (ap is_some h))
place_within n (e ∷ es) name at h = elim (bytes_eq e.name name) as (λ v. ((if v then Some n else place_from (n + 1) es name) ≡ Some at) → at < n + suc (length es)) [
  | true ↦ λ t. let same : n ≡ at = some_is n at t in omega (arith, same)
  | false ↦ λ t. let l = place_within (n + 1) es name at t in omega (arith, l)
] h

to_is : (to : ℕ) (p : Option ℕ) → is_to to p ≡ true → p ≡ Some to
to_is to None h = absurd (false≢true h)
to_is to (Some k) h = ap Some (same_place k to h)

any_within : (services : List ServiceEntry) (provider to : ℕ) (texts : List (List ℕ)) → list_any (is_to to) (map (place_of services provider) texts) ≡ true → to < length services
any_within services provider to [] h = absurd (false≢true h)
any_within services provider to (t ∷ texts) h = elim (or_true (is_to to (place_of services provider t)) (list_any (is_to to) (map (place_of services provider) texts)) h) [
  | inl x ↦ let l = place_within 0 services (referred provider t) to (to_is to (place_of services provider t) x) in omega (arith, l)
  | inr y ↦ any_within services provider to texts y
]

row_within : (services es : List ServiceEntry) (from to : ℕ) → is_among to (links_at (map (places_of services) es) from) ≡ true → to < length services
row_within services [] from to h = absurd (false≢true h)
row_within services (e ∷ es) zero to h = any_within services e.provider to (written e.def) h
row_within services (e ∷ es) (suc from) to h = row_within services es from to h

pub links_long : (services : List ServiceEntry) → length (links_of services) ≡ length services
links_long services = length-map services (places_of services)

-- each reference leads to a declared service, or nowhere
pub links_within : (services : List ServiceEntry) → AreWithin (links_of services)
links_within services from to r = let l = row_within services services from to r in let e = links_long services in omega (arith, l, e)

-- what holds of each element, of one
pub of_each : {X : Type 0} (p : X → Bool) (xs : List X) (i : ℕ) (x : X) → list_all p xs ≡ true → i < length xs → x ≡ get_or xs i x → p x ≡ true
of_each p [] i x all l at = absurd (omega (arith, l))
of_each p (y ∷ ys) zero x all l at = ap p at ∙ and_first (p y) (list_all p ys) all
of_each p (y ∷ ys) (suc i) x all l at = of_each p ys i x (and_second (p y) (list_all p ys) all) (omega (arith, l)) at

none_is : {X : Type 0} (o : Option X) → is_some o ≡ false → o ≡ None
none_is None h = refl
none_is (Some x) h = absurd (false≢true (sym h))

-- a service that isn't blocked
flag_at : (blocked : List State) (at : ℕ) → is_blocked (map is_some blocked) at ≡ false → blocked_at blocked at ≡ None
flag_at [] at h = absurd (false≢true (sym h))
flag_at (s ∷ blocked) zero h = none_is s h
flag_at (s ∷ blocked) (suc at) h = flag_at blocked at h

free_flag : (blocked : List State) (at : ℕ) → at < length blocked → blocked_at blocked at ≡ None → is_blocked (map is_some blocked) at ≡ false
free_flag [] at l h = absurd (omega (arith, l))
free_flag (s ∷ blocked) zero l h = ap is_some h
free_flag (s ∷ blocked) (suc at) l h = free_flag blocked at (omega (arith, l)) h

height_some : (o : Option Height) → is_some o ≡ true → (h : Height) × (o ≡ Some h)
height_some None s = absurd (false≢true s)
height_some (Some h) s = (h, refl)

none_judged : (links : Links) (blocked : List State) (heights : Heights) (to : ℕ) → AreHeights links (map is_some blocked) heights → is_sound heights to ≡ true
    → judgement links heights blocked to ≡ None
none_judged links blocked heights to are sound =
    let h = height_some (height_at heights to) sound in
    let b : blocked_at blocked to ≡ None = flag_at blocked to (are to h.0 h.1).free in
    ap (λ (s : State). judged_by links heights s to) b
    ∙ ap (λ (v : Bool). if v then None else (if are_sound heights (links_at links to) then Some fault.TooDeep else Some fault.Child)) sound

some_by : (links : Links) (heights : Heights) (to : ℕ) (s : State) → is_sound heights to ≡ false → is_some (judged_by links heights s to) ≡ true
some_by links heights to (Some f) not = refl
some_by links heights to None not =
    ap (λ (v : Bool). is_some (if v then None else (if are_sound heights (links_at links to) then Some fault.TooDeep else Some fault.Child))) not
    ∙ either_some (are_sound heights (links_at links to))
  where
    either_some : (v : Bool) → is_some (if v then Some fault.TooDeep else Some fault.Child) ≡ true
    either_some true = refl
    either_some false = refl

unsound_one : (heights : Heights) (places : List (Option ℕ)) → list_all is_some places ≡ true → are_sound heights places ≡ false
    → (to : ℕ) × (is_among to places ≡ true) × (is_sound heights to ≡ false)
unsound_one heights [] all not = absurd (false≢true (sym not))
unsound_one heights (None ∷ places) all not = absurd (false≢true all)
unsound_one heights (Some k ∷ places) all not = elim (is_sound heights k) as (λ v. (is_sound heights k ≡ v) → ((v && are_sound heights places) ≡ false)
    → (to : ℕ) × (is_among to (Some k ∷ places) ≡ true) × (is_sound heights to ≡ false)) [
      | true ↦ λ e t. let h = unsound_one heights places all t in (h.0, or_right (k == h.0) (is_among h.0 places) h.1, h.2)
      | false ↦ λ e t. (k, or_left (k == k) (is_among k places) (place_same k k refl), e)
    ] refl not

state_of_fault : (links : Links) (judged : ℕ → State) (e : ServiceEntry) (at : ℕ) (f : ServiceFault) → IsBlockedBy links e at (Some f) → IsState links judged e at (Some f)
state_of_fault links judged e at fault.Unsupported h = h
state_of_fault links judged e at fault.TooManyChildren h = h
state_of_fault links judged e at fault.Scheme h = h
state_of_fault links judged e at fault.BadUrl h = h
state_of_fault links judged e at fault.WeightsTooLarge h = h
state_of_fault links judged e at fault.Missing h = h
state_of_fault links judged e at fault.Cycle h = h
state_of_fault links judged e at fault.Child h = absurd h
state_of_fault links judged e at fault.TooDeep h = absurd h

sound_below : (links : Links) (blocked : List State) (heights : Heights) (at : ℕ) → AreHeights links (map is_some blocked) heights
    → are_sound heights (links_at links at) ≡ true → RefersToSound links (judgement links heights blocked) at
sound_below links blocked heights at are all = λ to among. none_judged links blocked heights to are (sound_among heights (links_at links at) to all among)

large_below : (links : Links) (heights : Heights) (at : ℕ) → are_sound heights (links_at links at) ≡ true → IsHeld links heights at → HasBelow links at IsLarge
large_below links heights at all (inl not) = absurd (false≢true (sym not ∙ all))
large_below links heights at all (inr is) = is

judged_free : (links : Links) (blocked : List State) (heights : Heights) (e : ServiceEntry) (at : ℕ) → AreHeights links (map is_some blocked) heights
    → IsJudged links (map is_some blocked) heights at → at < length blocked → blocked_at blocked at ≡ None → IsFree links e at
    → IsState links (judgement links heights blocked) e at (judged_by links heights None at)
judged_free links blocked heights e at are held l none free =
    elim (is_sound heights at) as (λ v. (is_sound heights at ≡ v) → IsState links (judgement links heights blocked) e at
    (if v then None else (if are_sound heights (links_at links at) then Some fault.TooDeep else Some fault.Child))) [
      | true ↦ λ s.
          let h = height_some (height_at heights at) s in
          let is = are at h.0 h.1 in
          (free, sound_below links blocked heights at are is.sound, (is.tall.below, is.tall.trees, is.tall.small))
      | false ↦ λ s.
          elim (are_sound heights (links_at links at)) as (λ v. (are_sound heights (links_at links at) ≡ v) → IsState links (judgement links heights blocked) e at
          (if v then Some fault.TooDeep else Some fault.Child)) [
            | true ↦ λ t. (
              free,
              sound_below links blocked heights at are t,
              large_below links heights at t (held (none_is (height_at heights at) s) (free_flag blocked at l none)),
            )
            | false ↦ λ t.
                let one = unsound_one heights (links_at links at) free.declared t in
                (free, (one.0, one.1, some_by links heights one.0 (blocked_at blocked one.0) one.2))
          ] refl
    ] refl

judged_one : (links : Links) (blocked : List State) (heights : Heights) (e : ServiceEntry) (at : ℕ) → AreHeights links (map is_some blocked) heights
    → IsJudged links (map is_some blocked) heights at → at < length blocked → (s : State) → blocked_at blocked at ≡ s → IsBlockedBy links e at s
    → IsState links (judgement links heights blocked) e at (judged_by links heights s at)
judged_one links blocked heights e at are held l (Some f) same is = state_of_fault links (judgement links heights blocked) e at f is
judged_one links blocked heights e at are held l None same is = judged_free links blocked heights e at are held l same is

-- all services are judged
pub all_judged : (services : List ServiceEntry) (links : Links) (blocked : List State) (flags : List Bool) (heights : Heights) → links ≡ links_of services
    → AreBlocked links services blocked → flags ≡ map is_some blocked → AreHeights links flags heights
    → ((at : ℕ) → at < length links → IsJudged links flags heights at) → AreJudged services (judgement links heights blocked)
all_judged services links blocked flags heights same is flagged are held = λ at e here.
    let l : at < length services = slice_get_within services at e here in
    let m : at < length blocked = (let k = is.0 in omega (arith, l, k)) in
    let n : at < length links = (let k = ap length same in let j = links_long services in omega (arith, l, k, j)) in
    let P : List Bool → Type 0 = λ fs. AreHeights links fs heights in
    let Q : List Bool → Type 0 = λ fs. IsJudged links fs heights at in
    let R : Links → Type 0 = λ ls. IsState ls (judgement links heights blocked) e at (judgement links heights blocked at) in
    subst R same (judged_one links blocked heights e at (subst P flagged are) (subst Q flagged (held at n)) m (blocked_at blocked at) refl (is.1 at e l here))

height_past : (heights : Heights) (at : ℕ) → length heights ≤ at → height_at heights at ≡ None
height_past [] at l = refl
height_past (h ∷ heights) zero l = absurd (omega (arith, l))
height_past (h ∷ heights) (suc at) l = height_past heights at (omega (arith, l))

is_none_some : (s : State) → is_some s ≡ true → is_none s ≡ false
is_none_some None h = absurd (false≢true h)
is_none_some (Some f) h = refl

-- a service has a height exactly where it is declared and nothing stands against it
sound_judged : (services : List ServiceEntry) (links : Links) (blocked : List State) (heights : Heights) (at : ℕ) → AreHeights links (map is_some blocked) heights
    → length heights ≡ length services → is_sound heights at ≡ is_sound_service services (judgement links heights blocked) at
sound_judged services links blocked heights at are long = elim (is_sound heights at) as (λ v. (is_sound heights at ≡ v) → v ≡ is_sound_service services (judgement links heights blocked) at) [
  | true ↦ λ s.
      let none = none_judged links blocked heights at are s in
      elim (cases_lt at (length services)) [
        | inl l ↦ sym (ap (λ (v : Bool). v && is_none (judgement links heights blocked at)) (lt-true l) ∙ ap is_none none)
        | inr l ↦ absurd (false≢true (sym (ap is_some (height_past heights at (omega (arith, l, long)))) ∙ s))
      ]
  | false ↦ λ s. sym (ap (λ (v : Bool). nat_lt at (length services) && v) (is_none_some (judgement links heights blocked at) (some_by links heights at (blocked_at blocked at) s)) ∙ and_false (nat_lt at (length services)))
] refl
  where
    lt-true : at < length services → nat_lt at (length services) ≡ true
    lt-true l = grind (arith, nat_tests)

    and_false : (v : Bool) → (v && false) ≡ false
    and_false true = refl
    and_false false = refl

-- the whole judgement
pub is_judged_whole : (services : List ServiceEntry) (places : Links) (j : Judgement) (blocked : List State) (heights : Heights) → j.links.items ≡ links_of services
    → places ≡ j.links.items → AreBlocked places services blocked → length j.heights.items ≡ length places → AreHeights places (map is_some blocked) j.heights.items
    → ((at : ℕ) → at < length places → IsJudged places (map is_some blocked) j.heights.items at) → heights ≡ j.heights.items
    → j.faults ≡ faults_from (judgement places heights blocked) 0 services → IsJudgement services j
is_judged_whole services places j blocked heights same placed is long are held high faults =
    let e : places ≡ links_of services = placed ∙ same in
    let P : Heights → Type 0 = λ hs. j.faults ≡ faults_from (judgement places hs blocked) 0 services in
    let Q : Links → Type 0 = λ ls. AreHeights ls (map is_some blocked) j.heights.items in
    let here : AreHeights (links_of services) (map is_some blocked) j.heights.items = subst Q e are in
    record {
      links_are = same;
      judged = judgement places j.heights.items blocked;
      are_judged = all_judged services places blocked (map is_some blocked) j.heights.items e is refl are held;
      faults_are = subst P high faults;
      long = long ∙ ap length e ∙ links_long services;
      sound = λ at. sound_judged services places blocked j.heights.items at are (long ∙ ap length e ∙ links_long services);
      tall = λ at h there. (here at h there).tall;
      layered = λ at h there. record { sound = (here at h there).sound; higher = (here at h there).higher };
    }

-- one more service is looked at
pub blocked_more : (links : Links) (services : List ServiceEntry) (blocked : List State) (at : ℕ) (e : ServiceEntry) (s : State) → at < length services
    → e ≡ get_or services at e → length blocked ≡ at → AreBlockedBelow links services blocked at → IsBlockedBy links e at s
    → AreBlockedBelow links services (blocked ++ s ∷ []) (at + 1)
blocked_more links services blocked at e s l here long are is = λ k d lk there.
    elim (k == at) as (λ v. ((k == at) ≡ v) → IsBlockedBy links d k (blocked_at (blocked ++ s ∷ []) k)) [
      | true ↦ λ same.
          let e1 : k ≡ at = same_place k at same in
          let e2 : d ≡ e = sym (get_or_from_slice_get services k d e there) ∙ ap (λ (j : ℕ). get_or services j e) e1 ∙ sym here in
          let e3 : blocked_at (blocked ++ s ∷ []) k ≡ s = grind (arith, common_steps, e1, long) in
          let P : ServiceEntry → Type 0 = λ x. IsBlockedBy links x k (blocked_at (blocked ++ s ∷ []) k) in
          let Q : State → Type 0 = λ x. IsBlockedBy links e k x in
          let R : ℕ → Type 0 = λ j. IsBlockedBy links e j s in
          subst P (sym e2) (subst Q (sym e3) (subst R (sym e1) is))
      | false ↦ λ same.
          let other : k ≢ at = λ x. false≢true (sym same ∙ place_same k at x) in
          let low : k < at = omega (arith, lk, other) in
          let e3 : blocked_at (blocked ++ s ∷ []) k ≡ blocked_at blocked k = grind (arith, common_steps, low, long) in
          let Q : State → Type 0 = λ x. IsBlockedBy links d k x in
          subst Q (sym e3) (are k d low there)
    ] refl

-- the same, as the list is pushed to
pub blocked_pushed : (links : Links) (services : List ServiceEntry) (blocked blocked' : List State) (i at : ℕ) (e : ServiceEntry) (s : State) → i < length services
    → e ≡ get_or services i e → length blocked ≡ i → at ≡ i → blocked' ≡ blocked ++ s ∷ [] → AreBlockedBelow links services blocked i → IsBlockedBy links e at s
    → AreBlockedBelow links services blocked' (i + 1)
blocked_pushed links services blocked blocked' i at e s l here long same pushed are is =
    let P : List State → Type 0 = λ bs. AreBlockedBelow links services bs (i + 1) in
    let Q : ℕ → Type 0 = λ k. IsBlockedBy links e k s in
    subst P (sym pushed) (blocked_more links services blocked i e s l here long are (subst Q same is))

pub blocked_all : (links : Links) (services : List ServiceEntry) (blocked : List State) (i : ℕ) → length services ≤ i → i ≤ length services → length blocked ≡ i
    → AreBlockedBelow links services blocked i → AreBlocked links services blocked
blocked_all links services blocked i high low long are =
    let e : i ≡ length services = omega (arith, high, low) in
    let P : ℕ → Type 0 = λ k. AreBlockedBelow links services blocked k in
    (long ∙ e, subst P e are)

-- the provider of a declared service is the file or Consul
pub provider_of : (e : ServiceEntry) → is_qualified e ≡ true → e.provider ≤ 1
provider_of e q = leb-true e.provider 1 (and_first _ _ (and_first _ _ q))
