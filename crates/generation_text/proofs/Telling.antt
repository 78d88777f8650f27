-- Each declared service has its lines.
use Rattle.std.proofs.Common.{◌≡◌, ◌∙◌, ℕ, zero, suc, ◌+◌, ◌<◌, List, [], ◌∷◌, ◌++◌, length, map, Bool, true, false, ◌||◌, ◌&&◌, ◌==◌, if◌then◌else◌, inl, inr, Option, Some, None, is_some, slice_get, Less, Ordering, nat_cmp, refl, sym, ap, subst, arith, cond}
use Rattle.std.specs.Prelude.{bytes_eq, is_none, nat_lt}
use Rattle.std.specs.List.{AllByRecursion}
use Rattle.std.specs.List.Sorted.{IsStrictlySortedBy}
use Rattle.std.specs.Ordering.{is_eq}
use Rattle.std.specs.Cmp.Lexicographic.{slice_cmp}
use Rattle.std.proofs.lemmas.Bool.{false≢true}
use Rattle.std.proofs.lemmas.Bool.Decides.{nat_tests}
use Rattle.std.proofs.lemmas.Map.Text.{is_eq-slice_cmp}
use Rattle.std.proofs.lemmas.Option.{slice_get_within}
use Rattle.std.proofs.lemmas.Slice.Eq.{bytes_eq-Decides}
use Rattle.dyn_config.specs.Joined.{IsQualified}
use Rattle.reference_graph.specs.Links.{Links, links_at, is_among, is_to}
use Rattle.reference_graph.specs.Numbering.{AreNext, GoesDown, IsNext, first_without, number_from, number_of}
use Rattle.reference_graph.specs.Search.{is_in}
use Rattle.reference_graph.proofs.SearchLemmas.{or_true, or_left, or_right, same_place, place_same}
use Rattle.service_faults.specs.Faults.{State, AreJudged, IsState, faults_at, faults_from}
use Rattle.service_faults.specs.Judgements.{is_sound_service}
use Rattle.service_faults.specs.References.{ServiceEntry, links_of, places_of}
use Rattle.service_faults.specs.declared.fault.ServiceFault.{ServiceFault}
use Rattle.service_faults.proofs.JudgingLemmas.{links_long}
use Rattle.service_nodes.specs.Graphs.{IsGraph}
use Rattle.service_nodes.specs.Nodes.{node_number}
use Rattle.service_nodes.specs.declared.graph.Graph.{Graph}
use Rattle.service_nodes.specs.declared.node.Node.{Node}
use Rattle.service_nodes.proofs.Names.{names_number}
use Rattle.runtime_config.proofs.Rowed.{NumberedNode, numbered, the_number}
use Rattle.generation_text.specs.Services.{fault_lines, fault_of, found_lines, lines_by}
use Rattle.generation_text.specs.Told.{TellsState}

some_is : {X : Type 0} (a b : X) → Some a ≡ Some b → a ≡ b
some_is a b e = cc

some_none : {X : Type 0} (a : X) → Some a ≡ None → ⊥
some_none a e = cc

none_some : {X : Type 0} (a : X) → None ≡ Some a → ⊥
none_some a e = cc

-- what lies past the declared services refers to nothing
links_none : (f : ServiceEntry → List (Option ℕ)) (es : List ServiceEntry) (k : ℕ) → slice_get es k ≡ None → links_at (map f es) k ≡ []
links_none f [] k none = refl
links_none f (e ∷ es) zero none = absurd (some_none e none)
links_none f (e ∷ es) (suc k) none = links_none f es k none

-- where the walk goes on, it goes along a reference
first_by : (numbered : ℕ → Bool) (at : ℕ) (rest : List (Option ℕ)) (next : ℕ) (b : Bool) → numbered at ≡ b → (first_without numbered rest ≡ Some next → is_among next rest ≡ true)
    → cond b (first_without numbered rest) (Some at) ≡ Some next → is_among next (Some at ∷ rest) ≡ true
first_by numbered at rest next true e later h = or_right (at == next) (is_among next rest) (later h)
first_by numbered at rest next false e later h = or_left (at == next) (is_among next rest) (place_same at next (some_is at next h))

first_among : (numbered : ℕ → Bool) (places : List (Option ℕ)) (next : ℕ) → first_without numbered places ≡ Some next → is_among next places ≡ true
first_among numbered [] next h = absurd (none_some next h)
first_among numbered (None ∷ rest) next h = first_among numbered rest next h
first_among numbered (Some at ∷ rest) next h = first_by numbered at rest next (numbered at) refl (first_among numbered rest next) h

-- a sound service refers to sound ones alone
refers_by : (services : List ServiceEntry) (judged : ℕ → State) (from next : ℕ) (o : Option ServiceEntry) → slice_get services from ≡ o → AreJudged services judged
    → judged from ≡ None → is_among next (links_at (links_of services) from) ≡ true → judged next ≡ None
refers_by services judged from next None here are sound among =
    let nothing : is_among next (links_at (links_of services) from) ≡ false = ap (is_among next) (links_none (places_of services) services from here) in
    absurd (false≢true (sym nothing ∙ among))
refers_by services judged from next (Some e) here are sound among =
    let state : IsState (links_of services) judged e from None = subst (IsState (links_of services) judged e from) sound (are from e here) in
    state.1 next among

down_sound : (services : List ServiceEntry) (judged : ℕ → State) (numbered : ℕ → Bool) (between : List ℕ) (from at : ℕ) → AreJudged services judged → judged from ≡ None
    → GoesDown (links_of services) numbered from between at → judged at ≡ None
down_sound services judged numbered [] from at are sound goes = ap judged (sym goes.0) ∙ sound
down_sound services judged numbered (next ∷ between) from at are sound goes =
    down_sound services judged numbered between next at are
    (refers_by services judged from next (slice_get services from) refl are sound (first_among numbered (links_at (links_of services) from) next goes.0)) goes.1

is_nothing : (s : State) → is_none s ≡ true → s ≡ None
is_nothing None e = refl
is_nothing (Some f) e = absurd (false≢true e)

and_second : (a b : Bool) → (a && b) ≡ true → b ≡ true
and_second true b e = e
and_second false b e = absurd (false≢true e)

-- sound services alone are numbered
each_sound : (services : List ServiceEntry) (judged : ℕ → State) (done rest : List ℕ) (at : ℕ) → AreJudged services judged
    → AreNext (links_of services) (is_sound_service services judged) done rest → is_in rest at ≡ true → judged at ≡ None
each_sound services judged done [] at are next there = absurd (false≢true there)
each_sound services judged done (x ∷ rest) at are next there =
    elim (or_true (x == at) (is_in rest at) there) [
      | inl same ↦ (
          let first : judged next.0.first ≡ None = is_nothing (judged next.0.first) (and_second (nat_lt next.0.first (length services)) (is_none (judged next.0.first)) next.0.is_sound_one) in
          ap judged (sym (same_place x at same)) ∙ down_sound services judged (is_in done) next.0.between next.0.first x are first next.0.down)
      | inr later ↦ each_sound services judged (done ++ x ∷ []) rest at are next.1 later
    ]

numbered_by : (n x : ℕ) (rest : List ℕ) (at : ℕ) (b : Bool) → (x == at) ≡ b → is_some (number_from (n + 1) rest at) ≡ is_in rest at
    → is_some (number_from n (x ∷ rest) at) ≡ is_in (x ∷ rest) at
numbered_by n x rest at true e later = rw e refl
numbered_by n x rest at false e later = rw e later

numbered_in : (n : ℕ) (order : List ℕ) (at : ℕ) → is_some (number_from n order at) ≡ is_in order at
numbered_in n [] at = refl
numbered_in n (x ∷ rest) at = numbered_by n x rest at (x == at) refl (numbered_in (n + 1) rest at)

none_by : (o : Option ℕ) → (is_some o ≡ true → ⊥) → o ≡ None
none_by None wrong = refl
none_by (Some k) wrong = absurd (wrong refl)

abbrev name_in : ServiceEntry → List ℕ
name_in e = e.name

all_get : (P : List ℕ → Type 0) (es : List ServiceEntry) (j : ℕ) (e : ServiceEntry) → AllByRecursion P (map name_in es) → slice_get es j ≡ Some e → P e.name
all_get P [] j e all here = absurd (none_some e here)
all_get P (x ∷ es) zero e all here = subst (λ (s : ServiceEntry). P s.name) (some_is x e here) all.0
all_get P (x ∷ es) (suc j) e all here = all_get P es j e all.1 here

fault_first : (name : List ℕ) (f : ServiceFault) (s : State) (rest : List (List ℕ × ServiceFault)) → s ≡ Some f → fault_of (faults_at name s ++ rest) name ≡ Some f
fault_first name f None rest e = absurd (none_some f e)
fault_first name f (Some g) rest e = rw ((bytes_eq-Decides name name).1 refl) (ap Some (some_is g f e))

fault_later : (name other : List ℕ) (s : State) (rest : List (List ℕ × ServiceFault)) → bytes_eq other name ≡ false → fault_of (faults_at other s ++ rest) name ≡ fault_of rest name
fault_later name other None rest e = refl
fault_later name other (Some g) rest e = rw e refl

-- the reason against a service is found by its name
fault_found : (judged : ℕ → State) (n : ℕ) (es : List ServiceEntry) (at : ℕ) (e : ServiceEntry) (f : ServiceFault) → IsStrictlySortedBy (slice_cmp nat_cmp) (map name_in es)
    → slice_get es at ≡ Some e → judged (n + at) ≡ Some f → fault_of (faults_from judged n es) e.name ≡ Some f
unfolding IsStrictlySortedBy
fault_found judged n [] at e f up here is = absurd (none_some e here)
fault_found judged n (x ∷ es) zero e f up here is =
    let own : judged n ≡ Some f = (let k : n ≡ n + 0 = omega arith in ap judged k ∙ is) in
    ap (λ (s : ServiceEntry). fault_of (faults_at x.name (judged n) ++ faults_from judged (n + 1) es) s.name) (sym (some_is x e here))
    ∙ fault_first x.name f (judged n) (faults_from judged (n + 1) es) own
fault_found judged n (x ∷ es) (suc at) e f up here is =
    let less : slice_cmp nat_cmp x.name e.name ≡ Less = all_get (λ (name : List ℕ). slice_cmp nat_cmp x.name name ≡ Less) es at e up.0 here in
    let other : bytes_eq x.name e.name ≡ false = sym (is_eq-slice_cmp x.name e.name) ∙ ap is_eq less in
    let own : judged ((n + 1) + at) ≡ Some f = (let k : (n + 1) + at ≡ n + suc at = omega arith in ap judged k ∙ is) in
    fault_later e.name x.name (judged n) (faults_from judged (n + 1) es) other ∙ fault_found judged (n + 1) es at e f up.1 here own

sound_so : (at n : ℕ) (s : State) → at < n → s ≡ None → (nat_lt at n && is_none s) ≡ true
sound_so at n s l none = let test : nat_lt at n ≡ true = grind (arith, nat_tests) in rw (test, none) refl

told_by : (services : List ServiceEntry) (graph : Graph) (is : IsGraph services graph) → IsQualified services → (at : ℕ) (e : ServiceEntry) → slice_get services at ≡ Some e
    → (s : State) → is.judged at ≡ s → TellsState graph e s
told_by services graph is qualified at e here None sound =
    let order : List ℕ = is.nodes_are.order in
    let within : at < length services = slice_get_within services at e here in
    let inside : at < length (links_of services) = omega (arith, links_long services, within) in
    let there : is_in order at ≡ true = is.nodes_are.numbered.all at inside (sound_so at (length services) (is.judged at) within sound) in
    let has = the_number (number_of order at) (numbered_in 0 order at ∙ there) in
    let number : node_number graph.nodes e.name ≡ Some has.0 = names_number services graph is qualified at e here ∙ has.1 in
    let found = numbered 0 has.0 graph.nodes e.name number in
    let step : has.0 ≡ found.step = omega (arith, found.at_is) in
    let place : slice_get graph.nodes has.0 ≡ Some found.node = ap (slice_get graph.nodes) step ∙ found.here in
    (has.0, found.node, place, found.named, ap (lines_by graph e.name) number ∙ ap (found_lines has.0) place)
told_by services graph is qualified at e here (Some f) fault =
    let order : List ℕ = is.nodes_are.order in
    let not_in : is_some (number_of order at) ≡ true → ⊥ =
    λ there. none_some f (sym (each_sound services is.judged [] order at is.are_judged is.nodes_are.numbered.next (sym (numbered_in 0 order at) ∙ there)) ∙ fault) in
    let number : node_number graph.nodes e.name ≡ None = names_number services graph is qualified at e here ∙ none_by (number_of order at) not_in in
    let own : is.judged (0 + at) ≡ Some f = (let k : 0 + at ≡ at = omega arith in ap is.judged k ∙ fault) in
    let reason : fault_of graph.faults e.name ≡ Some f =
    ap (λ (fs : List (List ℕ × ServiceFault)). fault_of fs e.name) is.faults_are ∙ fault_found is.judged 0 services at e f qualified.0 here own in
    ap (lines_by graph e.name) number ∙ ap (fault_lines e.name) reason

pub told : (services : List ServiceEntry) (graph : Graph) (is : IsGraph services graph) → IsQualified services → (at : ℕ) (e : ServiceEntry)
    → slice_get services at ≡ Some e → TellsState graph e (is.judged at)
told services graph is qualified at e here = told_by services graph is qualified at e here (is.judged at) refl
