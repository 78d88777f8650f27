-- A name has the number of its service.
use Rattle.std.proofs.Common.{◌≡◌, ◌≢◌, ◌∙◌, ℕ, ◌+◌, ◌<◌, inl, inr, List, [], ◌∷◌, map, Bool, true, false, Option, Some, is_some, refl, sym, ap, subst, arith, zero, suc, ◌==◌, if◌then◌else◌, Less, Equal, Ordering, nat_cmp}
use Rattle.std.specs.Prelude.{slice_get, bytes_eq}
use Rattle.std.specs.List.{AllZip, AllByRecursion}
use Rattle.std.specs.List.Sorted.{IsStrictlySortedBy}
use Rattle.std.specs.Ordering.{ordering_then}
use Rattle.std.specs.Cmp.Lexicographic.{slice_cmp}
use Rattle.std.proofs.lemmas.Bool.{false≢true, cases_lt}
use Rattle.std.proofs.lemmas.Bool.Decides.{nat_tests}
use Rattle.std.proofs.lemmas.Slice.Eq.{bytes_eq-Decides}
use Rattle.dyn_config.specs.Joined.{IsQualified}
use Rattle.reference_graph.specs.Numbering.{number_from, number_of}
use Rattle.reference_graph.proofs.SearchLemmas.{same_place, place_same}
use Rattle.service_faults.specs.References.{ServiceEntry}
use Rattle.service_nodes.specs.Nodes.{IsNodeAt, node_number, node_number_from}
use Rattle.service_nodes.specs.Graphs.{IsGraph}
use Rattle.service_nodes.specs.declared.graph.Graph.{Graph}
use Rattle.service_nodes.specs.declared.node.Node.{Node}

abbrev cmp : List ℕ → List ℕ → Ordering
cmp = slice_cmp nat_cmp

abbrev name_in : ServiceEntry → List ℕ
name_in e = e.name

equal_is : (x y : ℕ) → x ≡ y → nat_cmp x y ≡ Equal
equal_is x y h = grind (arith, nat_tests)

same_cmp : (a : List ℕ) → cmp a a ≡ Equal
same_cmp [] = refl
same_cmp (x ∷ xs) = ap (λ (o : Ordering). ordering_then o (cmp xs xs)) (equal_is x x refl) ∙ same_cmp xs

some_is : {X : Type 0} (a b : X) → Some a ≡ Some b → a ≡ b
some_is a b e = cc

all_get : (P : List ℕ → Type 0) (services : List ServiceEntry) (j : ℕ) (e : ServiceEntry) → AllByRecursion P (map name_in services) → slice_get services j ≡ Some e → P e.name
all_get P [] j e all here = absurd (false≢true (ap is_some here))
all_get P (x ∷ services) zero e all here = subst (λ (s : ServiceEntry). P s.name) (some_is x e here) all.0
all_get P (x ∷ services) (suc j) e all here = all_get P services j e all.1 here

names_rise : (services : List ServiceEntry) (i j : ℕ) (d e : ServiceEntry) → IsStrictlySortedBy cmp (map name_in services) → slice_get services i ≡ Some d
    → slice_get services j ≡ Some e → i < j → cmp d.name e.name ≡ Less
unfolding IsStrictlySortedBy
names_rise [] i j d e up first second l = absurd (false≢true (ap is_some first))
names_rise (x ∷ services) i zero d e up first second l = absurd (omega (arith, l))
names_rise (x ∷ services) zero (suc j) d e up first second l =
    subst (λ (s : ServiceEntry). cmp s.name e.name ≡ Less) (some_is x d first) (all_get (λ n. cmp x.name n ≡ Less) services j e up.0 second)
names_rise (x ∷ services) (suc i) (suc j) d e up first second l = names_rise services i j d e up.1 first second (omega (arith, l))

apart : (a b : List ℕ) → cmp a b ≡ Less → a ≡ b → ⊥
apart a b less same =
    let e : Equal ≡ Less = sym (same_cmp a) ∙ ap (cmp a) same ∙ less in
    cc

-- names are the same exactly where their places are
same_name : (services : List ServiceEntry) (i j : ℕ) (d e : ServiceEntry) → IsStrictlySortedBy cmp (map name_in services) → slice_get services i ≡ Some d
    → slice_get services j ≡ Some e → bytes_eq d.name e.name ≡ (i == j)
same_name services i j d e up first second = elim (i == j) as (λ v. ((i == j) ≡ v) → bytes_eq d.name e.name ≡ v) [
  | true ↦ λ t.
      let one : d ≡ e = some_is d e (sym first ∙ ap (slice_get services) (same_place i j t) ∙ second) in
      (bytes_eq-Decides d.name e.name).1 (ap name_in one)
  | false ↦ λ t.
      let other : i ≢ j = λ s. false≢true (sym t ∙ place_same i j s) in
      by_test (bytes_eq d.name e.name) (λ same. differ other ((bytes_eq-Decides d.name e.name).0 same))
] refl
  where
    differ : i ≢ j → d.name ≡ e.name → ⊥
    differ other same = elim (cases_lt i j) [
      | inl l ↦ apart d.name e.name (names_rise services i j d e up first second l) same
      | inr l ↦ apart e.name d.name (names_rise services j i e d up second first (omega (arith, l, other))) (sym same)
    ]

    by_test : (v : Bool) → (v ≡ true → ⊥) → v ≡ false
    by_test true wrong = absurd (wrong refl)
    by_test false wrong = refl

named_along : (services : List ServiceEntry) (number : ℕ → Option ℕ) (order : List ℕ) (nodes : List Node) (at n : ℕ) (e : ServiceEntry) → IsStrictlySortedBy cmp (map name_in services)
    → slice_get services at ≡ Some e → AllZip (IsNodeAt services number) order nodes → node_number_from n nodes e.name ≡ number_from n order at
named_along services number [] [] at n e up here zip = refl
named_along services number [] (m ∷ nodes) at n e up here zip = absurd zip
named_along services number (x ∷ order) [] at n e up here zip = absurd zip
named_along services number (x ∷ order) (m ∷ nodes) at n e up here zip =
    let d = zip.0.0 in
    let same : bytes_eq m.name e.name ≡ (x == at) = ap (λ (k : List ℕ). bytes_eq k e.name) zip.0.2.name ∙ same_name services x at d e up zip.0.1 here in
    ap (λ (v : Bool). if v then Some n else node_number_from (n + 1) nodes e.name) same
    ∙ ap (λ (r : Option ℕ). if x == at then Some n else r) (named_along services number order nodes at (n + 1) e up here zip.1)

pub names_number : (services : List ServiceEntry) (graph : Graph) (is : IsGraph services graph) → IsQualified services → (at : ℕ) (e : ServiceEntry)
    → slice_get services at ≡ Some e → node_number graph.nodes e.name ≡ number_of is.nodes_are.order at
names_number services graph is qualified at e here = named_along services (number_of is.nodes_are.order) is.nodes_are.order graph.nodes at 0 e qualified.0 here is.nodes_are.nodes_are
