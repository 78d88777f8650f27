-- Names of middlewares are apart, so those that can be used are told by the first of each name.
use Rattle.std.proofs.Common.{◌≡◌, ◌∙◌, ℕ, ◌+◌, List, [], ◌∷◌, map, Bool, true, false, ◌&&◌, is_some, refl, sym, ap, Less, Ordering, nat_cmp}
use Rattle.std.specs.Prelude.{bytes_eq}
use Rattle.std.specs.List.{AllByRecursion, list_all}
use Rattle.std.specs.List.Sorted.{IsStrictlySortedBy}
use Rattle.std.specs.Ordering.{is_eq}
use Rattle.std.specs.Cmp.Lexicographic.{slice_cmp}
use Rattle.std.proofs.lemmas.Bool.{false≢true}
use Rattle.std.proofs.lemmas.List.Sums.{sum_by-cons}
use Rattle.std.proofs.lemmas.Map.Text.{is_eq-slice_cmp}
use Rattle.std.proofs.lemmas.Slice.Eq.{bytes_eq-Decides}
use Rattle.middleware_graph.specs.declared.state.State.{State}
use Rattle.middleware_graph.specs.declared.state.State.TheVariants.{Enabled, Disabled}
use Rattle.middleware_chain.specs.Built.{listed_name}
use Rattle.middleware_chain.specs.Counts.{Listed, are_all_usable, count_named, flat_length, length_named}
use Rattle.router_table.specs.Settings.{Usable, chain_length, is_usable, length_of}
use Rattle.runtime_config.specs.Usable.{usable_of, with_usable}

-- the names rise
abbrev pub AreApart : List Listed → Type 0
AreApart ms = IsStrictlySortedBy (slice_cmp nat_cmp) (map listed_name ms)

by_test : (v : Bool) → (v ≡ true → ⊥) → v ≡ false
by_test true wrong = absurd (wrong refl)
by_test false wrong = refl

differ : (k name : List ℕ) → slice_cmp nat_cmp k name ≡ Less → bytes_eq name k ≡ false
differ k name less =
    let other : bytes_eq k name ≡ false = sym (is_eq-slice_cmp k name) ∙ ap is_eq less in
    by_test (bytes_eq name k) (λ same. false≢true (sym other ∙ (bytes_eq-Decides k name).1 (sym ((bytes_eq-Decides name k).0 same))))

-- none of the usable ones has this name
abbrev Lacks : List Usable → List ℕ → Type 0
Lacks us name = (is_usable us name ≡ false) × (length_of us name ≡ 0)

lacks_more : (k name : List ℕ) (s : State) (us : List Usable) → bytes_eq name k ≡ false → Lacks us k → Lacks (with_usable name s us) k
lacks_more k name (Enabled count) us other rest = rw other rest
lacks_more k name (Disabled fault) us other rest = rest

lacks : (k : List ℕ) (ms : List Listed) → AllByRecursion (λ y. slice_cmp nat_cmp k y ≡ Less) (map listed_name ms) → Lacks (usable_of ms) k
lacks k [] up = (refl, refl)
lacks k (m ∷ ms) up = lacks_more k m.0 m.1 (usable_of ms) (differ k m.0 up.0) (lacks k ms up.1)

-- what is told of a name by the states is what is told by the usable ones
abbrev Same : List Listed → List ℕ → Type 0
Same ms name = (is_some (count_named ms name) ≡ is_usable (usable_of ms) name) × (length_named ms name ≡ length_of (usable_of ms) name)

same_first : (own : List ℕ) (s : State) (ms : List Listed) (name : List ℕ) (b : Bool) → bytes_eq own name ≡ b → (b ≡ true → Lacks (usable_of ms) name) → Same ms name
    → Same ((own, s) ∷ ms) name
same_first own (Enabled count) ms name true e gone rest = rw e (refl, refl)
same_first own (Enabled count) ms name false e gone rest = rw e rest
same_first own (Disabled fault) ms name true e gone rest = let none = gone refl in rw e (sym none.0, sym none.1)
same_first own (Disabled fault) ms name false e gone rest = rw e rest

lacks_own : (own name : List ℕ) (ms : List Listed) → AllByRecursion (λ y. slice_cmp nat_cmp own y ≡ Less) (map listed_name ms) → bytes_eq own name ≡ true → Lacks (usable_of ms) name
lacks_own own name ms up same =
    let is : own ≡ name = (bytes_eq-Decides own name).0 same in
    let gone = lacks own ms up in
    (ap (is_usable (usable_of ms)) (sym is) ∙ gone.0, ap (length_of (usable_of ms)) (sym is) ∙ gone.1)

same_of : (ms : List Listed) (name : List ℕ) → AreApart ms → Same ms name
unfolding IsStrictlySortedBy
same_of [] name up = (refl, refl)
same_of ((own, s) ∷ ms) name up = same_first own s ms name (bytes_eq own name) refl (λ same. lacks_own own name ms up.0 same) (same_of ms name up.1)

pub usable_same : (ms : List Listed) (names : List (List ℕ)) → AreApart ms → are_all_usable ms names ≡ list_all (is_usable (usable_of ms)) names
usable_same ms [] up = refl
usable_same ms (name ∷ names) up =
    ap (λ (b : Bool). b && are_all_usable ms names) (same_of ms name up).0 ∙ ap (λ (b : Bool). is_usable (usable_of ms) name && b) (usable_same ms names up)

pub length_same : (ms : List Listed) (names : List (List ℕ)) → AreApart ms → flat_length ms names ≡ chain_length (usable_of ms) names
length_same ms [] up = refl
length_same ms (name ∷ names) up =
    sum_by-cons (length_named ms) name names
    ∙ ap (λ (n : ℕ). n + flat_length ms names) (same_of ms name up).1
    ∙ ap (λ (n : ℕ). length_of (usable_of ms) name + n) (length_same ms names up)
    ∙ sym (sum_by-cons (length_of (usable_of ms)) name names)
