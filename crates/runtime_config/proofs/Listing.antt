-- The middlewares that can be used, one after another.
use Rattle.std.proofs.Common.{◌≡◌, ◌∙◌, ℕ, ◌+◌, ◌<◌, ◌≤◌, List, [], ◌∷◌, ◌++◌, length, get_or, drop, refl, sym, ap, append_assoc, append-nil}
use Rattle.std.proofs.lemmas.List.{drop_more, drop_all}
use Rattle.middleware_graph.specs.declared.state.State.{State}
use Rattle.middleware_graph.specs.declared.state.State.TheVariants.{Enabled, Disabled}
use Rattle.middleware_chain.specs.Counts.{Listed}
use Rattle.router_table.specs.Settings.{Usable}
use Rattle.runtime_config.specs.Usable.{usable_of, with_usable}

with_rest : (name : List ℕ) (s : State) (rest : List Usable) → with_usable name s [] ++ rest ≡ with_usable name s rest
with_rest name (Enabled count) rest = refl
with_rest name (Disabled fault) rest = refl

-- one more was looked at
pub usable_more : (ms : List Listed) (i : ℕ) (m : Listed) (old new : List Usable) → i < length ms → m ≡ get_or ms i m → old ++ usable_of (drop i ms) ≡ usable_of ms
    → new ≡ old ++ with_usable m.0 m.1 [] → new ++ usable_of (drop (i + 1) ms) ≡ usable_of ms
usable_more ms i m old new l at before grown =
    let rest : List Usable = usable_of (drop (i + 1) ms) in
    let cut : drop i ms ≡ m ∷ drop (i + 1) ms = drop_more ms i m l ∙ ap (λ (x : Listed). x ∷ drop (i + 1) ms) (sym at) in
    ap (λ (us : List Usable). us ++ rest) grown
    ∙ append_assoc old (with_usable m.0 m.1 []) rest
    ∙ ap (λ (us : List Usable). old ++ us) (with_rest m.0 m.1 rest)
    ∙ ap (λ (xs : List Listed). old ++ usable_of xs) (sym cut)
    ∙ before

-- all were looked at
pub usable_done : (ms : List Listed) (i : ℕ) (all : List Usable) → length ms ≤ i → all ++ usable_of (drop i ms) ≡ usable_of ms → all ≡ usable_of ms
usable_done ms i all l h = sym (append-nil all) ∙ ap (λ (xs : List Listed). all ++ usable_of xs) (sym (drop_all i ms l)) ∙ h
