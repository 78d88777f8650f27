-- For how many middlewares names stand.
use Rattle.std.specs.Prelude.{ℕ, Bool, List, [], ◌∷◌, Option, Some, None, is_some, unwrap_or, sum_by, bytes_eq, if◌then◌else◌}
use Rattle.std.specs.List.{list_all}
use Rattle.middleware_graph.specs.declared.state.State.{State}
use Rattle.middleware_graph.specs.declared.state.State.TheVariants.{Enabled, Disabled}

-- a middleware by its name, with its state
abbrev pub Listed : Type 0
Listed = List ℕ × State

abbrev pub count_of : State → Option ℕ
count_of (Enabled count) = Some count
count_of (Disabled f) = None

-- for how many the first middleware with this name stands, where it can be used
abbrev pub count_named : List Listed → List ℕ → Option ℕ
count_named [] name = None
count_named (m ∷ ms) name = if bytes_eq m.0 name then count_of m.1 else count_named ms name

-- each name is that of a middleware that can be used
abbrev pub are_all_usable : List Listed → List (List ℕ) → Bool
are_all_usable middlewares names = list_all (λ name. is_some (count_named middlewares name)) names

abbrev pub length_named : List Listed → List ℕ → ℕ
length_named middlewares name = unwrap_or (count_named middlewares name) 0

-- for how many middlewares the names stand together
abbrev pub flat_length : List Listed → List (List ℕ) → ℕ
flat_length middlewares names = sum_by (length_named middlewares) names
