-- Which objects an object reaches by references.
use Rattle.std.specs.Prelude.{◌≡◌, ℕ, true, List, [], ◌∷◌}
use Rattle.reference_graph.specs.Links.{Links, refers}

-- references lead from the one object to the other, through the objects between
abbrev pub Leads : Links → ℕ → List ℕ → ℕ → Type 0
Leads links from [] to = refers links from to ≡ true
Leads links from (next ∷ between) to = (refers links from next ≡ true) × Leads links next between to

abbrev pub Reaches : Links → ℕ → ℕ → Type 0
Reaches links from to = (between : List ℕ) × Leads links from between to
