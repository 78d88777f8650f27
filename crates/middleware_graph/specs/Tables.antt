-- The flattened lists of all middlewares as a table.
use Rattle.std.specs.Prelude.{◌≡◌, ℕ, List, slice_get, Option, Some, None}
use Rattle.middleware_graph.specs.declared.node.Node.{Node}
use Rattle.middleware_graph.specs.Graph.{flat}

abbrev pub told : Option (Option (List ℕ)) → Option (List ℕ)
told None = None
told (Some f) = f

-- what the table says of a member
abbrev pub found_in : List (Option (List ℕ)) → Option ℕ → Option (List ℕ)
found_in table None = None
found_in table (Some place) = told (slice_get table place)

-- the table says what each member stands for, within this depth
pub record IsTable (nodes : List Node) (depth : ℕ) (table : List (Option (List ℕ))) : Type 0 where
  pub flats : (m : Option ℕ) → found_in table m ≡ flat nodes depth m
