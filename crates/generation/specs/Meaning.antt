-- What a published configuration means to a connection.
use Rattle.std.specs.Prelude.{◌≡◌, ℕ, true, false, List, [], ◌∷◌, Option, Some, None, if◌then◌else◌, bytes_eq, slice_get}
use Rattle.conversation.specs.Plans.{Plan, Target as Aim}
use Rattle.router_table.specs.Winner.{is_enabled}
use Rattle.router_table.specs.declared.row.Row.{Row}
use Rattle.router_table.specs.declared.row.RouterState.{RouterState}
use Rattle.router_table.specs.declared.row.RouterState.TheVariants.{Enabled, Disabled}
use Rattle.generation.specs.declared.nodes.Target.{Target}
use Rattle.generation.specs.declared.nodes.Node.{Node}
use Rattle.generation.specs.declared.generation.Generation.{Generation}

abbrev pub aim_of : Target → Aim
aim_of t = record { node = t.node; host = t.host; port = t.port; pass_host = t.pass_host }

-- where nothing leads
abbrev pub nowhere : Aim
nowhere = record { node = 0; host = []; port = 0; pass_host = false }

-- where the first node with this name leads
abbrev pub aim_named : List Node → List ℕ → Aim
aim_named [] name = nowhere
aim_named (n ∷ ns) name = if bytes_eq n.name name then aim_of n.target else aim_named ns name

-- where a router in this state leads: to its service
abbrev pub aim_by : List Node → RouterState → Aim
aim_by nodes (Enabled service chain search) = aim_named nodes service
aim_by nodes (Disabled fault) = nowhere

abbrev pub aim_in : List Node → Option Row → Aim
aim_in nodes None = nowhere
aim_in nodes (Some row) = aim_by nodes row.state

-- its number, its rows, and where each row leads
abbrev pub plan_of : Generation → Plan
plan_of g = record {
  number = g.number;
  rows = g.table.rows;
  target = λ row. aim_in g.nodes (slice_get g.table.rows row);
}

-- an enabled router has the row with this number
abbrev pub IsEnabledAt : List Row → ℕ → Type 0
IsEnabledAt rows number = (row : Row) × (slice_get rows number ≡ Some row) × (is_enabled row ≡ true)
