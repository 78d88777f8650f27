-- What the lines of a configuration tell.
use Rattle.std.specs.Prelude.{◌≡◌, ℕ, List, Some, None, slice_get}
use Rattle.router_table.specs.Settings.{RouterEntry}
use Rattle.router_table.specs.declared.row.Row.{Row}
use Rattle.service_faults.specs.Faults.{State}
use Rattle.service_faults.specs.References.{ServiceEntry}
use Rattle.service_nodes.specs.declared.graph.Graph.{Graph}
use Rattle.service_nodes.specs.declared.node.Node.{Node}
use Rattle.generation_text.specs.Services.{disabled_line, node_lines, service_lines}

-- the lines of a service that is judged so: those of its node where nothing stands against it, else the one that names the reason
abbrev pub TellsState : Graph → ServiceEntry → State → Type 0
TellsState graph e None =
    (number : ℕ) × (node : Node) × (slice_get graph.nodes number ≡ Some node) × (node.name ≡ e.name) × (service_lines graph e.name ≡ node_lines number node)
TellsState graph e (Some fault) = service_lines graph e.name ≡ disabled_line e.name fault

abbrev pub name_of_router : RouterEntry → List ℕ
name_of_router e = e.name

abbrev pub name_of_row : Row → List ℕ
name_of_row row = row.name
