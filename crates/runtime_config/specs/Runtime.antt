-- A configuration as it runs.
use Rattle.std.specs.Prelude.{◌≡◌, ℕ, ◌+◌, ◌-◌, ◌^◌, ◌≤◌, min, true, List, [], map, count_by, Some, slice_get}
use Rattle.dyn_config.specs.declared.merged.Merged.{Merged}
use Rattle.dyn_config.specs.declared.middleware.MiddlewareDef.{MiddlewareDef}
use Rattle.middleware_chain.specs.Built.{AreChains}
use Rattle.middleware_chain.specs.Flattened.{IsFlattened}
use Rattle.middleware_chain.specs.Names.{MiddlewareEntry}
use Rattle.middleware_chain.specs.Parts.{is_refused as is_part_refused}
use Rattle.router_table.specs.Rows.{AreRows, is_refused as is_state_refused}
use Rattle.router_table.specs.Settings.{Setting, setting_of}
use Rattle.router_table.specs.Winner.{is_enabled}
use Rattle.router_table.specs.declared.row.Row.{Row}
use Rattle.router_table.specs.declared.row.Search.{Search}
use Rattle.router_table.specs.declared.row.RouterState.{RouterState}
use Rattle.router_table.specs.declared.row.RouterState.TheVariants.{Enabled, Disabled}
use Rattle.service_nodes.specs.Graphs.{IsGraph}
use Rattle.service_nodes.specs.Nodes.{node_number}
use Rattle.service_nodes.specs.declared.node.Node.{Node}
use Rattle.runtime_config.specs.Usable.{name_of, usable_of}
use Rattle.runtime_config.specs.Linked.{link_at, stages_in}
use Rattle.runtime_config.specs.declared.config.RuntimeConfig.{RuntimeConfig}

-- an enabled router has the row with this number
abbrev pub IsEnabledAt : List Row → ℕ → Type 0
IsEnabledAt rows number = (row : Row) × (slice_get rows number ≡ Some row) × (is_enabled row ≡ true)

-- the middlewares of the router in a row, in the order in which they are asked of a request
abbrev pub stages_of : RuntimeConfig → ℕ → List MiddlewareDef
stages_of r row = stages_in r.chains (link_at r.links row)

-- the router in a row leads to the node with this number, which is that of its service's name
pub record LeadsTo (r : RuntimeConfig) (number at : ℕ) (node : Node) : Type 0 where
  pub row : Row
  pub service : List ℕ
  pub names : List (List ℕ)
  pub search : Search
  pub here : slice_get r.table.rows number ≡ Some row
  pub enabled : row.state ≡ Enabled service names search
  pub named : node_number r.graph.nodes service ≡ Some at
  pub there : slice_get r.graph.nodes at ≡ Some node

-- routers are judged by the services that are nodes and by the middlewares that can be used
abbrev pub judged_by : Merged → RuntimeConfig → Setting
judged_by m r = setting_of m (map name_of r.graph.nodes) (usable_of r.chains.middlewares)

-- these are the middlewares of a router in this state: those that its names stand for, and none where it is disabled
abbrev pub HasStages : List MiddlewareEntry → RouterState → List MiddlewareDef → Type 0
HasStages all (Enabled service names search) defs = IsFlattened all names defs
HasStages all (Disabled fault) defs = defs ≡ []

-- this configuration as it runs
pub record IsRuntime (m : Merged) (r : RuntimeConfig) : Type 0 where
  pub merged_is : r.merged ≡ m
  -- its services are judged: the sound ones are nodes, the others have their first faults
  pub graph : IsGraph m.services r.graph
  -- so are its middlewares, whose patterns may be 256
  pub chains : AreChains m.middlewares 256 r.chains
  -- each router has its row, with its first fault if it has one; its rules may have the patterns that middlewares left
  pub rows : AreRows (judged_by m r) (256 - r.chains.built) m.routers r.table.rows
  -- each enabled router has the middlewares that it names
  pub stages : (number : ℕ) (row : Row) → slice_get r.table.rows number ≡ Some row → HasStages m.middlewares row.state (stages_of r number)

-- how many middlewares and routers are disabled for a pattern that is too big
abbrev pub refused_count : RuntimeConfig → ℕ
refused_count r = count_by is_part_refused r.chains.parts + count_by (λ (row : Row). is_state_refused row.state) r.table.rows

-- the shop, which counted `old` refusals before and `new` after, refused a pattern for each of them
abbrev pub IsCounted : ℕ → ℕ → RuntimeConfig → Type 0
IsCounted old new r = min (old + refused_count r) (2 ^ 64 - 1) ≤ new
