-- The nodes of a configuration: its services that can be used, numbered by name from 0.
use Rattle.std.specs.Prelude.{◌≡◌, ℕ, ◌+◌, Bool, true, false, not, List, [], ◌∷◌, ◌++◌, length, map, ◌⊎◌, ⊤}
use Rattle.px_base.specs.declared.server.Server.{Server}
use Rattle.dyn_config.specs.declared.merged.Entry.{Entry}
use Rattle.dyn_config.specs.declared.service.ServiceDef.{ServiceDef}
use Rattle.dyn_config.specs.declared.service.ServiceDef.TheVariants.{Balancer, Weighted, Mirroring, Failover, Unsupported}
use Rattle.router_table.specs.Settings.{is_listed}
use Rattle.router_table.specs.declared.row.Row.{Row}
use Rattle.router_table.specs.declared.row.RouterState.{RouterState}
use Rattle.router_table.specs.declared.row.RouterState.TheVariants.{Enabled, Disabled}
use Rattle.service_graph.specs.Only.{IsOnlyServer}
use Rattle.generation.specs.declared.nodes.Node.{Node}

-- no option of a balancer asks for what is not supported
abbrev pub is_usable_def : ServiceDef → Bool
is_usable_def (Balancer b) = not b.unsupported
is_usable_def (Weighted w) = false
is_usable_def (Mirroring m) = false
is_usable_def (Failover f) = false
is_usable_def Unsupported = false

abbrev pub is_usable : Entry ServiceDef → Bool
is_usable service = is_usable_def service.def

-- the client's host text is passed on to the balancer's server
abbrev pub passes_host : ServiceDef → Bool
passes_host (Balancer b) = b.pass_host
passes_host (Weighted w) = false
passes_host (Mirroring m) = false
passes_host (Failover f) = false
passes_host Unsupported = false

abbrev pub name_of : Node → List ℕ
name_of n = n.name

-- the node at this place is this service's, and leads to its server
pub record IsNode (place : ℕ) (service : Entry ServiceDef) (n : Node) : Type 0 where
  pub name : n.name ≡ service.name
  pub place_is : n.target.node ≡ place
  pub server : Server
  pub only : IsOnlyServer service.def server
  pub host : n.target.host ≡ server.host
  pub port : n.target.port ≡ server.port
  pub pass_host : n.target.pass_host ≡ passes_host service.def

-- the nodes of these services, the first of which has this place
abbrev pub AreNodes : ℕ → List (Entry ServiceDef) → List Node → Type 0
AreNodes place [] [] = ⊤
AreNodes place [] (n ∷ ns) = ⊥
AreNodes place (e ∷ es) [] = ⊥
AreNodes place (e ∷ es) (n ∷ ns) = IsNode place e n × AreNodes (place + 1) es ns

-- the service's node is added where it can be used
abbrev pub IsAdded : Entry ServiceDef → List Node → List Node → Type 0
IsAdded e old new =
    ((is_usable e ≡ true) × ((n : Node) × IsNode (length old) e n × (new ≡ old ++ n ∷ [])))
    ⊎ ((is_usable e ≡ false) × (new ≡ old))

-- the service of a router in this state is among the nodes, where the router is enabled
abbrev pub has_node_by : List Node → RouterState → Bool
has_node_by nodes (Enabled service chain search) = is_listed (map name_of nodes) service
has_node_by nodes (Disabled fault) = true

abbrev pub has_node : List Node → Row → Bool
has_node nodes row = has_node_by nodes row.state
