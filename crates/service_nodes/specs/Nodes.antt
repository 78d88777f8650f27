-- The nodes of a graph. A node stands for a sound service and is known by its number.
use Rattle.std.specs.Prelude.{◌≡◌, ℕ, ◌+◌, List, [], ◌∷◌, map, Option, Some, None, slice_get, bytes_eq, if◌then◌else◌, ⊤}
use Rattle.std.specs.List.{AllZip}
use Rattle.px_base.specs.declared.server.Server.{Server}
use Rattle.dyn_config.specs.declared.service.ServerDef.{ServerDef}
use Rattle.dyn_config.specs.declared.service.ServiceDef.{ServiceDef}
use Rattle.dyn_config.specs.declared.service.ServiceDef.TheVariants as def
use Rattle.service_graph.specs.Urls.{IsServerUrl}
use Rattle.service_faults.specs.References.{ServiceEntry, places_of}
use Rattle.service_nodes.specs.declared.node.Node.{Node}
use Rattle.service_nodes.specs.declared.node.NodeKind.{NodeKind}
use Rattle.service_nodes.specs.declared.node.NodeKind.TheVariants as kind

-- the nodes that a node leads to, in the order in which its service names them
abbrev pub children_of : NodeKind → List ℕ
children_of (kind.Balancer servers sticky pass_host health) = []
children_of (kind.Weighted children weights sticky) = children
children_of (kind.Mirroring main mirrors percents max_body) = main ∷ mirrors
children_of (kind.Failover main fallback) = main ∷ fallback ∷ []

-- the host and the port of the definition's URL, and its weight
pub record IsServerOf (d : ServerDef) (s : Server) : Type 0 where
  pub url : IsServerUrl d.url s.host s.port
  pub weight : s.weight ≡ d.weight

abbrev pub IsFailover : NodeKind → Type 0
IsFailover (kind.Balancer servers sticky pass_host health) = ⊥
IsFailover (kind.Weighted children weights sticky) = ⊥
IsFailover (kind.Mirroring main mirrors percents max_body) = ⊥
IsFailover (kind.Failover main fallback) = ⊤

-- a node does what its service is declared to do: a balancer has one server a definition, in order; all other options are as declared
abbrev pub IsKindOf : ServiceDef → NodeKind → Type 0
IsKindOf (def.Balancer b) (kind.Balancer servers sticky pass_host health) =
    AllZip IsServerOf b.servers servers × (sticky ≡ b.sticky) × (pass_host ≡ b.pass_host) × (health ≡ b.health)
IsKindOf (def.Weighted w) (kind.Weighted children weights sticky) = (weights ≡ w.weights) × (sticky ≡ w.sticky)
IsKindOf (def.Mirroring m) (kind.Mirroring main mirrors percents max_body) = (percents ≡ m.percents) × (max_body ≡ m.max_body)
IsKindOf (def.Failover f) k = IsFailover k
IsKindOf _ _ = ⊥

-- the number of the service to which a reference leads
abbrev pub number_behind : (ℕ → Option ℕ) → Option ℕ → Option ℕ
number_behind number None = None
number_behind number (Some at) = number at

-- the node of a service whose references lead to these places: its children are the services there, by their numbers
pub record IsNodeOf (number : ℕ → Option ℕ) (places : List (Option ℕ)) (e : ServiceEntry) (node : Node) : Type 0 where
  pub name : node.name ≡ e.name
  pub kind : IsKindOf e.def node.kind
  pub children : map Some (children_of node.kind) ≡ map (number_behind number) places

-- the node of the service that is declared at a place
abbrev pub IsNodeAt : List ServiceEntry → (ℕ → Option ℕ) → ℕ → Node → Type 0
IsNodeAt services number at node = (e : ServiceEntry) × (slice_get services at ≡ Some e) × IsNodeOf number (places_of services e) e node

-- the number of the first node with this name, where the first of these nodes has the number n
abbrev pub node_number_from : ℕ → List Node → List ℕ → Option ℕ
node_number_from n [] name = None
node_number_from n (node ∷ nodes) name = if bytes_eq node.name name then Some n else node_number_from (n + 1) nodes name

-- the number of the node with this name
abbrev pub node_number : List Node → List ℕ → Option ℕ
node_number nodes name = node_number_from 0 nodes name
