-- The lines of services, by the graph that they make.
use Rattle.std.specs.Prelude.{ℕ, ◌+◌, List, [], ◌∷◌, ◌++◌, codes, Option, Some, None, slice_get, bytes_eq, if◌then◌else◌}
use Rattle.std.specs.Fmt.{decimal}
use Rattle.px_base.specs.declared.server.Server.{Server}
use Rattle.dyn_config.specs.declared.merged.Entry.{Entry}
use Rattle.dyn_config.specs.declared.service.ServiceDef.{ServiceDef}
use Rattle.service_faults.specs.declared.fault.ServiceFault.{ServiceFault}
use Rattle.service_faults.specs.declared.fault.ServiceFault.TheVariants as fault
use Rattle.service_nodes.specs.Nodes.{node_number}
use Rattle.service_nodes.specs.declared.graph.Graph.{Graph}
use Rattle.service_nodes.specs.declared.node.Node.{Node}
use Rattle.service_nodes.specs.declared.node.NodeKind.{NodeKind}
use Rattle.service_nodes.specs.declared.node.NodeKind.TheVariants as kind

abbrev pub kind_name : NodeKind → List ℕ
kind_name (kind.Balancer servers sticky pass_host health) = codes "balancer"
kind_name (kind.Weighted children weights sticky) = codes "weighted"
kind_name (kind.Mirroring main mirrors percents max_body) = codes "mirroring"
kind_name (kind.Failover main fallback) = codes "failover"

abbrev pub fault_name : ServiceFault → List ℕ
fault_name fault.Unsupported = codes "Unsupported"
fault_name fault.TooManyChildren = codes "TooManyChildren"
fault_name fault.Scheme = codes "Scheme"
fault_name fault.BadUrl = codes "BadUrl"
fault_name fault.WeightsTooLarge = codes "WeightsTooLarge"
fault_name fault.Missing = codes "Missing"
fault_name fault.Cycle = codes "Cycle"
fault_name fault.Child = codes "Child"
fault_name fault.TooDeep = codes "TooDeep"

-- `server <node> <place> `
abbrev pub place_text : ℕ → ℕ → List ℕ
place_text node place = codes "server " ++ decimal node ++ codes " " ++ decimal place ++ codes " "

-- `<host>:<port> weight <w>`
abbrev pub address_text : Server → List ℕ
address_text s = s.host ++ codes ":" ++ decimal s.port ++ codes " weight " ++ decimal s.weight ++ codes "\n"

-- `server <node> <place> <host>:<port> weight <w>`
abbrev pub server_line : ℕ → ℕ → Server → List ℕ
server_line node place s = place_text node place ++ address_text s

-- the lines of a node's servers, the first of which has this place
abbrev pub server_lines : ℕ → ℕ → List Server → List ℕ
server_lines node place [] = []
server_lines node place (s ∷ ss) = server_line node place s ++ server_lines node (place + 1) ss

-- the lines of a balancer's servers; other kinds have none
abbrev pub kind_lines : ℕ → NodeKind → List ℕ
kind_lines node (kind.Balancer servers sticky pass_host health) = server_lines node 0 servers
kind_lines node (kind.Weighted children weights sticky) = []
kind_lines node (kind.Mirroring main mirrors percents max_body) = []
kind_lines node (kind.Failover main fallback) = []

-- `service <name> <kind> node <i>`
abbrev pub sound_line : ℕ → Node → List ℕ
sound_line number n = codes "service " ++ n.name ++ codes " " ++ kind_name n.kind ++ codes " node " ++ decimal number ++ codes "\n"

-- that line, and those of its servers
abbrev pub node_lines : ℕ → Node → List ℕ
node_lines number n = sound_line number n ++ kind_lines number n.kind

-- `service <name> disabled <reason>`
abbrev pub disabled_line : List ℕ → ServiceFault → List ℕ
disabled_line name f = codes "service " ++ name ++ codes " disabled " ++ fault_name f ++ codes "\n"

-- the reason against the service with this name
abbrev pub fault_of : List (List ℕ × ServiceFault) → List ℕ → Option ServiceFault
fault_of [] name = None
fault_of (f ∷ fs) name = if bytes_eq f.0 name then Some f.1 else fault_of fs name

abbrev pub fault_lines : List ℕ → Option ServiceFault → List ℕ
fault_lines name (Some f) = disabled_line name f
fault_lines name None = []

abbrev pub found_lines : ℕ → Option Node → List ℕ
found_lines number (Some n) = node_lines number n
found_lines number None = []

-- the lines of the node with this number
abbrev pub numbered_lines : List Node → ℕ → List ℕ
numbered_lines nodes number = found_lines number (slice_get nodes number)

abbrev pub lines_by : Graph → List ℕ → Option ℕ → List ℕ
lines_by graph name (Some number) = numbered_lines graph.nodes number
lines_by graph name None = fault_lines name (fault_of graph.faults name)

-- the lines of the service with this name: those of its node, or the one that tells its fault
abbrev pub service_lines : Graph → List ℕ → List ℕ
service_lines graph name = lines_by graph name (node_number graph.nodes name)

-- the lines of declared services, in order
abbrev pub services_lines : Graph → List (Entry ServiceDef) → List ℕ
services_lines graph [] = []
services_lines graph (e ∷ es) = service_lines graph e.name ++ services_lines graph es
