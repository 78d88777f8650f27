use Rattle.std.proofs.Common.{◌≡◌, drop}
use Rattle.service_nodes.specs.Nodes.{node_number_from}
use Rattle.service_nodes.proofs.naming.node_named.Given as goal

abbrev pub invariant-loop-number : goal.invariant-loop-number
invariant-loop-number l = node_number_from 0 l.nodes l.name ≡ node_number_from l.number (drop l.number l.nodes) l.name
