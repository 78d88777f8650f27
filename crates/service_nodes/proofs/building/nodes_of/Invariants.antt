use Rattle.std.proofs.Common.{take}
use Rattle.std.specs.List.{AllZip}
use Rattle.reference_graph.specs.Numbering.{number_in}
use Rattle.service_nodes.specs.Nodes.{IsNodeAt}
use Rattle.service_nodes.proofs.building.nodes_of.Given as goal

abbrev pub invariant-loop-at : goal.invariant-loop-at
invariant-loop-at l = AllZip (IsNodeAt l.services (number_in l.numbers)) (take l.at-index l.order) l.nodes
