use Rattle.std.proofs.Common.{◌≡◌, map, take, Some}
use Rattle.reference_graph.specs.Numbering.{number_in}
use Rattle.service_nodes.specs.Nodes.{number_behind}
use Rattle.service_nodes.proofs.children.children_at.Given as goal

abbrev pub invariant-loop-place : goal.invariant-loop-place
invariant-loop-place l = map Some l.children ≡ map (number_behind (number_in l.numbers)) (take l.place-index l.places)
