use Rattle.std.proofs.Common.{◌≡◌, map, take}
use Rattle.generation.specs.Nodes.{name_of}
use Rattle.generation.proofs.building.names_of.Given as goal

abbrev pub invariant-loop-node : goal.invariant-loop-node
invariant-loop-node l = l.names.items ≡ map name_of (take l.node-index l.nodes)
