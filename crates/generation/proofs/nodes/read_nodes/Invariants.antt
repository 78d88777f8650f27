use Rattle.std.proofs.Common.{take}
use Rattle.std.specs.Prelude.{filter}
use Rattle.generation.specs.Nodes.{AreNodes, is_usable}
use Rattle.generation.proofs.nodes.read_nodes.Given as goal

abbrev pub invariant-loop-service : goal.invariant-loop-service
invariant-loop-service l = AreNodes 0 (filter is_usable (take l.service-index l.services)) l.nodes
