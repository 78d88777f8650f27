use Rattle.std.proofs.Common.{◌≡◌, map, take}
use Rattle.middleware_chain.specs.Parts.{node_of}
use Rattle.middleware_chain.proofs.parts.nodes_of.Given as goal

abbrev pub invariant-loop-part : goal.invariant-loop-part
invariant-loop-part l = l.nodes ≡ map node_of (take l.part-index l.parts)
