use Rattle.reference_graph.specs.Heights.{IsSettling}
use Rattle.reference_graph.proofs.heights.settle.Given as goal

abbrev pub invariant-loop-at : goal.invariant-loop-at
invariant-loop-at l = IsSettling l.links l.blocked l.initial.heights.items l.heights.items l.at l.found
