use Rattle.reference_graph.specs.Heights.{height_at, depth_of}
use Rattle.reference_graph.proofs.NumberLemmas.{GoesOn}
use Rattle.reference_graph.proofs.numbering.next_below.Given as goal

abbrev pub invariant-loop-next : goal.invariant-loop-next
invariant-loop-next l = GoesOn l.links l.heights l.numbers l.first l.at

abbrev pub decreases-loop-next : goal.decreases-loop-next
decreases-loop-next l = depth_of (height_at l.heights l.at)
