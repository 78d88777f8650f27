use Rattle.std.proofs.Common.{sum_by}
use Rattle.reference_graph.specs.Heights.{is_sound}
use Rattle.reference_graph.specs.Numbering.{IsNumberedBelow, unnumbered}
use Rattle.reference_graph.proofs.numbering.number_below.Given as goal

abbrev pub invariant-loop-numbers : goal.invariant-loop-numbers
invariant-loop-numbers l = IsNumberedBelow l.links (is_sound l.heights) l.first l.order.items l.numbers.items

abbrev pub decreases-loop-numbers : goal.decreases-loop-numbers
decreases-loop-numbers l = sum_by unnumbered l.numbers.items
