use Rattle.reference_graph.specs.Heights.{is_sound}
use Rattle.reference_graph.specs.Numbering.{IsNumberedBelow}
use Rattle.reference_graph.proofs.numbering.number_all.Given as goal

abbrev pub invariant-loop-first : goal.invariant-loop-first
invariant-loop-first l = IsNumberedBelow l.links (is_sound l.heights) l.first l.order.items l.numbers.items
