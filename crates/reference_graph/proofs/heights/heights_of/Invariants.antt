use Rattle.std.proofs.Common.{◌≡◌, length}
use Rattle.reference_graph.specs.Heights.{AreHeights, unsettled}
use Rattle.reference_graph.proofs.heights.heights_of.Given as goal

abbrev pub invariant-loop : goal.invariant-loop
invariant-loop l = record { long : length l.heights.items ≡ length l.links; are_heights : AreHeights l.links l.blocked l.heights.items }

abbrev pub decreases-loop : goal.decreases-loop
decreases-loop l = unsettled l.heights.items
