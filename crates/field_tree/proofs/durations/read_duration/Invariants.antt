use Rattle.std.proofs.Common.{length}
use Rattle.field_tree.proofs.Parts.{Left}
use Rattle.field_tree.proofs.durations.read_duration.Given as goal

abbrev pub invariant-loop-rest : goal.invariant-loop-rest
invariant-loop-rest l = Left l.text l.total l.rest

abbrev pub decreases-loop-rest : goal.decreases-loop-rest
decreases-loop-rest l = length l.rest
