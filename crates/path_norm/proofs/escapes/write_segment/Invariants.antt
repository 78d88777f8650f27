use Rattle.std.proofs.Common.{length}
use Rattle.path_norm.proofs.Pieces.{Wrote}
use Rattle.path_norm.proofs.escapes.write_segment.Given as goal

abbrev pub invariant-loop-rest : goal.invariant-loop-rest
invariant-loop-rest l = Wrote l.segment l.initial.out.items l.rest l.out.items

abbrev pub decreases-loop-rest : goal.decreases-loop-rest
decreases-loop-rest l = length l.rest
