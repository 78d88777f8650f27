use Rattle.std.proofs.Common.{length}
use Rattle.path_norm.proofs.Paths.{Progress}
use Rattle.path_norm.proofs.normal.write_normal.Given as goal

abbrev pub invariant-loop-rest : goal.invariant-loop-rest
invariant-loop-rest l = Progress l.path l.rest l.out.items l.ends_in_dots

abbrev pub decreases-loop-rest : goal.decreases-loop-rest
decreases-loop-rest l = length l.rest
