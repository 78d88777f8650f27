use Rattle.std.proofs.Common.{length}
use Rattle.replay_script.proofs.Pieces.{Partly}
use Rattle.replay_script.proofs.escapes.unescape.Given as goal

abbrev pub invariant-loop-rest : goal.invariant-loop-rest
invariant-loop-rest l = Partly l.text l.rest l.bytes.items

abbrev pub decreases-loop-rest : goal.decreases-loop-rest
decreases-loop-rest l = length l.rest
