use Rattle.std.proofs.Common.{length}
use Rattle.replay_cmd.specs.Replays.{IsStart, Replays}
use Rattle.replay_cmd.specs.declared.run.Run.{Run}
use Rattle.replay_cmd.proofs.answer.replay.Given as goal

abbrev pub invariant-loop-rest : goal.invariant-loop-rest
invariant-loop-rest g l = record {
  start : IsStart l.initial.run;
  told : Replays l.initial.run l.script (g.S.PatternShop.refusals l.fn.shop) l.run l.rest (g.S.PatternShop.refusals l.shop);
}

abbrev pub decreases-loop-rest : goal.decreases-loop-rest
decreases-loop-rest g l = length l.rest
