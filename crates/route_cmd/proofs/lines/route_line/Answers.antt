use Rattle.std.proofs.lemmas.Result.{IfOk-weaker}
use Rattle.route_cmd.specs.Output.{nowhere}
use Rattle.route_cmd.proofs.lines.route_line.Goals as goal

pub winner_line-requires-clause-enabled : goal.winner_line-requires-clause-enabled
winner_line-requires-clause-enabled c = rw c.in-Some.is at c.requires.enabled

pub returns-in-Some : goal.returns-in-Some
returns-in-Some c = IfOk-weaker c.winner_line.result _ _ (λ text h entry asked won. h entry asked (rw c.in-Some.is at won)) c.winner_line.ensures

pub returns-in-None : goal.returns-in-None
returns-in-None c = IfOk-weaker c.from_slice.result _ _ (λ text e entry asked none. nowhere (rw c.in-None.is at none) e) c.from_slice.ensures.items
