use Rattle.std.proofs.lemmas.Result.{IfOk-weaker}
use Rattle.route_cmd.proofs.lines.winner_line.Goals as goal

pub returns : goal.returns
returns c = IfOk-weaker c.flow_line.result _ _ (λ text h entry asked won. h entry asked c.args.request c.args.peer won c.in_ok-flow.ensures.through) c.flow_line.ensures
