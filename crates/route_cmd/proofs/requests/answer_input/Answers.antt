use Rattle.std.proofs.Common.{drop}
use Rattle.std.proofs.lemmas.Result.{IfOk-weaker}
use Rattle.route_cmd.specs.Output.{head}
use Rattle.route_cmd.proofs.requests.answer_input.Goals as goal

pub returns-in-Whole-clause-told : goal.returns-in-Whole-clause-told
returns-in-Whole-clause-told c =
    let (h, at, few) = c.in-Whole.ensures.whole in
    IfOk-weaker c.answer_head.result _ _ (λ a told. head h (drop c.in-Whole.spans.len c.args.input.now) at.reads few (told h at)) c.answer_head.ensures.told
