use Rattle.route_cmd.specs.Output.{answered}
use Rattle.route_cmd.proofs.requests.answer_source.Goals as goal

pub returns-in_ok-answer_input-in-Ok-clause-told : goal.returns-in_ok-answer_input-in-Ok-clause-told
returns-in_ok-answer_input-in-Ok-clause-told g c =
    let told = rw c.as_slice.ensures.value at c.in_ok-answer_input-in-Ok.ensures.told in
    answered c.in-Ok.text.items (record { all = c.in-Ok.ensures.all; fits = c.in-Ok.ensures.fits }) told
