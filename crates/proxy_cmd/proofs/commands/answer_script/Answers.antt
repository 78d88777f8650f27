use Rattle.proxy_cmd.specs.Output.{replayed}
use Rattle.proxy_cmd.proofs.commands.answer_script.Goals as goal

pub returns-in_ok-replay-in-Ok-clause-told : goal.returns-in_ok-replay-in-Ok-clause-told
returns-in_ok-replay-in-Ok-clause-told g c =
    let told = rw c.as_slice.ensures.value at c.in_ok-replay-in-Ok.ensures.told in
    replayed c.in-Ok.script.items (record { all = c.in-Ok.ensures.all; fits = c.in-Ok.ensures.fits }) told
