use Rattle.dyn_config.proofs.Loops.{value_found}
use Rattle.dyn_config.proofs.options.value_under.Goals as goal

pub returns-in-Some-next_under : goal.returns-in-Some-next_under
returns-in-Some-next_under c =
    value_found c.args.tree.now c.in-Some.fields.now c.args.key.now c.in-Some-next_under.at c.value.result.now c.in-Some-next_under.ensures c.value.ensures c.in-Some.ensures
