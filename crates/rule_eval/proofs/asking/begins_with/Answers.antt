use Rattle.rule_eval.proofs.Texts.{prefix_is}
use Rattle.rule_eval.proofs.asking.begins_with.Goals as goal

pub returns : goal.returns
returns c = prefix_is c.args.path.now c.args.front.now c.starts_with.result c.starts_with.ensures.value
