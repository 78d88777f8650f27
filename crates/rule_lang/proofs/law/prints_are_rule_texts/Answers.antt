use Rattle.rule_lang.specs.declared.print.Level.TheVariants as level
use Rattle.rule_lang.proofs.Printed.{printed}
use Rattle.rule_lang.proofs.law.prints_are_rule_texts.Goals as goal

pub returns : goal.returns
returns c = printed level.Or
