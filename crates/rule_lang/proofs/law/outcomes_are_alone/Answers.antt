use Rattle.rule_lang.proofs.Apart.{outcome_same}
use Rattle.rule_lang.proofs.law.outcomes_are_alone.Goals as goal

pub returns : goal.returns
returns c = outcome_same
