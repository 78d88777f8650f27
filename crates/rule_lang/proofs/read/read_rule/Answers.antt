use Rattle.std.proofs.Common.{subst, IfErr}
use Rattle.rule_lang.specs.Reading.{IsRuleFault}
use Rattle.rule_lang.proofs.read.read_rule.Goals as goal

pub returns-in-Ok-clause-fault : goal.returns-in-Ok-clause-fault
returns-in-Ok-clause-fault c = subst (λ t. IfErr c.read_expected.result (IsRuleFault t)) c.as_bytes-text.ensures.value c.read_expected.ensures.fault
