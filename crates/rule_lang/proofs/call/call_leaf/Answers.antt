use Rattle.rule_lang.specs.Values.{tokens_call}
use Rattle.rule_lang.proofs.Valuing.{call_fault}
use Rattle.rule_lang.proofs.call.call_leaf.Goals as goal

pub returns-in-Some-clause-fault : goal.returns-in-Some-clause-fault
returns-in-Some-clause-fault c =
    call_fault c.args.text.now c.spelled.result.now (tokens_call c.args.name c.args.values.now) c.in-Some.matcher c.with_matcher.result c.spelled.ensures c.in-Some.ensures.named c.with_matcher.ensures.fault
