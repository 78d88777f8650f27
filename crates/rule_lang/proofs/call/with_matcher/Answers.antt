use Rattle.rule_lang.specs.declared.token.TokenKind.TheVariants as kind
use Rattle.rule_lang.proofs.Expecting.{mark_of}
use Rattle.rule_lang.proofs.Valuing.{one_item, two_items, fault_of}
use Rattle.rule_lang.proofs.call.with_matcher.Goals as goal

pub returns-in-len1-clause-fault : goal.returns-in-len1-clause-fault
returns-in-len1-clause-fault c =
    fault_of c.args.text.now c.args.name.start c.args.matcher c.args.values.now _ c.with_one.result (one_item c.args.values.now (mark_of kind.Or) c.in-len1.len_at_least c.in-len1.len_below)
    (c.takes_count.ensures.0 c.if-not-takes_count.false) c.with_one.ensures.fault

pub returns-in-len2-clause-fault : goal.returns-in-len2-clause-fault
returns-in-len2-clause-fault c =
    fault_of c.args.text.now c.args.name.start c.args.matcher c.args.values.now _ c.with_two.result (two_items c.args.values.now (mark_of kind.Or) c.in-len2.len_at_least c.in-len2.len_below)
    (c.takes_count.ensures.0 c.if-not-takes_count.false) c.with_two.ensures.fault
