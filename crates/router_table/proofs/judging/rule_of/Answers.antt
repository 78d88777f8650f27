use Rattle.router_table.proofs.Judged.{refused_no_rule}
use Rattle.router_table.proofs.judging.rule_of.Goals as goal

pub returns-in-Err-clause-none : goal.returns-in-Err-clause-none
returns-in-Err-clause-none c = refused_no_rule c.args.def.now c.as_slice.result.now c.in-Err.fault c.refusal_of.result c.as_slice.ensures c.in-Err.ensures.fault c.refusal_of.ensures
