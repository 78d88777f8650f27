use Rattle.std.proofs.Common.{sym, ◌∙◌}
use Rattle.desk.proofs.Counts.{last_count_here, last_count_before}
use Rattle.desk.proofs.seats.count_at.Goals as goal

pub returns-then-is_at : goal.returns-then-is_at
returns-then-is_at c = sym (last_count_here c.args.number c.args.node c.in-Some.before.now c.counts.rest.now c.in-Some.last.now c.in-Some.ensures.cases.0 (sym c.is_at.ensures ∙ c.if-is_at.true)) ∙ c.counts.invariant

pub counts-preserved : goal.counts-preserved
counts-preserved c = sym (last_count_before c.args.number c.args.node c.in-Some.before.now c.counts.rest.now c.in-Some.last.now c.in-Some.ensures.cases.0 (sym c.is_at.ensures ∙ c.if-is_at.false)) ∙ c.counts.invariant
