use Rattle.std.proofs.Common.{rules}
use Rattle.memory_world.proofs.MarkLemmas.{first_here, none_next}
use Rattle.memory_world.proofs.mark.find.Goals as goal

pub returns-then-mark-link-clause-first : goal.returns-then-mark-link-clause-first
returns-then-mark-link-clause-first c = first_here c.args.marks.now c.args.link c.loop-at.at _ (search rules) c.loop-at.invariant c.if-mark-link.true

pub loop-at-preserved : goal.loop-at-preserved
loop-at-preserved c = none_next c.args.marks.now c.args.link c.loop-at.at _ (search rules) c.loop-at.invariant c.if-mark-link.false
