use Rattle.std.proofs.Common.{refl}
use Rattle.middleware_graph.proofs.Visiting.{visited_then}
use Rattle.middleware_graph.proofs.cycle.visit_all.Goals as goal

pub loop-member-preserved : goal.loop-member-preserved
loop-member-preserved c =
    visited_then c.args.members.now c.loop-member.member-index c.args.seen.now c.loop-member.seen c.visit.new.seen c.args.waiting.now.items c.loop-member.waiting.items c.visit.new.waiting.items _ _
    c.loop-member-test.true c.loop-member.invariant c.in_ok-visit.ensures refl
