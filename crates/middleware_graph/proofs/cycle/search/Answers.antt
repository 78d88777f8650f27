use Rattle.std.proofs.Common.{arith}
use Rattle.std.proofs.lemmas.List.{nil_from_length}
use Rattle.middleware_graph.proofs.Searching.{searched_next, searched_all}
use Rattle.middleware_graph.proofs.cycle.search.Goals as goal

pub loop-next-preserved : goal.loop-next-preserved
loop-next-preserved c =
    searched_next c.args.nodes.now c.args.place c.members_at.result.now c.loop-next.seen c.visit_all.new.seen c.loop-next.waiting.items c.pop.new.self.items c.visit_all.new.waiting.items
    c.in-Some.next c.members_at.ensures c.in-Some.ensures.items c.in_ok-visit_all.ensures c.loop-next.invariant

pub returns : goal.returns
returns c = searched_all c.args.nodes.now c.args.place c.loop-next.seen c.loop-next.waiting.items (nil_from_length c.loop-next.waiting.items (omega (arith, c.in_default.ensures.cases))) c.loop-next.invariant
