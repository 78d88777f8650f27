use Rattle.middleware_graph.proofs.Visiting.{visited_new}
use Rattle.middleware_graph.proofs.cycle.visit_place.Goals as goal

pub returns : goal.returns
returns c = visited_new c.args.place c.args.seen.now c.args.waiting.now.items c.push.new.self.items c.if-place-seen.false c.if-seen-place.false c.in_ok-push.ensures.items
