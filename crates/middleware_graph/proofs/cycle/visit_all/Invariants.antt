use Rattle.std.proofs.Common.{take}
use Rattle.middleware_graph.specs.Visits.{Visited}
use Rattle.middleware_graph.proofs.cycle.visit_all.Given as goal

abbrev pub invariant-loop-member : goal.invariant-loop-member
invariant-loop-member l = Visited (take l.member-index l.members) l.initial.seen l.initial.waiting.items l.seen l.waiting.items
