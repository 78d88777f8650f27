use Rattle.std.proofs.Common.{◌+◌, length}
use Rattle.middleware_graph.specs.Visits.{unseen_count}
use Rattle.middleware_graph.proofs.Searching.{Searched}
use Rattle.middleware_graph.proofs.cycle.search.Given as goal

abbrev pub invariant-loop-next : goal.invariant-loop-next
invariant-loop-next l = Searched l.nodes l.place l.seen l.waiting.items

abbrev pub decreases-loop-next : goal.decreases-loop-next
decreases-loop-next l = unseen_count l.seen + length l.waiting.items
