use Rattle.std.proofs.Common.{◌+◌, length}
use Rattle.reference_graph.specs.Search.{IsUnderWay, remaining}
use Rattle.reference_graph.proofs.reaching.seen_from.Given as goal

abbrev pub invariant-loop-at : goal.invariant-loop-at
invariant-loop-at l = IsUnderWay l.links l.from l.seen.items l.todo.items

abbrev pub decreases-loop-at : goal.decreases-loop-at
decreases-loop-at l = remaining l.seen.items + length l.todo.items
