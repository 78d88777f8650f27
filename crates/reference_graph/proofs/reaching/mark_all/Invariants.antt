use Rattle.std.proofs.Common.{take}
use Rattle.reference_graph.specs.Search.{IsMarked}
use Rattle.reference_graph.proofs.reaching.mark_all.Given as goal

abbrev pub invariant-loop-place : goal.invariant-loop-place
invariant-loop-place l = IsMarked (take l.place-index l.places) l.initial.seen.items l.initial.todo.items l.seen.items l.todo.items
