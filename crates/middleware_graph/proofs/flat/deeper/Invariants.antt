use Rattle.middleware_graph.proofs.Flattening.{AreDeeper}
use Rattle.middleware_graph.proofs.flat.deeper.Given as goal

abbrev pub invariant-loop-place : goal.invariant-loop-place
invariant-loop-place l = AreDeeper l.nodes l.table l.next l.place
