use Rattle.middleware_graph.specs.Tables.{IsTable}
use Rattle.middleware_graph.proofs.flat.flatten.Given as goal

abbrev pub invariant-loop-depth : goal.invariant-loop-depth
invariant-loop-depth l = IsTable l.nodes l._depth l.table
