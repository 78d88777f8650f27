use Rattle.std.proofs.Common.{arith, subst, sym}
use Rattle.middleware_graph.specs.Tables.{IsTable}
use Rattle.middleware_graph.proofs.Flattening.{table_none, table_next, table_full}
use Rattle.middleware_graph.proofs.flat.flatten.Goals as goal

pub loop-depth-init : goal.loop-depth-init
loop-depth-init c = subst (IsTable c.args.nodes.now 0) (sym c.new-table.ensures) (table_none c.args.nodes.now)

pub loop-depth-preserved : goal.loop-depth-preserved
loop-depth-preserved c =
    table_next c.args.nodes.now c.loop-depth.table c.as_slice.result.now c.in_ok-next.next c.loop-depth._depth c.as_slice.ensures c.in_ok-next.ensures c.loop-depth.invariant

pub returns : goal.returns
returns c = table_full c.args.nodes.now c.loop-depth.table c.loop-depth._depth (omega arith) c.loop-depth.invariant
