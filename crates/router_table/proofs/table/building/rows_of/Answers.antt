use Rattle.std.proofs.Common.{arith}
use Rattle.router_table.specs.Steps.{meant}
use Rattle.router_table.proofs.Listed.{row_next, rows_done, refused_more}
use Rattle.router_table.proofs.table.building.rows_of.Goals as goal

pub loop-entry-preserved : goal.loop-entry-preserved
loop-entry-preserved g c = record {
  few = omega (arith, c.in_ok-row.ensures.fewer, c.loop-entry.invariant.few);
  rows = row_next (meant c.args.setting.now) c.args.spare c.loop-entry.left c.row_of.new.left c.args.setting.now.merged.now.routers c.as_slice-entry-items.result.now
      c.loop-entry.entry-index c.entry-item.result c.loop-entry.rows c.push.new.self c.in_ok-row.row c.as_slice-entry-items.ensures c.loop-entry-test.true c.entry-item.is
      c.in_ok-row.ensures.row c.in_ok-row.ensures.left c.in_ok-push.ensures.ok c.loop-entry.invariant.rows;
  refused = refused_more (g.S.PatternShop.refusals c.args.shop.now) c.loop-entry.rows c.push.new.self c.in_ok-row.row (g.S.PatternShop.refusals c.loop-entry.shop) (g.S.PatternShop.refusals c.row_of.new.shop)
      c.loop-entry.invariant.refused c.in_ok-row.ensures.later c.in_ok-row.ensures.refused c.in_ok-push.ensures.ok;
  later = omega (arith, c.loop-entry.invariant.later, c.in_ok-row.ensures.later);
}

pub returns-clause-rows : goal.returns-clause-rows
returns-clause-rows g c =
    rows_done (meant c.args.setting.now) c.args.spare c.loop-entry.left c.args.setting.now.merged.now.routers c.as_slice-entry-items.result.now c.loop-entry.entry-index c.loop-entry.rows
    c.as_slice-entry-items.ensures c.loop-entry-test.false c.loop-entry.invariant.rows
