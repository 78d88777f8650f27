use Rattle.std.proofs.Common.{◌+◌, ◌-◌, ◌^◌, ◌≤◌, min, List, ◌++◌, drop, count_by}
use Rattle.router_table.specs.Rows.{AreRows, is_refused}
use Rattle.router_table.specs.Steps.{meant}
use Rattle.router_table.specs.declared.row.Row.{Row}
use Rattle.router_table.proofs.table.building.rows_of.Given as goal

abbrev pub invariant-loop-entry : goal.invariant-loop-entry
invariant-loop-entry g l = record {
  few : l.left ≤ 256;
  rows : (rs : List Row) → AreRows (meant l.setting) l.left (drop l.entry-index l.setting.merged.now.routers) rs
      → AreRows (meant l.setting) l.spare l.setting.merged.now.routers (l.rows ++ rs);
  refused : min (g.S.PatternShop.refusals l.fn.shop + count_by (λ (row : Row). is_refused row.state) l.rows) (2 ^ 64 - 1) ≤ g.S.PatternShop.refusals l.shop;
  later : g.S.PatternShop.refusals l.fn.shop ≤ g.S.PatternShop.refusals l.shop;
}
