use Rattle.std.proofs.Common.{◌≡◌, drop, map}
use Rattle.dyn_config.specs.Walk.{is_known}
use Rattle.dyn_config.specs.Shapes.{rows_of, row_view}
use Rattle.dyn_config.proofs.rows.is_known.Given as goal

abbrev pub invariant-loop-at : goal.invariant-loop-at
invariant-loop-at l = is_known (rows_of l.fn.table) l.key ≡ is_known (map row_view (drop l.at l.rows)) l.key
