use Rattle.std.proofs.Common.{◌≡◌, drop, not}
use Rattle.std.specs.List.{list_any}
use Rattle.dyn_config.specs.Walk.{is_known}
use Rattle.dyn_config.specs.Shapes.{rows_of}
use Rattle.dyn_config.proofs.kinds.is_unknown_in.Given as goal

abbrev pub invariant-loop-at : goal.invariant-loop-at
invariant-loop-at l = list_any (λ entry. not (is_known (rows_of l.table) entry.0)) l.fields ≡ list_any (λ entry. not (is_known (rows_of l.table) entry.0)) (drop l.at l.fields)
