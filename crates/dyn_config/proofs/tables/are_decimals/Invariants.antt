use Rattle.std.proofs.Common.{◌≡◌, drop}
use Rattle.std.specs.List.{list_all}
use Rattle.dyn_config.specs.Walk.{is_decimal}
use Rattle.dyn_config.proofs.tables.are_decimals.Given as goal

abbrev pub invariant-loop-at : goal.invariant-loop-at
invariant-loop-at l = list_all (λ e. is_decimal e.0) l.fields ≡ list_all (λ e. is_decimal e.0) (drop l.at l.fields)
