use Rattle.std.proofs.Common.{◌≡◌, drop}
use Rattle.dyn_config.specs.Walk.{under_key}
use Rattle.dyn_config.proofs.tables.next_under.Given as goal

abbrev pub invariant-loop-at : goal.invariant-loop-at
invariant-loop-at l = under_key l.key (drop l.from l.fields) ≡ under_key l.key (drop l.at l.fields)
