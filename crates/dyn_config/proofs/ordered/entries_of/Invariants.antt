use Rattle.std.proofs.Common.{◌≡◌, ◌++◌, drop, map}
use Rattle.dyn_config.specs.Ordered.{entry_view}
use Rattle.dyn_config.proofs.ordered.entries_of.Given as goal

abbrev pub invariant-loop-at : goal.invariant-loop-at
invariant-loop-at l = l.fields ≡ map entry_view l.entries.items ++ drop l.at l.fields
