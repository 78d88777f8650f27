use Rattle.std.proofs.Common.{◌≡◌, take, map}
use Rattle.std.specs.Map.{values_of}
use Rattle.dyn_config.specs.Ordered.{entry_view}
use Rattle.dyn_config.proofs.lists.values_at.Given as goal

abbrev pub invariant-loop-at : goal.invariant-loop-at
invariant-loop-at l = map (λ element. element.now) l.found.items ≡ values_of (map entry_view (take l.at l.entries))
