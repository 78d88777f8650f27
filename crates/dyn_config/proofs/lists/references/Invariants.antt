use Rattle.std.proofs.Common.{◌≡◌, take, map}
use Rattle.dyn_config.proofs.lists.references.Given as goal

abbrev pub invariant-loop-value : goal.invariant-loop-value
invariant-loop-value l = map (λ element. element.now) l.found.items ≡ take l.value-index l.values
