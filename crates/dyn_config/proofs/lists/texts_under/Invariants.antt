use Rattle.std.proofs.Common.{◌≡◌, take, map, Some, []}
use Rattle.dyn_config.specs.Readings.{text_or}
use Rattle.dyn_config.proofs.lists.texts_under.Given as goal

abbrev pub invariant-loop-at : goal.invariant-loop-at
invariant-loop-at l = l.texts ≡ map (λ element. text_or [] (Some element)) (map (λ element. element.now) (take l.at l.found.items))
