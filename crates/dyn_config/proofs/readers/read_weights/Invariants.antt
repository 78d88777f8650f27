use Rattle.std.proofs.Common.{◌≡◌, take, map}
use Rattle.dyn_config.specs.Readings.{weight_of}
use Rattle.dyn_config.proofs.readers.read_weights.Given as goal

abbrev pub invariant-loop-at : goal.invariant-loop-at
invariant-loop-at l = l.weights ≡ map (weight_of l.style) (map (λ element. element.now) (take l.at l.found))
