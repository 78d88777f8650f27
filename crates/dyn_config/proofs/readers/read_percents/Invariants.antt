use Rattle.std.proofs.Common.{◌≡◌, take, map}
use Rattle.dyn_config.specs.Readings.{percent_of}
use Rattle.dyn_config.proofs.readers.read_percents.Given as goal

abbrev pub invariant-loop-at : goal.invariant-loop-at
invariant-loop-at l = l.percents ≡ map (percent_of l.style) (map (λ element. element.now) (take l.at l.found))
