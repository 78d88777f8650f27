use Rattle.std.proofs.Common.{◌≡◌, take, map}
use Rattle.dyn_config.specs.Readings.{name_of}
use Rattle.dyn_config.proofs.readers.read_names.Given as goal

abbrev pub invariant-loop-at : goal.invariant-loop-at
invariant-loop-at l = l.names ≡ map name_of (map (λ element. element.now) (take l.at l.found))
