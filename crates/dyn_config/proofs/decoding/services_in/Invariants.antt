use Rattle.std.proofs.Common.{◌≡◌, ◌++◌, drop, map}
use Rattle.dyn_config.specs.Readings.{service_of}
use Rattle.dyn_config.proofs.decoding.services_in.Given as goal

abbrev pub invariant-loop-at : goal.invariant-loop-at
invariant-loop-at l = map (λ entry. (entry.0, service_of l.style entry.1)) l.fields ≡ l.defs ++ map (λ entry. (entry.0, service_of l.style entry.1)) (drop l.at l.fields)
