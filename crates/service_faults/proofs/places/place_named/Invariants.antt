use Rattle.std.proofs.Common.{◌≡◌, drop}
use Rattle.service_faults.specs.References.{place_from}
use Rattle.service_faults.proofs.places.place_named.Given as goal

abbrev pub invariant-loop-at : goal.invariant-loop-at
invariant-loop-at l = place_from 0 l.services l.name ≡ place_from l.at (drop l.at l.services) l.name
