use Rattle.std.proofs.Common.{◌≡◌, map, take}
use Rattle.service_faults.specs.References.{places_of}
use Rattle.service_faults.proofs.places.links_of.Given as goal

abbrev pub invariant-loop-service : goal.invariant-loop-service
invariant-loop-service l = l.links.items ≡ map (places_of l.services) (take l.service-index l.services)
