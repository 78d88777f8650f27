use Rattle.std.proofs.Common.{◌≡◌, ◌++◌, map, take}
use Rattle.service_faults.specs.References.{place_of}
use Rattle.service_faults.proofs.places.add_all.Given as goal

abbrev pub invariant-loop-reference : goal.invariant-loop-reference
invariant-loop-reference l = l.places ≡ l.initial.places ++ map (place_of l.services l.provider) (take l.reference-index l.references)
