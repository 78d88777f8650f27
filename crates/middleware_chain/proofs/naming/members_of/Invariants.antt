use Rattle.std.proofs.Common.{◌≡◌, map, take}
use Rattle.middleware_chain.specs.Names.{place_of}
use Rattle.middleware_chain.proofs.naming.members_of.Given as goal

abbrev pub invariant-loop-reference : goal.invariant-loop-reference
invariant-loop-reference l = l.members ≡ map (place_of l.entries l.provider) (take l.reference-index l.references)
