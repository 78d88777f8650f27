use Rattle.std.proofs.Common.{◌≡◌, drop}
use Rattle.middleware_chain.specs.Names.{name_of, place_from}
use Rattle.middleware_chain.proofs.naming.place_declared.Given as goal

abbrev pub invariant-loop-at : goal.invariant-loop-at
invariant-loop-at l = place_from name_of 0 l.entries l.name ≡ place_from name_of l.at (drop l.at l.entries) l.name
