use Rattle.std.proofs.Common.{◌≡◌, map, take}
use Rattle.middleware_chain.specs.Built.{listed_name, listed_state}
use Rattle.middleware_chain.specs.Names.{name_of}
use Rattle.middleware_chain.proofs.building.listed.Given as goal

abbrev pub invariant-loop-at : goal.invariant-loop-at
invariant-loop-at l = record {
  names : map listed_name l.middlewares ≡ map name_of (take l.at l.entries);
  states : map listed_state l.middlewares ≡ take l.at l.states;
}
