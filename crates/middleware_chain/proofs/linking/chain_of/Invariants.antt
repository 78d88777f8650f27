use Rattle.std.proofs.Common.{◌≡◌, length, take, true}
use Rattle.middleware_chain.specs.Counts.{flat_length}
use Rattle.middleware_chain.specs.Stages.{are_built}
use Rattle.middleware_chain.proofs.Linked.{Fronts}
use Rattle.middleware_chain.proofs.linking.chain_of.Given as goal

abbrev pub invariant-loop-name : goal.invariant-loop-name
invariant-loop-name l = record {
  count : length l.places.items ≡ flat_length l.chains.middlewares (take l.name-index l.names);
  there : are_built l.chains.parts l.places.items ≡ true;
  flattened : Fronts l.chains (take l.name-index l.names) l.places.items;
}
