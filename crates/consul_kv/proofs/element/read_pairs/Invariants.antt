use Rattle.std.proofs.Common.{◌≡◌, List, map, take}
use Rattle.serde_json.specs.View.{view}
use Rattle.consul_kv.specs.Keys.{Pair, counted}
use Rattle.consul_kv.specs.Pairs.{pair_view}
use Rattle.consul_kv.specs.Elements.{ArePairsOf}
use Rattle.consul_kv.proofs.element.read_pairs.Given as goal

abbrev pub invariant-loop-at : goal.invariant-loop-at
invariant-loop-at l = (all : List Pair) × ArePairsOf (take l.at (map view l.elements)) all × (map pair_view l.pairs.items ≡ counted l.root all)
