use Rattle.std.proofs.Common.{◌≡◌, drop, map}
use Rattle.serde_json.specs.View.{view}
use Rattle.consul_kv.specs.Depths.{deep_from}
use Rattle.consul_kv.proofs.depth.deep_place.Given as goal

abbrev pub invariant-loop-at : goal.invariant-loop-at
invariant-loop-at l = deep_from 0 l.root (map view l.elements) ≡ deep_from l.at l.root (map view (drop l.at l.elements))
