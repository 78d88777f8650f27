use Rattle.std.proofs.Common.{◌≡◌, map, take}
use Rattle.consul_kv.specs.Rises.{cut}
use Rattle.consul_kv.specs.Pairs.{pair_view}
use Rattle.consul_kv.specs.Grown.{paths_of}
use Rattle.consul_kv.proofs.config.leaves_of.Given as goal

abbrev pub invariant-loop-pair : goal.invariant-loop-pair
invariant-loop-pair l = paths_of l.leaves.items ≡ map (cut l.len) (map pair_view (take l.pair-index l.pairs))
