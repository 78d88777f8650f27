use Rattle.std.proofs.Common.{◌≡◌, map, take}
use Rattle.consul_kv.specs.Rises.{cut}
use Rattle.consul_kv.specs.Grown.{paths_of}
use Rattle.consul_kv.proofs.grow.cut_all.Given as goal

abbrev pub invariant-loop-leaf : goal.invariant-loop-leaf
invariant-loop-leaf l = paths_of l.below.items ≡ map (cut l.len) (paths_of (take l.leaf-index l.leaves))
