-- What contracts see of leaves.
use Rattle.std.specs.Prelude.{List, map}
use Rattle.consul_kv.specs.Keys.{Pair}
use Rattle.consul_kv.specs.declared.grow.Leaf.{Leaf}

abbrev pub leaf_view : Leaf → Pair
leaf_view leaf = (leaf.path.now, leaf.text.now)

abbrev pub paths_of : List Leaf → List Pair
paths_of leaves = map leaf_view leaves
