use Rattle.std.specs.List.Sorted.{IsStrictlySortedBy}
use Rattle.config_tests.proofs.definitions.nest.Goals as goal

pub push-requires : goal.push-requires
unfolding IsStrictlySortedBy
push-requires c = rw c.new-fields.ensures (tt, tt)
