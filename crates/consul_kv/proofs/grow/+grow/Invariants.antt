use Rattle.std.proofs.Common.{◌+◌, ◌*◌, ◌-◌, length}
use Rattle.consul_kv.specs.Grown.{paths_of}
use Rattle.consul_kv.proofs.Growing.{IsGrownUpto, total}
use Rattle.consul_kv.proofs.grow.+grow.Given as goal

abbrev pub decreases-table_of : goal.decreases-table_of
decreases-table_of l = 2 * total (paths_of l.leaves.now) + 1

abbrev pub decreases-branch_of : goal.decreases-branch_of
decreases-branch_of l = 2 * total (paths_of l.leaves.now)

abbrev pub invariant-table_of-loop-at : goal.invariant-table_of-loop-at
invariant-table_of-loop-at l = IsGrownUpto (paths_of l.leaves) l.at l.fields

abbrev pub decreases-table_of-loop-at : goal.decreases-table_of-loop-at
decreases-table_of-loop-at l = length l.initial.leaves - l.at
