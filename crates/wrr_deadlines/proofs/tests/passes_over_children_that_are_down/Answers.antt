-- The periods of these weights are 3 and 0.
use Rattle.std.proofs.Common.{lit≤}
use Rattle.wrr_deadlines.specs.Reduced.{period_len, common_divisor, greatest_divisor}
use Rattle.wrr_deadlines.proofs.tests.passes_over_children_that_are_down.Goals as goal

pub new-requires-clause-short : goal.new-requires-clause-short
unfolding period_len common_divisor greatest_divisor
new-requires-clause-short g c = lit≤ tt

pub new-requires-3-clause-short : goal.new-requires-3-clause-short
unfolding period_len common_divisor greatest_divisor
new-requires-3-clause-short g c = lit≤ tt
