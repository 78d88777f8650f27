-- The period of the weights 1 and 2 is 3.
use Rattle.std.proofs.Common.{lit≤}
use Rattle.wrr_deadlines.specs.Reduced.{period_len, common_divisor, greatest_divisor}
use Rattle.wrr_deadlines.proofs.tests.pops_by_deadline.Goals as goal

pub popped-requires-2-clause-short : goal.popped-requires-2-clause-short
unfolding period_len common_divisor greatest_divisor
popped-requires-2-clause-short g c = lit≤ tt

pub looked_up-requires-2-clause-short : goal.looked_up-requires-2-clause-short
unfolding period_len common_divisor greatest_divisor
looked_up-requires-2-clause-short g c = lit≤ tt
