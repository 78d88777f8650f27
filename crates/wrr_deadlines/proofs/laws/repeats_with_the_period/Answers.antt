use Rattle.wrr_deadlines.proofs.Periodic.{popped_child-add_period, times_popped-add_period, weight_of-whole, period_len-none}
use Rattle.wrr_deadlines.proofs.Divisors.{period_len-positive}
use Rattle.wrr_deadlines.proofs.laws.repeats_with_the_period.Goals as goal

pub returns-clause-again : goal.returns-clause-again
returns-clause-again c = popped_child-add_period

pub returns-clause-shares : goal.returns-clause-shares
returns-clause-shares c = times_popped-add_period

pub returns-clause-whole : goal.returns-clause-whole
returns-clause-whole c = weight_of-whole

pub returns-clause-none : goal.returns-clause-none
returns-clause-none c = period_len-none

pub returns-clause-some : goal.returns-clause-some
returns-clause-some c = period_len-positive
