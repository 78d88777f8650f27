use Rattle.wrr_deadlines.proofs.Ratios.{IsEarliestDeadline-scaled}
use Rattle.wrr_deadlines.proofs.laws.follows_the_ratios.Goals as goal

pub returns : goal.returns
returns c = IsEarliestDeadline-scaled
