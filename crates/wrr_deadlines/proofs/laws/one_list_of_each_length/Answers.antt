use Rattle.wrr_deadlines.proofs.Pops.{IsOnlyList-first_pops}
use Rattle.wrr_deadlines.proofs.laws.one_list_of_each_length.Goals as goal

pub returns : goal.returns
returns c = IsOnlyList-first_pops
