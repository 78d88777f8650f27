use Rattle.desk.proofs.Numbers.{greatest}
use Rattle.desk.proofs.laws.the_last_is_the_greatest.Goals as goal

pub returns : goal.returns
returns c = greatest
