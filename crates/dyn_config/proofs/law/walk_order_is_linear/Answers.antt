use Rattle.dyn_config.proofs.ByNumber.{walk_linear}
use Rattle.dyn_config.proofs.law.walk_order_is_linear.Goals as goal

pub returns : goal.returns
returns c = walk_linear
