use Rattle.dyn_config.proofs.Sameness.{middlewares_told}
use Rattle.dyn_config.proofs.equality.are_same_middlewares.Goals as goal

pub returns : goal.returns
returns c = middlewares_told c.args.a.now c.args.b.now c.eq.result c.eq.ensures
