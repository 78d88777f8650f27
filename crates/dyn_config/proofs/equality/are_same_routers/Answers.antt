use Rattle.dyn_config.proofs.Sameness.{routers_told}
use Rattle.dyn_config.proofs.equality.are_same_routers.Goals as goal

pub returns : goal.returns
returns c = routers_told c.args.a.now c.args.b.now c.eq.result c.eq.ensures
