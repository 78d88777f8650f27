use Rattle.dyn_config.proofs.Sameness.{services_told}
use Rattle.dyn_config.proofs.equality.are_same_services.Goals as goal

pub returns : goal.returns
returns c = services_told c.args.a.now c.args.b.now c.eq.result c.eq.ensures
