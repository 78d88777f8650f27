use Rattle.dyn_config.specs.Readings.{declared_under}
use Rattle.dyn_config.proofs.Made.{none_rise}
use Rattle.dyn_config.proofs.decoding.names_rise.Goals as goal

pub returns-in-None : goal.returns-in-None
returns-in-None c = none_rise (declared_under c.args.key.now c.args.tree.now) c.in-None.ensures
