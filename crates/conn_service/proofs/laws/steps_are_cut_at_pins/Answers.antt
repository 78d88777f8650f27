use Rattle.conn_service.proofs.Stretches.{cut_of}
use Rattle.conn_service.proofs.laws.steps_are_cut_at_pins.Goals as goal

pub returns : goal.returns
returns c = cut_of
