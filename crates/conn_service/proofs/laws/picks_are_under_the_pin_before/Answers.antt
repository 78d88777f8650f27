use Rattle.conn_service.proofs.Stretches.{picks_of_cut}
use Rattle.conn_service.proofs.laws.picks_are_under_the_pin_before.Goals as goal

pub returns : goal.returns
returns c = picks_of_cut
