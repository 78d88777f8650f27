use Rattle.conn_service.proofs.Stretches.{looks_of_cut}
use Rattle.conn_service.proofs.laws.looks_are_under_the_pin_before.Goals as goal

pub returns : goal.returns
returns c = looks_of_cut
