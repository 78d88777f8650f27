use Rattle.conn_service.proofs.Stretches.{number_of_last}
use Rattle.conn_service.proofs.laws.the_last_pin_gives_the_number.Goals as goal

pub returns : goal.returns
returns c = number_of_last
