use Rattle.router_table.proofs.Alone.{winner_same}
use Rattle.router_table.proofs.law.winners_are_alone.Goals as goal

pub returns : goal.returns
returns c = winner_same
