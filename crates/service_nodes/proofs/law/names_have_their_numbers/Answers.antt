use Rattle.service_nodes.proofs.Names.{names_number}
use Rattle.service_nodes.proofs.law.names_have_their_numbers.Goals as goal

pub returns : goal.returns
returns c = names_number
