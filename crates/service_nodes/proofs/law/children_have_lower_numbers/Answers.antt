use Rattle.service_nodes.proofs.Whole.{children_below}
use Rattle.service_nodes.proofs.law.children_have_lower_numbers.Goals as goal

pub returns : goal.returns
returns c = children_below
