use Rattle.reference_graph.proofs.Rising.{numbers_rise}
use Rattle.reference_graph.proofs.law.numbers_rise_to_parents.Goals as goal

pub returns : goal.returns
returns c = numbers_rise
