use Rattle.generation.proofs.Leading.{none_qualified, none_in_range}
use Rattle.generation.proofs.generation.Generation.empty.Goals as goal

pub invariant_of-merged : goal.invariant_of-merged
invariant_of-merged c = record {
  qualified = none_qualified c.new.result c.new-2.result c.new-3.result c.new.ensures c.new-2.ensures c.new-3.ensures;
  in_range = none_in_range c.new-2.result c.new-3.result c.new-2.ensures c.new-3.ensures;
}
