use Rattle.provider_merge.proofs.Empty.{empty_few, empty_named, empty_in_range}
use Rattle.provider_merge.proofs.alone.empty_config.Goals as goal

pub invariant_of-result : goal.invariant_of-result
invariant_of-result c = record {
  few = empty_few c.new.result c.new-2.result c.new-3.result c.new.ensures c.new-2.ensures c.new-3.ensures;
  named = empty_named c.new.result c.new-2.result c.new-3.result c.new.ensures c.new-2.ensures c.new-3.ensures;
  in_range = empty_in_range c.new-2.result c.new-3.result c.new-2.ensures c.new-3.ensures;
}
