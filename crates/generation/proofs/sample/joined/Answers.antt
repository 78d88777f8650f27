use Rattle.generation.proofs.Leading.{alone_qualified, alone_in_range}
use Rattle.generation.proofs.sample.joined.Goals as goal

pub invariant_of-result : goal.invariant_of-result
invariant_of-result c = record {
  qualified = alone_qualified c.in_ok-routers.routers c.in_ok-services.services c.new.result _ _ c.in_ok-routers.ensures c.in_ok-services.ensures c.new.ensures c.requires.web c.requires.app;
  in_range = alone_in_range c.in_ok-services.services c.new.result _ c.in_ok-services.ensures c.new.ensures c.requires.service;
}
