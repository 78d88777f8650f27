use Rattle.dyn_config.proofs.Made.{are_few, are_named, are_in_range}
use Rattle.dyn_config.proofs.decoding.read_config.Goals as goal

pub invariant_of-result : goal.invariant_of-result
invariant_of-result c = record {
  few = are_few c.args.style c.args.tree.now c.requires c.in_ok-routers.routers c.in_ok-services.services c.in_ok-middlewares.middlewares c.in_ok-routers.ensures c.in_ok-services.ensures c.in_ok-middlewares.ensures;
  named = are_named c.args.style c.args.tree.now c.requires c.in_ok-routers.routers c.in_ok-services.services c.in_ok-middlewares.middlewares c.in_ok-routers.ensures c.in_ok-services.ensures c.in_ok-middlewares.ensures c.names_rise.ensures c.names_rise-2.ensures c.names_rise-3.ensures;
  in_range = are_in_range c.args.style c.args.tree.now c.requires c.in_ok-routers.routers c.in_ok-services.services c.in_ok-middlewares.middlewares c.in_ok-routers.ensures c.in_ok-services.ensures c.in_ok-middlewares.ensures;
}
