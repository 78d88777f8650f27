use Rattle.runtime_config.proofs.Listing.{usable_more, usable_done}
use Rattle.runtime_config.proofs.usable.usable_middlewares.Goals as goal

pub loop-middleware-preserved : goal.loop-middleware-preserved
loop-middleware-preserved c =
    usable_more c.args.middlewares.now c.loop-middleware.middleware-index c.middleware-item.result c.loop-middleware.usable c.add_usable.new.usable
    c.loop-middleware-test.true c.middleware-item.is c.loop-middleware.invariant c.in_ok-add_usable.ensures

pub returns : goal.returns
returns c = usable_done c.args.middlewares.now c.loop-middleware.middleware-index c.loop-middleware.usable c.loop-middleware-test.false c.loop-middleware.invariant
