use Rattle.middleware_chain.proofs.Listing.{lines_next}
use Rattle.middleware_chain.proofs.lines.push_lines.Goals as goal

pub loop-middleware-preserved : goal.loop-middleware-preserved
loop-middleware-preserved c =
    lines_next c.args.middlewares.now c.loop-middleware.middleware-index c.middleware-item.result c.loop-middleware.out.items c.push_line.new.out.items c.args.out.now.items
    c.loop-middleware-test.true c.middleware-item.is c.loop-middleware.invariant c.in_ok-push_line.ensures
