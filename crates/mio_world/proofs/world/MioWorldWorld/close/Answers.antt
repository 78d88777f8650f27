use Rattle.std.proofs.Common.{sym}
use Rattle.mio_world.proofs.Did.{close_did, close_nothing, only_at}
use Rattle.mio_world.proofs.world.MioWorldWorld.close.Goals as goal

pub returns-then-is_open-clause-seen : goal.returns-then-is_open-clause-seen
returns-then-is_open-clause-seen g c = close_did c.args.self.now.clock c.args.self.now.waits_failed c.args.self.now.stops c.args.self.now.table c.close.new.self c.args.link c.close.ensures.means.is_open c.close.ensures.means.come c.close.ensures.means.small c.close.ensures.put

pub returns-then-is_open-clause-lately : goal.returns-then-is_open-clause-lately
returns-then-is_open-clause-lately g c = only_at c.args.self.now.clock c.args.self.now.waits_failed c.args.self.now.stops c.args.self.now.table c.close.new.self c.args.link c.args.self.now.clocked c.args.self.now.no_more _ c.close.ensures.put

pub returns-else-is_open-clause-seen : goal.returns-else-is_open-clause-seen
returns-else-is_open-clause-seen g c = close_nothing c.args.self.now.clock c.args.self.now.waits_failed c.args.self.now.stops c.args.self.now.table c.args.link (sym c.if-is_open.ensures)
