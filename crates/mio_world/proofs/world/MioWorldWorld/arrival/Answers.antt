use Rattle.std.proofs.Common.{false}
use Rattle.mio_world.proofs.Did.{came_lately}
use Rattle.mio_world.proofs.world.MioWorldWorld.arrival.Goals as goal

pub returns-clause-lately : goal.returns-clause-lately
returns-clause-lately g c = came_lately c.args.self.now.clock c.args.self.now.waits_failed c.args.self.now.stops c.args.self.now.table c.give.new.self c.in-Some-give.link c.args.self.now.clocked false c.in-Some-give.ensures.given.0 c.in-Some-give.ensures.given.1
