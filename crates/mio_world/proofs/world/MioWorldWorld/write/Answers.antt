use Rattle.mio_world.proofs.Did.{write_did, write_lately}
use Rattle.mio_world.proofs.world.MioWorldWorld.write.Goals as goal

pub returns-clause-seen : goal.returns-clause-seen
returns-clause-seen g c = write_did c.args.self.now.clock c.args.self.now.waits_failed c.args.self.now.stops c.args.self.now.table c.did_write.new.self c.args.link c.write-answer.result c.args.piece.now c.did_write.ensures.put c.write-answer.ensures c.did_write.ensures.means.small

pub returns-clause-lately : goal.returns-clause-lately
returns-clause-lately g c = write_lately c.args.self.now.clock c.args.self.now.waits_failed c.args.self.now.stops c.args.self.now.table c.did_write.new.self c.args.link c.args.self.now.clocked c.args.self.now.no_more c.write-answer.result c.did_write.ensures.put
