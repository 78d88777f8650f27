use Rattle.link_world.specs.declared.world.LinkRead.TheVariants.{NotYet}
use Rattle.mio_world.proofs.Did.{read_did, read_lately}
use Rattle.mio_world.proofs.world.MioWorldWorld.read.Goals as goal

pub returns-then-not-is_readable-clause-seen : goal.returns-then-not-is_readable-clause-seen
returns-then-not-is_readable-clause-seen g c = read_did c.args.self.now.clock c.args.self.now.waits_failed c.args.self.now.stops c.args.self.now.table c.did_read.new.self c.args.link NotYet c.args.room.now c.did_read.ensures.put tt c.did_read.ensures.means.small

pub returns-then-not-is_readable-clause-lately : goal.returns-then-not-is_readable-clause-lately
returns-then-not-is_readable-clause-lately g c = read_lately c.args.self.now.clock c.args.self.now.waits_failed c.args.self.now.stops c.args.self.now.table c.did_read.new.self c.args.link c.args.self.now.clocked c.args.self.now.no_more NotYet c.did_read.ensures.put

pub returns-clause-seen : goal.returns-clause-seen
returns-clause-seen g c = read_did c.args.self.now.clock c.args.self.now.waits_failed c.args.self.now.stops c.args.self.now.table c.did_read-reads.new.self c.args.link c.read-answer.result c.read-answer.new.room c.did_read-reads.ensures.put c.read-answer.ensures c.did_read-reads.ensures.means.small

pub returns-clause-lately : goal.returns-clause-lately
returns-clause-lately g c = read_lately c.args.self.now.clock c.args.self.now.waits_failed c.args.self.now.stops c.args.self.now.table c.did_read-reads.new.self c.args.link c.args.self.now.clocked c.args.self.now.no_more c.read-answer.result c.did_read-reads.ensures.put
