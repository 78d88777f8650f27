use Rattle.std.proofs.Common.{rules}
use Rattle.memory_world.proofs.Did.{close_absent}
use Rattle.memory_world.proofs.world.MemoryWorldWorld.close.Goals as goal

pub returns-in_default-clause-seen : goal.returns-in_default-clause-seen
returns-in_default-clause-seen c = close_absent c.args.self.now.clock c.args.self.now.waits c.args.self.now.waits_failed c.args.self.now.stops c.args.self.now.book.marks c.args.self.now.book.log c.args.link (search rules)
