use Rattle.std.proofs.Common.{rules}
use Rattle.memory_world.proofs.Did.{open_has}
use Rattle.memory_world.proofs.world.MemoryWorldWorld.read.Goals as goal

pub unreachable-requires : goal.unreachable-requires
unreachable-requires c = open_has c.args.self.now.book.marks c.args.link (search rules) c.requires.given
