use Rattle.std.proofs.Common.{rules}
use Rattle.memory_world.proofs.Kept.{lines_end}
use Rattle.memory_world.proofs.world.MemoryWorld.note_lines.Goals as goal

pub returns : goal.returns
returns c = lines_end c.args.link c.args.self.now.book.marks c.args.self.now.book.log c.records-kept.result.now c.loop-entry.entry-index c.loop-entry.text.items c.records-kept.ensures.kept (search rules) c.loop-entry.invariant
