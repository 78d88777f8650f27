use Rattle.std.proofs.Common.{rules, ap, sym}
use Rattle.memory_world.specs.declared.mark.Mark.{Mark}
use Rattle.memory_world.proofs.MarkLemmas.{absent_blank}
use Rattle.memory_world.proofs.world.MemoryWorld.is_open.Goals as goal

pub returns-in-None : goal.returns-in-None
returns-in-None c = sym (ap (λ (m : Mark). m.is_open) (absent_blank c.args.self.now.book.marks c.args.link (search rules)))
