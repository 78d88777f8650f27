use Rattle.std.proofs.Common.{rules, refl, subst, sym, List, false}
use Rattle.link_world.specs.Lately.{Began}
use Rattle.memory_world.specs.declared.mark.Mark.{Mark}
use Rattle.memory_world.specs.declared.record.Record.TheVariants as kept
use Rattle.memory_world.specs.Marks.{lately_of}
use Rattle.memory_world.proofs.Did.{seen_waited, began_all}
use Rattle.memory_world.proofs.world.MemoryWorldWorld.wait.Goals as goal

pub returns-clause-seen : goal.returns-clause-seen
returns-clause-seen g c = rw c.saturating_add-self-2.ensures
    (seen_waited c.args.self.now.clock c.args.self.now.waits c.args.self.now.waits_failed c.args.self.now.stops c.args.until c.args.self.now.book.marks c.begin.new.self.marks c.args.self.now.book.log c.begin.new.self.log (kept.Waited c.args.until) refl (search rules) (search rules))

pub returns-clause-lately : goal.returns-clause-lately
returns-clause-lately g c = (refl, refl, λ l _. subst (λ (ms : List Mark). Began (lately_of c.args.self.now.clocked c.args.self.now.no_more c.args.self.now.book.marks) l (lately_of false false ms)) (sym (search rules)) (began_all _ _ _ _ c.args.self.now.book.marks l))
