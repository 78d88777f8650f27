use Rattle.memory_world.proofs.MarkLemmas.{first_has}
use Rattle.memory_world.proofs.book.Book.fail.Goals as goal

pub tell-requires : goal.tell-requires
tell-requires c = first_has c.args.self.now.marks c.args.mark.link c.args.at c.requires.first
