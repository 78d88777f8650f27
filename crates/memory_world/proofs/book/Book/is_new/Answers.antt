use Rattle.std.proofs.Common.{rules}
use Rattle.memory_world.proofs.Kept.{fresh_all}
use Rattle.memory_world.proofs.book.Book.is_new.Goals as goal

pub returns-clause-fresh : goal.returns-clause-fresh
returns-clause-fresh c = λ t. fresh_all c.args.self.now.marks c.args.link c.args.self.now.log c.records.result.now c.records.ensures.kept (search rules) (c.is_fresh.ensures t)
