use Rattle.field_tree.proofs.Times.{time_is}
use Rattle.field_tree.proofs.tree.Tree.duration.Goals as goal

pub returns-clause-value : goal.returns-clause-value
returns-clause-value c = time_is c.args.style c.args.self.now c.time-time.result c.time-time.ensures
