use Rattle.rule_lang.specs.Trees.{tree_of}
use Rattle.router_table.proofs.Judged.{leaves_after}
use Rattle.router_table.proofs.judging.state_under.Goals as goal

pub returns-in-Err-Fault-clause-left : goal.returns-in-Err-Fault-clause-left
returns-in-Err-Fault-clause-left g c =
    rw c.in-Err-Fault.ensures.left (leaves_after c.args.left.now c.args.entry.now.def (tree_of c.args.rule.now) c.requires.rule)
