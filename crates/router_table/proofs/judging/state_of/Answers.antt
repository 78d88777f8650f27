use Rattle.router_table.proofs.Judged.{leaves_all}
use Rattle.router_table.proofs.judging.state_of.Goals as goal

pub returns-in-Err-Fault-clause-left : goal.returns-in-Err-Fault-clause-left
returns-in-Err-Fault-clause-left g c =
    leaves_all c.args.left.now c.args.entry.now.def (rw c.in-Err-Fault.field-0-is at c.in-Err-Fault.ensures.none)
