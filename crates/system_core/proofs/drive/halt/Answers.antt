use Rattle.std.proofs.Common.{◌∙◌}
use Rattle.system_core.proofs.Driving.{halted_by, over_closed}
use Rattle.system_core.proofs.drive.halt.Goals as goal

pub returns-clause-driven : goal.returns-clause-driven
returns-clause-driven c =
    halted_by c.args.conn.now c.stop.new.self c.tell_notes.new.conn c.args.notes.now.items c.tell_notes.new.notes.items _
    c.stop.ensures.client c.stop.ensures.over c.stop.ensures.reached c.in_ok-tell_notes.ensures.noted c.in_ok-tell_notes.ensures.drained

pub returns-clause-closed : goal.returns-clause-closed
returns-clause-closed c = λ o. over_closed c.stop.new.self _ c.stop.ensures.over (c.tell_notes.ensures.opens o)

pub returns-in_err-tell_notes-clause-closed : goal.returns-in_err-tell_notes-clause-closed
returns-in_err-tell_notes-clause-closed c = λ o. over_closed c.stop.new.self _ c.stop.ensures.over (c.tell_notes.ensures.opens o)
