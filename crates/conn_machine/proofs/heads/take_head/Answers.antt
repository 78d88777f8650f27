use Rattle.conn_machine.proofs.Finds.{found_served, found_faulty}
use Rattle.conn_machine.proofs.heads.take_head.Goals as goal

pub returns-in_ok-served-in-Ok : goal.returns-in_ok-served-in-Ok
returns-in_ok-served-in-Ok c = found_served c.args.buf.now c.args.room.now c.args.spans.now c.args.peer c.in-Ok.request c.in_ok-served-in-Ok.field-0 c.requires.head c.requires.short c.in-Ok.ensures c.in_ok-served-in-Ok.ensures

pub returns-in-Err-Head : goal.returns-in-Err-Head
returns-in-Err-Head c = found_faulty c.args.buf.now c.args.room.now c.args.spans.now c.args.peer c.in-Err-Head.field-0 c.in-Err-Head.fault c.refused.result c.requires.head c.requires.short c.in-Err-Head.ensures c.in-Err-Head.field-0-is (rw c.in-Err-Head.field-0-is at c.refused.ensures)
