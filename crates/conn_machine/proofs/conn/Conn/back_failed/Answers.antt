use Rattle.conn_machine.proofs.conn.Conn.back_failed.Goals as goal

pub returns-clause-reached : goal.returns-clause-reached
returns-clause-reached c = λ prompt steps r. c.conclude.ensures.reached _ (c.note_fault.ensures.reached prompt steps r)
