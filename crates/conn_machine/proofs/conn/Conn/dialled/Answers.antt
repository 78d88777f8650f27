use Rattle.conn_machine.proofs.conn.Conn.dialled.Goals as goal

pub returns-clause-reached : goal.returns-clause-reached
returns-clause-reached c = λ steps a is new r. c.start.ensures.reached _ (c.note_dial.ensures.reached steps a is new r)
