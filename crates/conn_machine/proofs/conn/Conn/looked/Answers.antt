use Rattle.conn_machine.proofs.conn.Conn.looked.Goals as goal

pub returns-in-Down-clause-reached : goal.returns-in-Down-clause-reached
returns-in-Down-clause-reached c = λ steps r. c.answer_down.ensures.reached _ (c.note_look.ensures.reached steps r)
