use Rattle.conn_machine.proofs.conn.Conn.spent.Goals as goal

pub returns-clause-reached : goal.returns-clause-reached
returns-clause-reached c = λ steps r. c.answer_spent.ensures.reached _ (c.note_spent.ensures.reached steps r)
