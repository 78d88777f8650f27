use Rattle.conn_machine.proofs.conn.Conn.back_bytes.Goals as goal

pub returns-clause-reached : goal.returns-clause-reached
returns-clause-reached c = λ steps r. c.conclude.ensures.reached _ (c.hear.ensures.reached steps r)
