use Rattle.conn_machine.specs.declared.event.BackEvent.TheVariants as back
use Rattle.conn_machine.proofs.Events.{back_told}
use Rattle.conn_machine.proofs.conn.Conn.back_step.Goals as goal

pub returns-in-Bytes-clause-reached : goal.returns-in-Bytes-clause-reached
returns-in-Bytes-clause-reached c = λ prompt steps r. back_told c.back_bytes.new.self steps _ _ (back.Bytes c.in-Bytes.piece) c.in-Bytes.is (c.back_bytes.ensures.reached steps r)

pub returns-in-End-clause-reached : goal.returns-in-End-clause-reached
returns-in-End-clause-reached c = λ prompt steps r. back_told c.back_end.new.self steps _ _ back.End c.in-End.is (c.back_end.ensures.reached steps r)

pub returns-in-Failed-clause-reached : goal.returns-in-Failed-clause-reached
returns-in-Failed-clause-reached c = λ prompt steps r. back_told c.back_failed.new.self steps _ _ back.Failed c.in-Failed.is (c.back_failed.ensures.reached prompt steps r)

pub returns-in-Took-clause-reached : goal.returns-in-Took-clause-reached
returns-in-Took-clause-reached c = λ prompt steps r. back_told c.back_took.new.self steps _ _ (back.Took c.in-Took.n) c.in-Took.is (c.back_took.ensures.reached steps r)
