use Rattle.conn_service.proofs.Wents.{went_then}
use Rattle.conn_service.proofs.choose.choose.Goals as goal

pub returns-in_err-pin-clause-went : goal.returns-in_err-pin-clause-went
returns-in_err-pin-clause-went g c = c.pin.ensures.went

pub returns-clause-went : goal.returns-clause-went
returns-clause-went g c = λ s l linked. let w = c.pin.ensures.went s l linked in went_then w (c.look.ensures.went s l w.conn.linked)
