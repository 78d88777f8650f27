use Rattle.std.proofs.Common.{refl}
use Rattle.conn_machine.proofs.Opens.{opened_at, reached_open, reached_broken}
use Rattle.conn_machine.proofs.Exchanges.{opened_exchange}
use Rattle.conn_machine.proofs.conn.Conn.start.Goals as goal

pub returns-clause-reached : goal.returns-clause-reached
returns-clause-reached c = λ steps r.
    let h = c.in_ok-back.ensures in
    reached_open _ refl (opened_exchange h.1 h.0 c.in_ok-back.back
    (record { asked = refl; size = refl; issue = refl; pinned = refl; index = refl; number = refl }) refl refl refl refl refl h.3 h.2 h.4 h.5 (opened_at c.requires r))

pub returns-in_err-back-clause-reached : goal.returns-in_err-back-clause-reached
returns-in_err-back-clause-reached c = λ steps r. reached_broken _ refl (opened_at c.requires r)
