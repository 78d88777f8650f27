use Rattle.std.proofs.Common.{refl, ap, subst}
use Rattle.conn_machine.specs.Relays.{IsOpenBack}
use Rattle.back_machine.specs.Exchanges.{BackView}
use Rattle.conn_machine.proofs.Opens.{opened_at, reached_at}
use Rattle.conn_machine.proofs.Passings.{opened_back_failed}
use Rattle.conn_machine.proofs.conn.Conn.note_fault.Goals as goal

pub returns-in-Some-clause-reached : goal.returns-in-Some-clause-reached
returns-in-Some-clause-reached c = λ prompt steps r.
    reached_at _ c.requires.phase c.requires.stage (opened_back_failed c.in-Some.back c.failed.new.self
    (record { asked = refl; size = refl; issue = refl; pinned = refl; index = refl; number = refl }) refl refl refl refl refl c.in-Some.is
    (ap (λ (b : BackView). b.reply) c.failed.ensures.value) (subst IsOpenBack c.in-Some.is (prompt.exchange c.requires)) (ap (λ (b : BackView). b.state) c.failed.ensures.value) c.failed.ensures.reached (opened_at c.requires r))
