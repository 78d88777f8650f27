use Rattle.std.proofs.Common.{refl, ap}
use Rattle.back_machine.specs.Exchanges.{BackView}
use Rattle.conn_machine.proofs.Opens.{opened_at, reached_at}
use Rattle.conn_machine.proofs.Passings.{opened_back_end}
use Rattle.conn_machine.proofs.conn.Conn.note_end.Goals as goal

pub returns-in-Some-clause-reached : goal.returns-in-Some-clause-reached
returns-in-Some-clause-reached c = λ steps r.
    reached_at _ c.requires.phase c.requires.stage (opened_back_end c.in-Some.back c.end.new.self
    (record { asked = refl; size = refl; issue = refl; pinned = refl; index = refl; number = refl }) refl refl refl refl refl c.in-Some.is
    (ap (λ (b : BackView). b.reply) c.end.ensures.value) (ap (λ (b : BackView). b.state) c.end.ensures.value) c.end.ensures.reached (opened_at c.requires r))
