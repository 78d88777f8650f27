use Rattle.std.proofs.Common.{refl}
use Rattle.conn_machine.proofs.Opens.{opened_at, reached_at}
use Rattle.conn_machine.proofs.Happenings.{opened_back_took}
use Rattle.conn_machine.proofs.conn.Conn.back_took.Goals as goal

pub returns-in-Some-clause-reached : goal.returns-in-Some-clause-reached
returns-in-Some-clause-reached c = λ steps r.
    reached_at _ c.requires.waits.phase c.requires.waits.stage (opened_back_took c.args.n c.in-Some.back c.took.new.self
    (record { asked = refl; size = refl; issue = refl; pinned = refl; index = refl; number = refl }) refl refl refl refl refl c.in-Some.is c.took.ensures.value c.took.ensures.reached (opened_at c.requires.waits r))
