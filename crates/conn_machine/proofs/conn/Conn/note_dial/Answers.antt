use Rattle.std.proofs.Common.{refl}
use Rattle.conn_machine.proofs.Opens.{opened_at, reached_open}
use Rattle.conn_machine.proofs.Exchanges.{opened_dialled}
use Rattle.conn_machine.proofs.conn.Conn.note_dial.Goals as goal

pub returns-clause-reached : goal.returns-clause-reached
returns-clause-reached c = λ steps a is new r.
    reached_open _ c.requires.waits.phase (opened_dialled c.args.link a
    (record { asked = refl; size = refl; issue = refl; pinned = refl; index = refl; number = refl }) refl refl refl refl refl refl refl c.push_link.ensures is new (opened_at c.requires.waits r))
