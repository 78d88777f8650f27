use Rattle.std.proofs.Common.{refl}
use Rattle.conn_machine.proofs.Opens.{opened_at, reached_open}
use Rattle.conn_machine.proofs.Walkings.{opened_down, opened_up}
use Rattle.conn_machine.proofs.conn.Conn.note_look.Goals as goal

pub returns-then-look-eq0-clause-reached : goal.returns-then-look-eq0-clause-reached
returns-then-look-eq0-clause-reached c = λ steps r. reached_open _ c.requires.waits.phase (opened_down c.args.look c.push_look.ensures refl refl c.requires.node c.if-look-eq0.true (opened_at c.requires.waits r))

pub returns-else-look-eq0-clause-reached : goal.returns-else-look-eq0-clause-reached
returns-else-look-eq0-clause-reached c = λ steps r. reached_open _ c.requires.waits.phase (opened_up c.args.look c.push_look.ensures refl refl c.requires.node c.if-look-eq0.false (opened_at c.requires.waits r))
