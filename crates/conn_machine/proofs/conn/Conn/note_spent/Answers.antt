use Rattle.conn_machine.proofs.Opens.{opened_at, reached_open}
use Rattle.conn_machine.proofs.Walkings.{opened_spent}
use Rattle.conn_machine.proofs.conn.Conn.note_spent.Goals as goal

pub returns-clause-reached : goal.returns-clause-reached
returns-clause-reached c = λ steps r. reached_open _ c.requires.waits.phase (opened_spent c.args.node c.requires.node (opened_at c.requires.waits r))
