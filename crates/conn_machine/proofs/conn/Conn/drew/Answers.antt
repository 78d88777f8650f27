use Rattle.std.proofs.Common.{refl}
use Rattle.conn_machine.proofs.Opens.{opened_at, reached_open}
use Rattle.conn_machine.proofs.Walkings.{opened_drew}
use Rattle.conn_machine.proofs.conn.Conn.drew.Goals as goal

pub returns-clause-reached : goal.returns-clause-reached
returns-clause-reached c = λ steps r. reached_open _ c.requires.waits.phase (opened_drew c.args.pick refl c.push_pick.ensures refl c.requires.node c.requires.child (opened_at c.requires.waits r))
