use Rattle.std.proofs.Common.{refl}
use Rattle.conn_machine.proofs.Opens.{opened, reached_failed}
use Rattle.conn_machine.proofs.conn.Conn.fail.Goals as goal

pub returns-clause-reached : goal.returns-clause-reached
returns-clause-reached c = λ steps r. reached_failed _ refl (opened c.requires r)
