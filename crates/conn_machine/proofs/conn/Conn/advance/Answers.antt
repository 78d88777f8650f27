use Rattle.conn_machine.proofs.Opens.{opened, opened_took, reached_open, drop_add}
use Rattle.conn_machine.proofs.conn.Conn.advance.Goals as goal

pub returns-clause-reached : goal.returns-clause-reached
returns-clause-reached c = λ steps r. reached_open _ c.requires.open (opened_took c.args.n (drop_add c.args.self.now.sent c.args.n c.args.self.now.out.items) (opened c.requires.open r))
