use Rattle.std.proofs.Common.{rules, refl}
use Rattle.conn_machine.proofs.Opens.{opened, opened_gave, reached_open, reached_broken}
use Rattle.conn_machine.proofs.conn.Conn.feed.Goals as goal

pub returns-in_err-extend_from_slice-clause-reached : goal.returns-in_err-extend_from_slice-clause-reached
returns-in_err-extend_from_slice-clause-reached c = λ steps r. reached_broken _ refl (opened_gave c.args.piece.now refl (opened c.requires r))

pub returns-clause-reached : goal.returns-clause-reached
returns-clause-reached c = λ steps r. reached_open _ refl (opened_gave c.args.piece.now (search rules) (opened c.requires r))
