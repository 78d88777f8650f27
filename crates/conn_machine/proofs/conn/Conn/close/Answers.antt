use Rattle.conn_machine.proofs.Opens.{opened, opened_over, reached_open}
use Rattle.conn_machine.proofs.Knowns.{untaken_at}
use Rattle.conn_machine.proofs.conn.Conn.close.Goals as goal

pub returns-clause-reached : goal.returns-clause-reached
returns-clause-reached c = λ prompt steps r. reached_open _ c.requires (opened_over (opened c.requires r)
    (untaken_at c.args.self.now.stage (λ at. prompt.exchange (record { phase = c.requires; stage = at })) (λ at. prompt.reply (record { phase = c.requires; stage = at })) (opened c.requires r)))
