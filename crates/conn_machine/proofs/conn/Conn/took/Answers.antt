use Rattle.std.proofs.Common.{◌∙◌, ap}
use Rattle.conn_machine.specs.declared.parts.Current.{Current}
use Rattle.conn_machine.proofs.Prompts.{keeps_through}
use Rattle.conn_machine.proofs.conn.Conn.took.Goals as goal

pub returns-clause-client : goal.returns-clause-client
returns-clause-client c = c.settle.ensures.client ∙ c.advance.ensures.client

pub returns-clause-number : goal.returns-clause-number
returns-clause-number c = c.settle.ensures.number ∙ ap (λ (m : Current). m.number) c.advance.ensures.current

pub returns-clause-going : goal.returns-clause-going
returns-clause-going c = c.settle.ensures.going

pub returns-clause-prompt : goal.returns-clause-prompt
returns-clause-prompt c = λ prompt. c.settle.ensures.prompt (c.advance.ensures.prompt prompt)

pub returns-clause-server : goal.returns-clause-server
returns-clause-server c = keeps_through {c = c.args.self.now} {d = c.advance.new.self} {e = c.settle.new.self}
    c.requires.open c.advance.ensures.stage c.advance.ensures.current c.settle.ensures.server

pub returns-clause-reached : goal.returns-clause-reached
returns-clause-reached c = λ steps r. c.settle.ensures.reached _ (c.advance.ensures.reached steps r)
