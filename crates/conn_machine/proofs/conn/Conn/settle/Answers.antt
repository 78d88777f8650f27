use Rattle.std.proofs.Common.{rules, ◌≡◌, ◌<◌, length}
use Rattle.conn_machine.proofs.Prompts.{prompt_left}
use Rattle.conn_machine.specs.declared.parts.Stage.TheVariants.{Reply}
use Rattle.conn_machine.proofs.conn.Conn.settle.Goals as goal

pub returns-clause-reached : goal.returns-clause-reached
returns-clause-reached c = λ steps r. c.find_head.ensures.reached steps (c.finish.ensures.reached steps r)

pub returns-then-self-len-clause-prompt : goal.returns-then-self-len-clause-prompt
returns-then-self-len-clause-prompt c = λ h.
    let is : c.args.self.now.stage ≡ Reply = search rules in
    let left : c.args.self.now.sent < length c.args.self.now.out.items = search rules in
    prompt_left is left
