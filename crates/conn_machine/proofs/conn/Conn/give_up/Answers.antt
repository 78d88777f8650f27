use Rattle.std.proofs.Common.{ap}
use Rattle.conn_machine.specs.Reached.{ending_note}
use Rattle.conn_machine.proofs.Starts.{reached_given_up}
use Rattle.conn_machine.proofs.conn.Conn.give_up.Goals as goal

pub returns-in-Open-clause-reached : goal.returns-in-Open-clause-reached
returns-in-Open-clause-reached c = λ steps r. reached_given_up (ap (ending_note c.args.self.now.client.link) c.in-Open.is) r

pub returns-in-Broken-clause-reached : goal.returns-in-Broken-clause-reached
returns-in-Broken-clause-reached c = λ steps r. reached_given_up (ap (ending_note c.args.self.now.client.link) c.in-Broken.is) r
