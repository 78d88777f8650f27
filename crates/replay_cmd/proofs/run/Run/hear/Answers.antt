use Rattle.replay_cmd.proofs.Telling.{refuses_by}
use Rattle.replay_cmd.proofs.run.Run.hear.Goals as goal

pub returns-in-Err-clause-heard : goal.returns-in-Err-clause-heard
returns-in-Err-clause-heard c = refuses_by c.args.event c.args.self.now.system c.event.new.self c.in-Err.refused c.failure_of.result c.in-Err.ensures.answers c.failure_of.ensures
