use Rattle.system_core.proofs.Ends.{lawful_by}
use Rattle.system_core.proofs.system.System.event.Goals as goal

pub returns-clause-lawful : goal.returns-clause-lawful
returns-clause-lawful c = lawful_by c.dispatch.result c.args.event c.args.self.now c.dispatch.new.self c.dispatch.ensures.ran
