use Rattle.runtime_config.proofs.Rowed.{row_runs}
use Rattle.runtime_config.proofs.law.enabled_routers_run.Goals as goal

pub returns : goal.returns
returns c = row_runs
