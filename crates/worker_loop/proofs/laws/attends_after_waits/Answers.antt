use Rattle.worker_loop.proofs.Servings.{runs_none, runs_attends}
use Rattle.worker_loop.proofs.Comings.{step_wait}
use Rattle.worker_loop.proofs.laws.attends_after_waits.Goals as goal

pub returns : goal.returns
returns c = λ now new until g conns did a. runs_attends (step_wait until did (runs_none now g conns a))
