use Rattle.worker_loop.proofs.Servings.{attends_grew}
use Rattle.worker_loop.proofs.laws.attends_after_publications.Goals as goal

pub returns : goal.returns
returns c = attends_grew
