use Rattle.std.proofs.Common.{refl, true}
use Rattle.system_core.proofs.Coming.{shows_stopped}
use Rattle.system_core.proofs.system.System.stop.Goals as goal

pub returns-clause-ran : goal.returns-clause-ran
returns-clause-ran c = λ r shown. c.in_ok-stop_all.ensures.stopping (record r { stopped = true }) (shows_stopped r c.args.self.now _ refl refl refl refl refl shown)
