use Rattle.std.proofs.Common.{refl, ap, ◌∙◌, length}
use Rattle.system_core.specs.Issues.{plan_at}
use Rattle.system_core.proofs.Coming.{shows_waiting}
use Rattle.system_core.proofs.system.System.config.Goals as goal

pub returns-clause-ran : goal.returns-clause-ran
returns-clause-ran c = λ r shown. (_, (c.requires ∙ ap length shown.plans, refl), shows_waiting r c.args.self.now _ (plan_at c.args.issue) c.wait_with.ensures.plans c.wait_with.ensures.waiting c.wait_with.ensures.conns refl refl refl refl shown)
