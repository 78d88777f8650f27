use Rattle.std.proofs.Common.{subst}
use Rattle.conn_machine.specs.declared.event.BackShape.{BackShape}
use Rattle.system_core.specs.Answers.{MayHappen}
use Rattle.system_core.proofs.system.System.happen.Goals as goal

pub tell-requires : goal.tell-requires
tell-requires c =
    (c.in_ok-place.ensures.0, c.in_ok-place.ensures.1, subst (λ (s : BackShape). MayHappen c.args.link s c.in_ok-place.ensures.0) c.shape.ensures c.in_ok-place.ensures.2)

pub returns-clause-answers : goal.returns-clause-answers
returns-clause-answers c =
    (c.in_ok-place.place, c.in_ok-place.ensures.0, c.in_ok-place.ensures.1, subst (λ (s : BackShape). MayHappen c.args.link s c.in_ok-place.ensures.0) c.shape.ensures c.in_ok-place.ensures.2)
