use Rattle.serve_cmd.specs.Ran.{IsMoment}
use Rattle.serve_cmd.proofs.Ends.{ran_by, short_by}
use Rattle.serve_cmd.proofs.serving.serve_over.Goals as goal

pub returns-in-Ok-clause-ran : goal.returns-in-Ok-clause-ran
returns-in-Ok-clause-ran g c =
    ran_by (IsMoment g.W.World.seen g.W.World.lately) _ _ _ _ _ _ _ _ _ _ _ c.in-Ok.begun.published c.run_begun.result.published c.run_begun.result.end
    c.run_begun.ensures.published c.in-Ok.ensures.begun c.run_begun.ensures.served

pub returns-in-Ok-clause-short : goal.returns-in-Ok-clause-short
returns-in-Ok-clause-short g c =
    short_by _ _ _ _ _ _ _ _ c.in-Ok.begun.published c.run_begun.result.published c.run_begun.result.status c.run_begun.result.end
    c.run_begun.ensures.published c.in-Ok.ensures.begun
