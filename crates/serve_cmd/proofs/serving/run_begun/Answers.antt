use Rattle.serve_cmd.specs.Ran.{IsMoment}
use Rattle.serve_cmd.proofs.Ends.{served_same}
use Rattle.serve_cmd.proofs.serving.run_begun.Goals as goal

pub returns-then-published-eq0-clause-served : goal.returns-then-published-eq0-clause-served
returns-then-published-eq0-clause-served g c =
    served_same (IsMoment g.W.World.seen g.W.World.lately) c.new.result.desk c.args.begun.desk _ _ _ _ c.run_final.result.end c.new.ensures c.run_final.ensures.served

pub returns-clause-served : goal.returns-clause-served
returns-clause-served g c =
    served_same (IsMoment g.W.World.seen g.W.World.lately) c.new-else-published-eq0.result.desk c.args.begun.desk _ _ _ _ c.run_final-else-published-eq0.result.end
    c.new-else-published-eq0.ensures c.run_final-else-published-eq0.ensures.served
