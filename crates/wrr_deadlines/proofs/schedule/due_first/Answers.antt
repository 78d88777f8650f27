-- One more child is looked at.
use Rattle.std.proofs.Common.{arith}
use Rattle.wrr_deadlines.proofs.States.{earliest-takes, earliest-keeps, earliest-zero}
use Rattle.wrr_deadlines.proofs.schedule.due_first.Goals as goal
use Rattle.wrr_deadlines.proofs.schedule.due_first.Goals.{then-job-from, else-job-from}

pub loop-child-init : goal.loop-child-init
loop-child-init c = record { within = omega arith; found = earliest-zero _ _ }

pub loop-child-preserved : goal.loop-child-preserved
loop-child-preserved c =
    let found = c.loop-child.invariant.found in
    elim c.if-job-from.branch [
      | then-job-from w ↦ record {
        within = omega arith;
        found = rw w.first-is (earliest-takes c.args.weights.now c.args.counts.now _ _ _ _ _ _ c.from-job.ensures c.from-first_job.ensures c.from.ensures c.from-in-loop-child.ensures found w.if-job-from.true);
      }
      | else-job-from w ↦ record {
        within = omega arith;
        found = rw w.first-is (earliest-keeps c.args.weights.now c.args.counts.now _ _ _ _ _ _ c.from-job.ensures c.from-first_job.ensures c.from.ensures c.from-in-loop-child.ensures found w.if-job-from.false);
      }
    ]
