-- Nothing is counted yet.
use Rattle.std.proofs.Common.{◌≡◌, length, replicate, rules, arith}
use Rattle.wrr_deadlines.proofs.States.{IsCounted-new}
use Rattle.wrr_deadlines.proofs.schedule.Edf.new.Goals as goal

pub invariant_of-result : goal.invariant_of-result
invariant_of-result c =
    let zeros : c.in_ok-counts.counts.items ≡ replicate (length c.args.weights.now) 0 = search rules in
    rw c.in_ok-own.ensures.items (IsCounted-new c.args.weights.now c.in_ok-counts.counts.items c.period_of.result c.requires.few (omega arith) c.period_of.ensures zeros)
