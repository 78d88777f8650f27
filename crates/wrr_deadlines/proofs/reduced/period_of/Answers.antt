-- One more weight is added and divided, and at the end the divisor is the common one.
use Rattle.std.proofs.Common.{ℕ, arith, sym}
use Rattle.std.proofs.lemmas.List.Sums.{sum_by_more}
use Rattle.wrr_deadlines.proofs.Divisors.{DividesFirst-more, divisor_positive, period_len-is, period_len-zero, whole_sum, at_end}
use Rattle.wrr_deadlines.proofs.reduced.period_of.Goals as goal

pub loop-weight-preserved : goal.loop-weight-preserved
loop-weight-preserved c =
    let more = sum_by_more (λ (x : ℕ). x) c.args.weights.now c.loop-weight.weight-index 0 (omega arith) in
    record {
      total = omega (arith, c.loop-weight.invariant.total);
      small = omega (arith, c.loop-weight.invariant.small, c.type_inv.weights c.loop-weight.weight-index);
      common = DividesFirst-more _ _ _ _ c.loop-weight.invariant.common (rw c.from.ensures at c.greatest_common_divisor-divisor.ensures);
    }

pub nonzero_div-result : goal.nonzero_div-result
nonzero_div-result c =
    let whole = whole_sum c.args.weights.now c.loop-weight.weight-index c.loop-weight.sum (omega arith) c.loop-weight.invariant.total in
    divisor_positive c.args.weights.now c.loop-weight.divisor (at_end c.args.weights.now _ _ (omega arith) c.loop-weight.invariant.common) (omega arith)

pub returns-then-sum-eq0 : goal.returns-then-sum-eq0
returns-then-sum-eq0 c =
    let whole = whole_sum c.args.weights.now c.loop-weight.weight-index c.loop-weight.sum (omega arith) c.loop-weight.invariant.total in
    sym (period_len-zero c.args.weights.now (omega arith))

pub returns-else-sum-eq0 : goal.returns-else-sum-eq0
returns-else-sum-eq0 c =
    let whole = whole_sum c.args.weights.now c.loop-weight.weight-index c.loop-weight.sum (omega arith) c.loop-weight.invariant.total in
    rw whole (period_len-is c.args.weights.now c.loop-weight.divisor (at_end c.args.weights.now _ _ (omega arith) c.loop-weight.invariant.common) (omega arith))
