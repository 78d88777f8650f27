-- The table grows by the next pop.
use Rattle.std.proofs.Common.{ℕ, ◌+◌, sym, ◌∙◌, ap, arith}
use Rattle.wrr_deadlines.specs.Progress.{Progress}
use Rattle.wrr_deadlines.proofs.Pops.{first_pops-zero}
use Rattle.wrr_deadlines.proofs.Divisors.{IsWeighted-from_period}
use Rattle.wrr_deadlines.proofs.States.{table_grows, IsTabled-whole}
use Rattle.wrr_deadlines.proofs.table.Period.new.Goals as goal

pub loop-place-init : goal.loop-place-init
loop-place-init c = record {
  weights = ap (λ (p : Progress). p.weights) c.in_ok-schedule.ensures;
  taken = ap (λ (p : Progress). p.taken) c.in_ok-schedule.ensures;
  pops = c.in_ok-pops.ensures.items ∙ sym (first_pops-zero c.args.weights.now);
}

pub pop-requires-clause-weighted : goal.pop-requires-clause-weighted
pop-requires-clause-weighted c =
    rw c.loop-place.invariant.weights (IsWeighted-from_period c.args.weights.now (omega (arith, c.period_of-period.ensures)))

pub loop-place-preserved : goal.loop-place-preserved
loop-place-preserved c =
    let popped = rw c.loop-place.invariant.weights at c.pop.ensures.popped in
    record {
      weights = ap (λ (p : Progress). p.weights) c.pop.ensures.after ∙ c.loop-place.invariant.weights;
      taken = ap (λ (p : Progress). p.taken) c.pop.ensures.after ∙ ap (λ (n : ℕ). n + 1) c.loop-place.invariant.taken;
      pops = table_grows _ _ _ _ _ _ c.loop-place.invariant.pops c.loop-place.invariant.taken popped c.in_ok-push.ensures.items;
    }

pub invariant_of-result : goal.invariant_of-result
invariant_of-result c =
    IsTabled-whole c.args.weights.now _ _ c.period_of-period.result _ c.in_ok-own.ensures.items c.requires.few c.requires.short c.period_of-period.ensures (omega arith) c.loop-place.invariant.pops
