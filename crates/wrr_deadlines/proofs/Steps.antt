-- What one step of a schedule knows of the child that it pops.
use Rattle.std.proofs.Common.{◌≡◌, ℕ, ◌+◌, ◌<◌, ◌≤◌, List, length, slice_index, ◌∙◌, ap, arith}
use Rattle.wrr_deadlines.specs.Schedule.{IsWeighted}
use Rattle.wrr_deadlines.specs.Turn.{earliest, popped_child}
use Rattle.wrr_deadlines.specs.Counted.{IsCounted}
use Rattle.wrr_deadlines.specs.Progress.{Progress}
use Rattle.wrr_deadlines.proofs.Picks.{popped_child-within}
use Rattle.wrr_deadlines.proofs.States.{due_first-popped, counts-small}
use Rattle.wrr_deadlines.proofs.Divisors.{period_len-positive}

-- the facts of the next pop
pub record IsNextPop (ws counts : List ℕ) (period taken child : ℕ) : Type 0 where
  pub popped : child ≡ popped_child ws (taken + 1)
  pub within : child < length ws
  pub counted : child < length counts
  pub few : child < 64
  pub small : slice_index counts child ≤ 65536
  pub positive : 0 < period

pub IsNextPop-due : (ws counts at_ws at_counts : List ℕ) (period taken child : ℕ) → at_ws ≡ ws → at_counts ≡ counts → child ≡ earliest at_ws (λ i. slice_index at_counts i + 1) (length at_ws) → IsWeighted ws → IsCounted ws counts period taken → IsNextPop ws counts period taken child
IsNextPop-due ws counts at_ws at_counts period taken child e f due some state =
    let next : child ≡ popped_child ws (taken + 1) = (rw (e, f) at due) ∙ due_first-popped ws counts period taken some state in
    let below = popped_child-within ws (taken + 1) some in
    record {
      popped = next;
      within = omega arith;
      counted = omega (arith, state.same);
      few = omega (arith, state.small.few);
      small = counts-small ws counts period taken some state child;
      positive = omega (arith, period_len-positive ws some, state.small.exact);
    }

-- what is known of the view is known of the fields
pub weighted_inside : (v w : Progress) → v ≡ w → IsWeighted w.weights → IsWeighted v.weights
weighted_inside v w e some = rw e some

pub taken_inside : (v w : Progress) → v ≡ w → v.taken ≡ w.taken
taken_inside v w e = ap (λ (p : Progress). p.taken) e

pub weights_inside : (v w : Progress) → v ≡ w → v.weights ≡ w.weights
weights_inside v w e = ap (λ (p : Progress). p.weights) e
