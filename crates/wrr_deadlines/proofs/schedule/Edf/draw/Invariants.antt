-- The pops so far are all of children that are not in the mask.
use Rattle.std.proofs.Common.{◌≡◌, ℕ, ◌+◌, ◌<◌, ◌≤◌}
use Rattle.std.specs.Prelude.{IsBitSet}
use Rattle.wrr_deadlines.specs.Turn.{popped_child}
use Rattle.wrr_deadlines.proofs.schedule.Edf.draw.Given as goal

abbrev pub invariant-loop-passed : goal.invariant-loop-passed
invariant-loop-passed l = record {
  weights : l.self.weights ≡ l.fn.self.weights;
  taken : l.self.taken ≡ l.from + l._passed;
  from : l.from ≡ l.fn.self.taken;
  passed : (n : ℕ) → l.from < n → n ≤ l.from + l._passed → ¬ (IsBitSet l.mask (popped_child l.fn.self.weights n));
}
