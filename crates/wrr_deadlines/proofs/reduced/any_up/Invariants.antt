-- None of the children so far is up and has weight.
use Rattle.std.proofs.Common.{ℕ, ◌<◌}
use Rattle.std.specs.Prelude.{IsBitSet}
use Rattle.wrr_deadlines.specs.Schedule.{weight_of}
use Rattle.wrr_deadlines.proofs.reduced.any_up.Given as goal

abbrev pub invariant-loop-child : goal.invariant-loop-child
invariant-loop-child l = (i : ℕ) → i < l.child → 0 < weight_of l.weights i → ¬ (IsBitSet l.mask i)
