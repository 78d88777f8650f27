-- The pops so far are all of children that are not in the mask.
use Rattle.std.proofs.Common.{ℕ, ◌<◌}
use Rattle.std.specs.Prelude.{IsBitSet}
use Rattle.wrr_deadlines.specs.Turn.{popped_child}
use Rattle.wrr_deadlines.proofs.table.Period.draw.Given as goal

abbrev pub invariant-loop-n : goal.invariant-loop-n
invariant-loop-n l = (m : ℕ) → l.from < m → m < l.n → ¬ (IsBitSet l.mask (popped_child l.self m))
