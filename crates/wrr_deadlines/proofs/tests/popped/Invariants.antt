-- The schedule keeps its weights.
use Rattle.std.proofs.Common.{◌≡◌}
use Rattle.wrr_deadlines.proofs.tests.popped.Given as goal

abbrev pub invariant-loop : goal.invariant-loop
invariant-loop l = l.schedule.weights ≡ l.weights
