use Rattle.std.proofs.Common.{ℕ, ◌<◌}
use Rattle.health_state.specs.Health.{IsDue}
use Rattle.health_state.proofs.verdicts.Verdicts.due.Given as goal

abbrev pub invariant-loop-i : goal.invariant-loop-i
invariant-loop-i l = (k : ℕ) → k < l.i → ¬ IsDue l.self l.now k
