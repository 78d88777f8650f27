use Rattle.std.proofs.Common.{◌<◌, ℕ}
use Rattle.path_norm.specs.Escapes.{IsBadEscape}
use Rattle.path_norm.proofs.escapes.first_bad_escape.Given as goal

abbrev pub invariant-loop-at : goal.invariant-loop-at
invariant-loop-at l = (k : ℕ) → k < l.at → ¬ (IsBadEscape l.path k)
