use Rattle.std.proofs.Common.{◌≡◌, ℕ, List, ◌<◌, get_or}
use Rattle.rule_eval.specs.Faults.{IsNetwork}
use Rattle.middleware_stage.proofs.building.has_bad_range.Given as goal

-- each range that was read is a network
abbrev pub invariant-loop-range : goal.invariant-loop-range
invariant-loop-range l = (k : ℕ) (x : List ℕ) → k < l.range-index → x ≡ get_or l.range-items k x → ¬ (¬ (IsNetwork x))
