use Rattle.std.proofs.Common.{◌≡◌, ℕ, ◌<◌, get_or}
use Rattle.rule_eval.specs.Truth.{IsPeerIn}
use Rattle.middleware_stage.specs.declared.range.Range.{Range}
use Rattle.middleware_stage.proofs.applying.is_allowed.Given as goal

-- no range that was asked has the peer
abbrev pub invariant-loop-range : goal.invariant-loop-range
invariant-loop-range l = (k : ℕ) (x : Range) → k < l.range-index → x ≡ get_or l.range-items k x → IsPeerIn x.text l.peer → ⊥
