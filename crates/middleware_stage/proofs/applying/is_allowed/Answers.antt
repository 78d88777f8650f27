use Rattle.std.proofs.Common.{◌∙◌, ℕ, List, sym, ap, length, get_or, arith}
use Rattle.std.proofs.lemmas.Bool.{false≢true}
use Rattle.rule_eval.specs.Truth.{IsPeerIn}
use Rattle.middleware_stage.specs.declared.range.Range.{Range}
use Rattle.middleware_stage.proofs.Ranges.{any_none}
use Rattle.middleware_stage.proofs.applying.is_allowed.Goals as goal

pub returns : goal.returns
returns c = (
  (λ t. absurd (false≢true t)),
  (λ a. absurd (any_none (λ (r : Range). r.text) (λ (t : List ℕ). IsPeerIn t c.args.peer) c.args.ranges.now
      (λ k x lt is p. c.loop-range.invariant k x (omega (arith, lt, ap (length {A = Range}) c.as_slice-range-items.ensures))
      (is ∙ ap (λ (xs : List Range). get_or xs k x) (sym c.as_slice-range-items.ensures)) p) a)),
)
