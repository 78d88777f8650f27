use Rattle.std.proofs.Common.{◌≡◌, ◌∙◌, ◌<◌, ℕ, List, ap, not, length, get_or, refl, rules}
use Rattle.rule_eval.specs.Faults.{IsNetwork}
use Rattle.middleware_stage.proofs.Ranges.{any_here, none_read}
use Rattle.middleware_stage.proofs.building.has_bad_range.Goals as goal

pub returns-then-is_none : goal.returns-then-is_none
returns-then-is_none c =
    let is : c.range-item.result ≡ get_or c.args.ranges.now c.loop-range.range-index c.range-item.result = search rules in
    let lt : c.loop-range.range-index < length c.args.ranges.now = search rules in
    let reads = rw c.as_slice.ensures at c.read_net.ensures.reads in
    let none = none_read c.read_net.result _ _ (c.is_none.ensures ∙ ap not c.if-is_none.true) reads in (
      (λ t. any_here (λ (x : List ℕ). ¬ (IsNetwork x)) c.args.ranges.now c.loop-range.range-index c.range-item.result lt is (λ n. none n.0 n.1.0 n.1.1)),
      (λ a. refl),
    )
