-- A pop in the mask is the lawful pick, and a period has one.
use Rattle.std.proofs.Common.{◌≡◌, ◌+◌, ◌∙◌, arith}
use Rattle.wrr_deadlines.specs.Turn.{popped_child}
use Rattle.wrr_deadlines.specs.Reduced.{period_len}
use Rattle.wrr_deadlines.proofs.Picks.{IsWeighted-from_up, PicksFrom-found, not_all_passed}
use Rattle.wrr_deadlines.proofs.Steps.{taken_inside, weights_inside}
use Rattle.wrr_deadlines.proofs.schedule.Edf.draw.Goals as goal

pub pop-child-requires-clause-weighted : goal.pop-child-requires-clause-weighted
pop-child-requires-clause-weighted c =
    rw c.loop-passed.invariant.weights (IsWeighted-from_up c.args.self.now.weights c.args.mask c.requires.up)

pub returns-then-is_up-clause-drawn : goal.returns-then-is_up-clause-drawn
returns-then-is_up-clause-drawn c =
    let ws = c.args.self.now.weights in
    let start : c.self.inside.taken ≡ c.args.self.now.taken = taken_inside _ _ c.self.view_is in
    let to : c.self-in-loop-passed.inside.taken ≡ c.loop-passed.self.taken + 1 = taken_inside _ _ (c.self-in-loop-passed.view_is ∙ c.pop-child.ensures.after) in
    let exact : c.self.inside.period ≡ period_len ws = rw (weights_inside _ _ c.self.view_is) at c.self.invariant.small.exact in
    let popped : c.pop-child.result ≡ popped_child ws c.self-in-loop-passed.inside.taken = rw (c.loop-passed.invariant.weights, ← to) at c.pop-child.ensures.popped in
    PicksFrom-found ws c.args.mask _ _ _ _ (IsWeighted-from_up ws c.args.mask c.requires.up) start (omega arith) (omega arith) popped
    (c.is_up.ensures.0 c.if-is_up.true)
    (λ n low high. c.loop-passed.invariant.passed n low (omega arith))

pub unreachable-requires : goal.unreachable-requires
unreachable-requires c =
    let ws = c.args.self.now.weights in
    let exact : c.self.inside.period ≡ period_len ws = rw (weights_inside _ _ c.self.view_is) at c.self.invariant.small.exact in
    not_all_passed ws c.args.mask c.self.inside.taken c.requires.up (λ n low high. c.loop-passed.invariant.passed n low (omega arith))
