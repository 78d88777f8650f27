-- A pop in the mask is the lawful pick, and a period has one.
use Rattle.std.proofs.Common.{refl, arith}
use Rattle.wrr_deadlines.proofs.Picks.{IsWeighted-from_up, PicksFrom-found, not_all_passed}
use Rattle.wrr_deadlines.proofs.table.Period.draw.Goals as goal

pub returns-then-is_up : goal.returns-then-is_up
returns-then-is_up c =
    PicksFrom-found c.args.self.now c.args.mask _ _ _ _ (IsWeighted-from_up c.args.self.now c.args.mask c.requires.up) refl (omega arith) (omega (arith, c.len.ensures.exact)) c.child_at-child.ensures.popped
    (c.is_up.ensures.0 c.if-is_up.true)
    c.loop-n.invariant

pub unreachable-requires : goal.unreachable-requires
unreachable-requires c =
    not_all_passed c.args.self.now c.args.mask c.args.from c.requires.up (λ n low high. c.loop-n.invariant n low (omega (arith, c.len.ensures.exact)))
