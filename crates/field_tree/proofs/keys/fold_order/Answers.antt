use Rattle.std.proofs.Common.{◌≡◌, min, length, ◌∙◌, arith}
use Rattle.field_tree.proofs.Folds.{ended}
use Rattle.field_tree.proofs.keys.fold_order.Goals as goal

pub returns : goal.returns
returns c =
    let last : c.loop-i.i ≡ min (length c.args.a.now) (length c.args.b.now) = omega (arith, c.min-shared.ensures, c.loop-i-test.false, c.loop-i.auto.i-end) in
    c.cmp.ensures ∙ ended c.args.a.now c.args.b.now c.loop-i.i last c.loop-i.invariant
