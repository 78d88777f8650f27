use Rattle.std.proofs.Common.{◌≡◌, drop}
use Rattle.field_tree.specs.Keys.{fold_cmp}
use Rattle.field_tree.proofs.keys.fold_order.Given as goal

abbrev pub invariant-loop-i : goal.invariant-loop-i
invariant-loop-i l = fold_cmp l.a l.b ≡ fold_cmp (drop l.i l.a) (drop l.i l.b)
