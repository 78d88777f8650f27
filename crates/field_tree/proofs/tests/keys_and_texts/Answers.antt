use Rattle.std.proofs.Common.{refl}
use Rattle.std.specs.List.Sorted.{IsStrictlySortedBy}
use Rattle.field_tree.proofs.tests.keys_and_texts.Goals as goal

pub push-requires : goal.push-requires
unfolding IsStrictlySortedBy
push-requires g c = rw c.new-fields.ensures (tt, tt)

pub push-requires-2 : goal.push-requires-2
unfolding IsStrictlySortedBy
push-requires-2 g c =
    rw (c.in_ok-push.ensures.ok, c.new-fields.ensures, c.in_ok-from_slice.ensures, c.in_ok-from_slice-2.ensures) ((refl, tt), (tt, tt))

pub push-requires-3 : goal.push-requires-3
unfolding IsStrictlySortedBy
push-requires-3 g c =
    rw (c.in_ok-push-2.ensures.ok, c.in_ok-push.ensures.ok, c.new-fields.ensures, c.in_ok-from_slice.ensures, c.in_ok-from_slice-2.ensures, c.in_ok-from_slice-3.ensures)
    ((refl, (refl, tt)), ((refl, tt), (tt, tt)))
