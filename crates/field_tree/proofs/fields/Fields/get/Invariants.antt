use Rattle.std.proofs.Common.{◌≡◌, drop}
use Rattle.field_tree.specs.Table.{value_at}
use Rattle.field_tree.proofs.fields.Fields.get.Given as goal

abbrev pub invariant-loop-i : goal.invariant-loop-i
invariant-loop-i g l = value_at l.self l.key ≡ value_at (drop l.i l.self) l.key
