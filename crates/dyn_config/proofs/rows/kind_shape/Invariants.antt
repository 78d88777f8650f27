use Rattle.std.proofs.Common.{◌≡◌, drop, map}
use Rattle.field_tree.specs.declared.tree.Tree.{Tree}
use Rattle.field_tree.specs.declared.values.Style.{Style}
use Rattle.dyn_config.specs.Walk.{named_check}
use Rattle.dyn_config.specs.Shapes.{kinds_of, row_view}
use Rattle.dyn_config.proofs.rows.kind_shape.Given as goal

abbrev pub invariant-loop-at : goal.invariant-loop-at
invariant-loop-at l = (style : Style) (tree : Tree) → named_check (kinds_of l.fn.family) l.key style tree ≡ named_check (map row_view (drop l.at l.rows)) l.key style tree
