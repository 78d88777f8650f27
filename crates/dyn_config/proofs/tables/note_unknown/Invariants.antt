use Rattle.std.proofs.Common.{◌≡◌, drop, map}
use Rattle.std.specs.List.{fold}
use Rattle.field_tree.specs.Keys.{walk_cmp}
use Rattle.dyn_config.specs.Walk.{sooner, unknown_stop}
use Rattle.dyn_config.specs.Shapes.{rows_of}
use Rattle.dyn_config.proofs.tables.note_unknown.Given as goal

abbrev pub invariant-loop-at : goal.invariant-loop-at
invariant-loop-at l = fold (sooner walk_cmp) l.initial.first (map (unknown_stop (rows_of l.table)) l.fields) ≡ fold (sooner walk_cmp) l.first (map (unknown_stop (rows_of l.table)) (drop l.at l.fields))
