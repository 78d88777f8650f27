use Rattle.std.proofs.Common.{◌≡◌, drop, map}
use Rattle.std.specs.List.{fold}
use Rattle.field_tree.specs.Keys.{walk_cmp}
use Rattle.dyn_config.specs.Walk.{sooner, other_stop}
use Rattle.dyn_config.specs.Shapes.{rows_of}
use Rattle.dyn_config.proofs.tables.note_twins.Given as goal

abbrev pub invariant-loop-at : goal.invariant-loop-at
invariant-loop-at l = fold (sooner walk_cmp) l.initial.first (map (other_stop (rows_of l.table) l.fields) l.fields) ≡ fold (sooner walk_cmp) l.first (map (other_stop (rows_of l.table) l.fields) (drop l.at l.fields))
