use Rattle.std.proofs.Common.{◌≡◌, drop, map, None}
use Rattle.std.specs.List.{fold}
use Rattle.field_tree.specs.Keys.{walk_cmp}
use Rattle.dyn_config.specs.Walk.{sooner, line_stop}
use Rattle.dyn_config.proofs.tables.check_lines.Given as goal

abbrev pub invariant-loop-at : goal.invariant-loop-at
invariant-loop-at l = fold (sooner walk_cmp) None (map (line_stop l.fields) l.fields) ≡ fold (sooner walk_cmp) l.first (map (line_stop l.fields) (drop l.at l.fields))
