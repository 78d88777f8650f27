use Rattle.std.proofs.Common.{◌≡◌, ◌+◌, ◌*◌, drop, map, None}
use Rattle.std.specs.List.{fold, flat_map}
use Rattle.field_tree.specs.Keys.{walk_cmp}
use Rattle.field_tree.specs.declared.values.Style.TheVariants.{Typed}
use Rattle.dyn_config.specs.Walk.{sooner, row_stops, name_stop, kind_stop, number_stop, number_cmp, first_place, least_key}
use Rattle.dyn_config.specs.Shapes.{rows_of, kinds_of, declared_check, meaning, row_view, depth, table_depth}
use Rattle.dyn_config.proofs.walk.+check.Given as goal

abbrev pub decreases-check : goal.decreases-check
decreases-check l = depth l.shape * 5 + 4

abbrev pub decreases-check_entries : goal.decreases-check_entries
decreases-check_entries l = depth l.shape * 5 + 3

abbrev pub decreases-check_fields : goal.decreases-check_fields
decreases-check_fields l = depth l.shape * 5 + 2

abbrev pub decreases-check_rows : goal.decreases-check_rows
decreases-check_rows l = table_depth l.table * 5 + 1

abbrev pub decreases-check_row : goal.decreases-check_row
decreases-check_row l = depth l.shape * 5 + 5

abbrev pub decreases-check_names : goal.decreases-check_names
decreases-check_names l = 7 * 5 + 1

abbrev pub decreases-check_kinds : goal.decreases-check_kinds
decreases-check_kinds l = 5 * 5 + 1

abbrev pub decreases-check_list : goal.decreases-check_list
decreases-check_list l = depth l.element * 5 + 7

abbrev pub decreases-check_values : goal.decreases-check_values
decreases-check_values l = depth l.element * 5 + 5

abbrev pub decreases-check_numbered : goal.decreases-check_numbered
decreases-check_numbered l = depth l.element * 5 + 6

abbrev pub decreases-check_numbers : goal.decreases-check_numbers
decreases-check_numbers l = depth l.element * 5 + 5

abbrev pub invariant-check_rows-loop-at : goal.invariant-check_rows-loop-at
invariant-check_rows-loop-at l = fold (sooner walk_cmp) None (flat_map (row_stops l.style l.fields) (rows_of l.fn.table)) ≡ fold (sooner walk_cmp) l.first (flat_map (row_stops l.style l.fields) (map row_view (drop l.at l.rows)))

abbrev pub invariant-check_names-loop-at : goal.invariant-check_names-loop-at
invariant-check_names-loop-at l = fold (sooner walk_cmp) None (map (name_stop (declared_check l.declared) l.style) l.fields) ≡ fold (sooner walk_cmp) l.first (map (name_stop (declared_check l.declared) l.style) (drop l.at l.fields))

abbrev pub invariant-check_kinds-loop-at : goal.invariant-check_kinds-loop-at
invariant-check_kinds-loop-at l = fold (sooner walk_cmp) None (map (kind_stop (kinds_of l.family) l.style (least_key l.fields)) l.fields) ≡ fold (sooner walk_cmp) l.first (map (kind_stop (kinds_of l.family) l.style (least_key l.fields)) (drop l.at l.fields))

abbrev pub invariant-check_values-loop-place : goal.invariant-check_values-loop-place
invariant-check_values-loop-place l = first_place (meaning l.element) Typed 0 l.values ≡ first_place (meaning l.element) Typed l.place (drop l.place l.values)

abbrev pub invariant-check_numbers-loop-at : goal.invariant-check_numbers-loop-at
invariant-check_numbers-loop-at l = fold (sooner number_cmp) None (map (number_stop (meaning l.element) l.fields) l.fields) ≡ fold (sooner number_cmp) l.first (map (number_stop (meaning l.element) l.fields) (drop l.at l.fields))
