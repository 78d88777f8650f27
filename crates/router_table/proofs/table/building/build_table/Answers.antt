use Rattle.std.proofs.Common.{ap, sym, ◌∙◌, subst, map, nat_cmp}
use Rattle.std.specs.List.Sorted.{IsStrictlySortedBy}
use Rattle.std.specs.Cmp.Lexicographic.{slice_cmp}
use Rattle.router_table.specs.Settings.{setting_of}
use Rattle.router_table.specs.declared.row.Row.{Row}
use Rattle.router_table.proofs.Listed.{rows_named}
use Rattle.router_table.proofs.table.building.build_table.Goals as goal

pub order_of-requires-clause-named : goal.order_of-requires-clause-named
order_of-requires-clause-named g c =
    let m = c.args.merged.now in
    let names = rows_named (setting_of m c.args.services.now c.args.middlewares.now) c.args.spare m.routers c.in_ok-rows.rows c.in_ok-rows.ensures.rows in
    subst (IsStrictlySortedBy (slice_cmp nat_cmp)) (sym (ap (map (λ (r : Row). r.name)) c.as_slice.ensures ∙ names)) m.qualified.0.0

pub invariant_of-result-clause-within : goal.invariant_of-result-clause-within
invariant_of-result-clause-within g c = rw (← c.as_slice.ensures, c.from_vec.ensures) c.in_ok-order.ensures.within

pub invariant_of-result-clause-all : goal.invariant_of-result-clause-all
invariant_of-result-clause-all g c = rw (← c.as_slice.ensures, c.from_vec.ensures) c.in_ok-order.ensures.all

pub invariant_of-result-clause-in_order : goal.invariant_of-result-clause-in_order
invariant_of-result-clause-in_order g c = rw (← c.as_slice.ensures, c.from_vec.ensures) c.in_ok-order.ensures.in_order
