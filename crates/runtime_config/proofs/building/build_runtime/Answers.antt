use Rattle.std.proofs.Common.{ℕ, ◌+◌, ◌-◌, ◌^◌, ◌≤◌, min, All, List, map, refl, sym, subst, arith}
use Rattle.router_table.specs.Settings.{setting_of}
use Rattle.router_table.specs.declared.row.Row.{Row}
use Rattle.runtime_config.specs.Linked.{HasUsable}
use Rattle.runtime_config.specs.Usable.{name_of, usable_of}
use Rattle.runtime_config.proofs.Judged.{rows_led, rows_usable, chains_apart}
use Rattle.runtime_config.proofs.Linkage.{all_linked, all_staged, zip_along}
use Rattle.runtime_config.proofs.building.build_runtime.Goals as goal

pub links_of-requires : goal.links_of-requires
links_of-requires g c =
    let P : List Row → Type 0 = λ rows. All (HasUsable c.in_ok-chains.chains) rows in
    let s = setting_of c.args.merged (map name_of c.in_ok-graph.graph.nodes) (usable_of c.in_ok-chains.chains.middlewares) in
    subst P (sym c.rows.ensures)
    (rows_usable s (256 - c.in_ok-chains.chains.built) c.args.merged.routers c.in_ok-table.table.rows c.in_ok-chains.chains refl
    (chains_apart c.args.merged.middlewares 256 c.in_ok-chains.chains c.args.merged.qualified.1.1 c.in_ok-chains.ensures.chains) c.in_ok-table.ensures.rows)

pub invariant_of-result : goal.invariant_of-result
invariant_of-result g c =
    let s = setting_of c.args.merged (map name_of c.in_ok-graph.graph.nodes) (usable_of c.in_ok-chains.chains.middlewares) in
    record {
      led = rows_led s (256 - c.in_ok-chains.chains.built) c.args.merged.routers c.in_ok-table.table.rows c.in_ok-graph.graph.nodes refl c.in_ok-table.ensures.rows;
      linked = all_linked c.in_ok-chains.chains c.in_ok-table.table.rows c.in_ok-links.links
          (zip_along c.in_ok-chains.chains c.rows.result.now c.in_ok-table.table.rows c.in_ok-links.links c.rows.ensures c.in_ok-links.ensures);
    }

pub returns-clause-built : goal.returns-clause-built
returns-clause-built g c = record {
  merged_is = refl;
  graph = c.in_ok-graph.ensures;
  chains = c.in_ok-chains.ensures.chains;
  rows = c.in_ok-table.ensures.rows;
  stages = all_staged c.args.merged.middlewares 256 c.in_ok-chains.chains c.in_ok-table.table.rows c.in_ok-links.links c.in_ok-chains.ensures.chains
      (zip_along c.in_ok-chains.chains c.rows.result.now c.in_ok-table.table.rows c.in_ok-links.links c.rows.ensures c.in_ok-links.ensures);
}

counted_both : (old mid new a b : ℕ) → min (old + a) (2 ^ 64 - 1) ≤ mid → min (mid + b) (2 ^ 64 - 1) ≤ new → min (old + (a + b)) (2 ^ 64 - 1) ≤ new
counted_both old mid new a b first second = omega (arith, first, second)

pub returns-clause-counted : goal.returns-clause-counted
returns-clause-counted g c = counted_both _ _ _ _ _ c.in_ok-chains.ensures.refused c.in_ok-table.ensures.refused
