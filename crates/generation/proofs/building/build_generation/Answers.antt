use Rattle.std.proofs.Common.{subst, sym, ap, ◌∙◌, map, All, List, []}
use Rattle.dyn_config.specs.declared.merged.Entry.{Entry}
use Rattle.dyn_config.specs.declared.service.ServiceDef.{ServiceDef}
use Rattle.router_table.specs.Settings.{setting_of}
use Rattle.service_graph.specs.Only.{HasOnly}
use Rattle.generation.specs.Nodes.{name_of}
use Rattle.generation.proofs.Led.{rows_led}
use Rattle.generation.proofs.building.build_generation.Goals as goal

pub read_nodes-requires : goal.read_nodes-requires
read_nodes-requires g c =
    let P : List (Entry ServiceDef) → Type 0 = λ es. All HasOnly es in
    subst P (sym c.as_slice.ensures) (c.in_ok-is_first_form.ensures.0 c.if-not-branch.false).only

pub invariant_of-result : goal.invariant_of-result
invariant_of-result g c =
    let same = c.as_slice-3.ensures.value ∙ c.in_ok-names.ensures ∙ ap (map name_of) c.as_slice-2.ensures in
    record {
      led = rows_led (setting_of c.args.merged.now c.as_slice-3.result.now []) 256 c.args.merged.now.routers c.in_ok-table.table.rows c.in_ok-nodes.nodes same
          c.in_ok-table.ensures.rows;
    }
