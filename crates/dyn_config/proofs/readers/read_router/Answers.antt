use Rattle.std.proofs.Common.{◌∙◌, w64}
use Rattle.std.proofs.lemmas.Int.{to_z-of_z}
use Rattle.dyn_config.proofs.Fields.{router_made}
use Rattle.dyn_config.proofs.readers.read_router.Goals as goal

pub returns : goal.returns
returns c =
    router_made c.args.style c.args.tree.now c.in_ok-entry_points.entry_points c.in_ok-middlewares.middlewares c.in_ok-rule.rule c.in_ok-service.service _ c.has_option-tls.result c.is_other-unsupported.result
    c.in_ok-entry_points.ensures c.in_ok-rule.ensures c.in_ok-service.ensures c.in_ok-middlewares.ensures (to_z-of_z w64 c.number_under-priority.result (record { sfits = c.number_under-priority.type_inv }) ∙ c.number_under-priority.ensures) c.has_option-tls.ensures c.is_other-unsupported.ensures
