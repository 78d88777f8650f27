use Rattle.std.proofs.Common.{◌∙◌, w64}
use Rattle.std.proofs.lemmas.Int.{to_z-of_z}
use Rattle.dyn_config.proofs.Fields.{buffering_made}
use Rattle.dyn_config.proofs.kinds.read_buffering.Goals as goal

pub returns : goal.returns
returns c =
    buffering_made c.args.style c.args.tree.now _ c.has_others-unsupported.result (to_z-of_z w64 c.number_under-max_body.result (record { sfits = c.number_under-max_body.type_inv }) ∙ c.number_under-max_body.ensures) c.has_others-unsupported.ensures
