use Rattle.std.proofs.Common.{refl}
use Rattle.std.proofs.lemmas.Result.{IfOk-weaker}
use Rattle.service_graph.proofs.Services.{first_form_from}
use Rattle.service_graph.proofs.first_form.is_first_form.Goals as goal

pub returns : goal.returns
returns c =
    IfOk-weaker c.have_only.result _ _ (first_form_from c.args.merged.now c.as_slice.result.now c.as_slice-2.result.now c.as_slice.ensures c.as_slice-2.ensures
    (c.if-not-is_empty.ensures.0 refl) (c.if-not-name_none.ensures.0 refl)) c.have_only.ensures
