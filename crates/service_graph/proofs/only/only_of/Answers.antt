use Rattle.std.proofs.Common.{refl}
use Rattle.std.proofs.lemmas.Result.{IfOk-weaker}
use Rattle.service_graph.proofs.Services.{only_from, one_alone}
use Rattle.service_graph.proofs.only.only_of.Goals as goal

pub returns-in-len1 : goal.returns-in-len1
returns-in-len1 c =
    let plain = c.if-not-is_plain.ensures.0 refl in
    IfOk-weaker c.server_of.result _ _ (only_from c.args.balancer.now c.server-item.result
    (one_alone c.args.balancer.now.servers c.as_slice.result.now c.server-item.result c.as_slice.ensures c.in-len1.len_at_least c.in-len1.len_below c.server-item.is) plain.0 plain.1) c.server_of.ensures
