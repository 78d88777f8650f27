use Rattle.dyn_config.proofs.Fields.{headers_made}
use Rattle.dyn_config.proofs.kinds.read_headers.Goals as goal

pub returns : goal.returns
returns c = headers_made c.args.tree.now c.in_ok-request.request c.in_ok-response.response c.has_others-unsupported.result c.in_ok-request.ensures c.in_ok-response.ensures c.has_others-unsupported.ensures
