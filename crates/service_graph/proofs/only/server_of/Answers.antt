use Rattle.std.proofs.Common.{subst, List, ℕ}
use Rattle.service_graph.specs.Urls.{IsUrlFault}
use Rattle.service_graph.proofs.Services.{no_url}
use Rattle.service_graph.proofs.only.server_of.Goals as goal

pub returns-in-Err : goal.returns-in-Err
returns-in-Err c = λ s is.
    let P : List ℕ → Type 0 = λ url. IsUrlFault url c.in-Err.field-0 in
    no_url c.args.def.now.url c.in-Err.field-0 s.host s.port (subst P c.as_slice.ensures c.in-Err.ensures) is.url
