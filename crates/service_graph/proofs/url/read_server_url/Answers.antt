use Rattle.std.proofs.Common.{codes, Some}
use Rattle.std.proofs.lemmas.Slice.Eq.{strip_prefix_is}
use Rattle.std.proofs.lemmas.Bool.Decides.{Decides-eqb}
use Rattle.service_graph.proofs.Hosts.{http_only}
use Rattle.service_graph.proofs.url.read_server_url.Goals as goal

pub returns-in-None-authority_of : goal.returns-in-None-authority_of
returns-in-None-authority_of c =
    let at = strip_prefix_is Decides-eqb c.args.url.now (codes "http://") (Some c.in-Some.rest) c.in-Some.ensures.cases in
    http_only c.args.url.now c.in-Some.rest.now c.before_slash.result.now at c.before_slash.ensures c.in-None-authority_of.ensures
