use Rattle.std.proofs.lemmas.Bool.{false≢true}
use Rattle.service_graph.proofs.url.is_ipv6.Goals as goal

pub returns-in-Err : goal.returns-in-Err
returns-in-Err c = (λ t. absurd (false≢true t), λ h. absurd (c.in-Err.ensures h.0 h.1))
