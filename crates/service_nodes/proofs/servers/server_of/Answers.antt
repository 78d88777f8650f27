use Rattle.std.proofs.Common.{List, ℕ, subst}
use Rattle.service_graph.specs.Urls.{IsUrlFault}
use Rattle.service_nodes.proofs.Making.{no_fault}
use Rattle.service_nodes.proofs.servers.server_of.Goals as goal

pub unreachable-requires : goal.unreachable-requires
unreachable-requires c =
    let P : List ℕ → Type 0 = λ url. IsUrlFault url c.in-Err.field-0 in
    no_fault c.args.def.now.url c.in-Err.field-0 (subst P c.as_slice.ensures c.in-Err.ensures) c.requires
