use Rattle.std.proofs.Common.{map, ap, ◌∙◌, List, Bor}
use Rattle.field_tree.specs.declared.tree.Tree.{Tree}
use Rattle.dyn_config.proofs.Fields.{balancer_made}
use Rattle.dyn_config.proofs.readers.read_balancer.Goals as goal

pub returns : goal.returns
returns c =
    let seen = λ (elements : List (Bor Tree)). map (λ (element : Bor Tree). element.now) elements in
    balancer_made c.args.style c.args.tree.now (seen c.as_slice-found.result.now) c.in_ok-servers.servers c.in_ok-sticky.sticky c.in_ok-health.health c.flag_under-pass_host.result c.is_more_than_a_list-unsupported.result
    (ap seen c.as_slice-found.ensures.value ∙ c.in_ok-list.ensures) c.in_ok-servers.ensures c.in_ok-sticky.ensures c.in_ok-health.ensures c.flag_under-pass_host.ensures c.is_more_than_a_list-unsupported.ensures
