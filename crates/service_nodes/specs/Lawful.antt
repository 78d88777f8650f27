-- What holds of a node whatever configuration it comes from.
use Rattle.std.specs.Prelude.{ℕ, Bool, true, ◌&&◌, ◌==◌, nat_lt, nat_le, List, length, map}
use Rattle.std.specs.List.{list_all}
use Rattle.px_base.specs.declared.server.Server.{Server}
use Rattle.dyn_config.specs.Values.{is_percent}
use Rattle.wrr_deadlines.specs.Reduced.{period_len}
use Rattle.service_nodes.specs.declared.node.Node.{Node}
use Rattle.service_nodes.specs.declared.node.NodeKind.{NodeKind}
use Rattle.service_nodes.specs.declared.node.NodeKind.TheVariants as kind
use Rattle.service_nodes.specs.Nodes.{children_of}

abbrev pub weight_of : Server → ℕ
weight_of s = s.weight

-- at most 64 weights, whose sum is at most 65,536 once it is divided by what they have in common
abbrev pub are_weights : List ℕ → Bool
are_weights weights = nat_le (length weights) 64 && nat_le (period_len weights) 65536

-- servers, or children and as many weights, or mirrors and as many percents
abbrev pub is_lawful_kind : NodeKind → Bool
is_lawful_kind (kind.Balancer servers sticky pass_host health) = are_weights (map weight_of servers)
is_lawful_kind (kind.Weighted children weights sticky) = length weights == length children && are_weights weights
is_lawful_kind (kind.Mirroring main mirrors percents max_body) = length percents == length mirrors && list_all is_percent percents
is_lawful_kind (kind.Failover main fallback) = true

-- the node with number n leads to at most 64 nodes, which have lower numbers
abbrev pub is_lawful : ℕ → Node → Bool
is_lawful n node = list_all (λ child. nat_lt child n) (children_of node.kind) && nat_le (length (children_of node.kind)) 64 && is_lawful_kind node.kind
