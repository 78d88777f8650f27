-- What single functions ask and answer.
use Rattle.std.specs.Prelude.{◌≡◌, ◌≢◌, ℕ, ◌⊎◌, List, [], ◌∷◌, length, codes}
use Rattle.body_codec.specs.declared.Framing.{Framing}
use Rattle.body_codec.specs.declared.Framing.TheVariants as framing
use Rattle.head_view.specs.Lines.{Line as Field}
use Rattle.http_wire.specs.Targets.{host_of_rules}
use Rattle.http_wire.specs.declared.message.Request.{Request}
use Rattle.px_base.specs.declared.server.Server.{Server}
use Rattle.rule_eval.specs.Pairs.{query_pairs}
use Rattle.rule_eval.specs.Truth.{Asked}
use Rattle.service_nodes.specs.declared.node.NodeKind.{NodeKind}
use Rattle.service_nodes.specs.declared.node.NodeKind.TheVariants as kind
use Rattle.route_cmd.specs.Requests.{query_bytes}

-- a request with this framing, these values of `Connection`, this version and this method isn't routed yet
abbrev pub IsLaterBy : Framing → List (List ℕ) → ℕ → List ℕ → Type 0
IsLaterBy body connections version method = (body ≢ framing.None) ⊎ (connections ≢ []) ⊎ (version ≡ 0) ⊎ (method ≡ codes "HEAD")

-- what rules are asked of a request with this method and these lines
abbrev pub asked_from : List ℕ → Request → List Field → Asked
asked_from method q lines = record {
  method = method;
  host = host_of_rules q.host;
  path = q.path;
  pairs = query_pairs (query_bytes q.query);
  lines = lines;
}

-- a balancer of one server
abbrev pub IsOfOne : NodeKind → Type 0
IsOfOne (kind.Balancer servers sticky pass_host health) = length servers ≡ 1
IsOfOne (kind.Weighted children weights sticky) = ⊥
IsOfOne (kind.Mirroring main mirrors percents max_body) = ⊥
IsOfOne (kind.Failover main fallback) = ⊥

-- a balancer of this server alone
abbrev pub IsOnly : NodeKind → Server → Type 0
IsOnly (kind.Balancer servers sticky pass_host health) s = servers ≡ s ∷ []
IsOnly (kind.Weighted children weights sticky) s = ⊥
IsOnly (kind.Mirroring main mirrors percents max_body) s = ⊥
IsOnly (kind.Failover main fallback) s = ⊥
