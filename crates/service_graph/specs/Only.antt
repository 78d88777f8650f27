-- The one server of a service.
use Rattle.std.specs.Prelude.{◌≡◌, ◌<◌, [], ◌∷◌, All, None}
use Rattle.dyn_config.specs.declared.merged.Entry.{Entry}
use Rattle.dyn_config.specs.declared.merged.Merged.{Merged}
use Rattle.dyn_config.specs.declared.router.RouterDef.{RouterDef}
use Rattle.px_base.specs.declared.server.Server.{Server}
use Rattle.dyn_config.specs.declared.service.ServerDef.{ServerDef}
use Rattle.dyn_config.specs.declared.service.BalancerDef.{BalancerDef}
use Rattle.dyn_config.specs.declared.service.ServiceDef.{ServiceDef}
use Rattle.dyn_config.specs.declared.service.ServiceDef.TheVariants.{Balancer, Weighted, Mirroring, Failover, Unsupported}
use Rattle.service_graph.specs.Urls.{IsServerUrl}

-- a server of positive weight, with this host and port
pub record IsServer (d : ServerDef) (s : Server) : Type 0 where
  pub positive : 0 < d.weight
  pub weight : s.weight ≡ d.weight
  pub url : IsServerUrl d.url s.host s.port

-- the balancer has this server alone, no stickiness and no health check
pub record IsOnlyOf (b : BalancerDef) (s : Server) : Type 0 where
  pub not_sticky : b.sticky ≡ None
  pub not_probed : b.health ≡ None
  pub def : ServerDef
  pub alone : b.servers ≡ def ∷ []
  pub is_server : IsServer def s

-- the service is a balancer of this server alone
abbrev pub IsOnlyServer : ServiceDef → Server → Type 0
IsOnlyServer (Balancer b) s = IsOnlyOf b s
IsOnlyServer (Weighted w) s = ⊥
IsOnlyServer (Mirroring m) s = ⊥
IsOnlyServer (Failover f) s = ⊥
IsOnlyServer Unsupported s = ⊥

-- the router names no middleware
abbrev pub NamesNone : Entry RouterDef → Type 0
NamesNone router = router.def.middlewares ≡ []

-- the service has its one server
abbrev pub HasOnly : Entry ServiceDef → Type 0
HasOnly service = (s : Server) × IsOnlyServer service.def s

-- no middleware is declared or named, and each service is a balancer of one server
pub record IsFirstForm (m : Merged) : Type 0 where
  pub undeclared : m.middlewares ≡ []
  pub unnamed : All NamesNone m.routers
  pub only : All HasOnly m.services
