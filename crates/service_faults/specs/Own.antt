-- Why a service is disabled for itself, whatever it refers to: the first of these reasons, in the order of the variants of
-- `ServiceFault`.
use Rattle.std.specs.Prelude.{◌≡◌, ℕ, ◌+◌, ◌<◌, ◌≤◌, ◌⊎◌, Bool, true, false, not, ◌&&◌, List, [], ◌∷◌, length, map, Option, Some, None, ⊤}
use Rattle.wrr_deadlines.specs.Reduced.{period_len}
use Rattle.dyn_config.specs.declared.service.Health.{Health}
use Rattle.dyn_config.specs.declared.service.ServerDef.{ServerDef}
use Rattle.dyn_config.specs.declared.service.BalancerDef.{BalancerDef}
use Rattle.dyn_config.specs.declared.service.WeightedDef.{WeightedDef}
use Rattle.dyn_config.specs.declared.service.MirroringDef.{MirroringDef}
use Rattle.dyn_config.specs.declared.service.ServiceDef.{ServiceDef}
use Rattle.dyn_config.specs.declared.service.ServiceDef.TheVariants as def
use Rattle.service_graph.specs.Urls.{IsServerUrl, IsUrlFault}
use Rattle.service_graph.specs.declared.url.UrlFault.{UrlFault}
use Rattle.service_graph.specs.declared.url.UrlFault.TheVariants as url
use Rattle.service_faults.specs.declared.fault.ServiceFault.{ServiceFault}
use Rattle.service_faults.specs.declared.fault.ServiceFault.TheVariants as fault

-- neither the balancer nor its health check asks for what is not supported
abbrev pub is_health_supported : Option Health → Bool
is_health_supported None = true
is_health_supported (Some health) = not health.unsupported

abbrev pub is_supported : BalancerDef → Bool
is_supported b = not b.unsupported && is_health_supported b.health

-- the server's URL can be used
abbrev pub HasUrl : ServerDef → Type 0
HasUrl s = (host : List ℕ) × (port : ℕ) × IsServerUrl s.url host port

-- the fault of the first server whose URL can't be used, if there is one
abbrev pub IsUrlState : List ServerDef → Option UrlFault → Type 0
IsUrlState [] None = ⊤
IsUrlState [] (Some f) = ⊥
IsUrlState (s ∷ ss) None = HasUrl s × IsUrlState ss None
IsUrlState (s ∷ ss) (Some f) = IsUrlFault s.url f ⊎ (HasUrl s × IsUrlState ss (Some f))

abbrev pub weight_of : ServerDef → ℕ
weight_of s = s.weight

-- the sum of the weights, divided by what they have in common, is at most 65,536
abbrev pub AreWeightsState : List ℕ → Option ServiceFault → Type 0
AreWeightsState weights None = period_len weights ≤ 65536
AreWeightsState weights (Some fault.WeightsTooLarge) = 65536 < period_len weights
AreWeightsState weights (Some _) = ⊥

-- a balancer that asks for nothing unsupported, and has at most 64 servers
abbrev pub IsFewServers : BalancerDef → Type 0
IsFewServers b = (is_supported b ≡ true) × (length b.servers ≤ 64)

-- no reason stands against the balancer for itself, or this is the first
abbrev pub IsBalancerState : BalancerDef → Option ServiceFault → Type 0
IsBalancerState b (Some fault.Unsupported) = is_supported b ≡ false
IsBalancerState b (Some fault.TooManyChildren) = (is_supported b ≡ true) × (64 < length b.servers)
IsBalancerState b (Some fault.Scheme) = IsFewServers b × IsUrlState b.servers (Some url.Scheme)
IsBalancerState b (Some fault.BadUrl) = IsFewServers b × IsUrlState b.servers (Some url.BadUrl)
IsBalancerState b state = IsFewServers b × IsUrlState b.servers None × AreWeightsState (map weight_of b.servers) state

abbrev pub IsWeightedState : WeightedDef → Option ServiceFault → Type 0
IsWeightedState w (Some fault.TooManyChildren) = 64 < length w.names
IsWeightedState w state = (length w.names ≤ 64) × AreWeightsState w.weights state

-- the main service and the mirrors are counted together
abbrev pub IsMirroringState : MirroringDef → Option ServiceFault → Type 0
IsMirroringState m (Some fault.Unsupported) = m.unsupported ≡ true
IsMirroringState m (Some fault.TooManyChildren) = (m.unsupported ≡ false) × (64 < length m.mirrors + 1)
IsMirroringState m None = (m.unsupported ≡ false) × (length m.mirrors + 1 ≤ 64)
IsMirroringState m (Some _) = ⊥

abbrev pub IsOwnState : ServiceDef → Option ServiceFault → Type 0
IsOwnState (def.Balancer b) state = IsBalancerState b state
IsOwnState (def.Weighted w) state = IsWeightedState w state
IsOwnState (def.Mirroring m) state = IsMirroringState m state
IsOwnState (def.Failover f) state = state ≡ None
IsOwnState def.Unsupported state = state ≡ Some fault.Unsupported
