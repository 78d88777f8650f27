-- What is true of every configuration.
use Rattle.std.specs.Prelude.{ℕ, ◌≤◌, ◌==◌, Bool, true, ◌&&◌, IsTrue, List, length, Option, Some, None}
use Rattle.std.specs.List.{list_all}
use Rattle.field_tree.specs.Table.{KeysRise}
use Rattle.dyn_config.specs.Names.{is_name}
use Rattle.dyn_config.specs.Values.{is_weight, is_percent, is_time, is_size, is_cookie_text, is_cookie_name, is_same_site, is_probe_path, are_field_lines}
use Rattle.dyn_config.specs.declared.router.RouterDef.{RouterDef}
use Rattle.dyn_config.specs.declared.service.Cookie.{Cookie}
use Rattle.dyn_config.specs.declared.service.Health.{Health}
use Rattle.dyn_config.specs.declared.service.ServerDef.{ServerDef}
use Rattle.dyn_config.specs.declared.service.BalancerDef.{BalancerDef}
use Rattle.dyn_config.specs.declared.service.WeightedDef.{WeightedDef}
use Rattle.dyn_config.specs.declared.service.MirroringDef.{MirroringDef}
use Rattle.dyn_config.specs.declared.service.ServiceDef.{ServiceDef}
use Rattle.dyn_config.specs.declared.service.ServiceDef.TheVariants.{Balancer, Weighted, Mirroring, Failover, Unsupported}
use Rattle.dyn_config.specs.declared.middleware.MiddlewareDef.{MiddlewareDef}
use Rattle.dyn_config.specs.declared.middleware.MiddlewareDef.TheVariants.{Headers}

-- The value passes, where there is one.
abbrev pub if_some : {A : Type 0} → (A → Bool) → Option A → Bool
if_some test None = true
if_some test (Some value) = test value

abbrev pub is_cookie : Cookie → Bool
is_cookie c = is_cookie_name c.name && is_same_site c.same_site && is_cookie_text c.path && is_cookie_text c.domain

abbrev pub is_health : Health → Bool
is_health h = is_probe_path h.path && are_field_lines h.headers && is_time h.interval && is_time h.timeout

abbrev pub is_server : ServerDef → Bool
is_server s = is_weight s.weight

abbrev pub is_balancer : BalancerDef → Bool
is_balancer b = list_all is_server b.servers && if_some is_cookie b.sticky && if_some is_health b.health

-- As many weights as names.
abbrev pub is_weighted : WeightedDef → Bool
is_weighted w = length w.names == length w.weights && list_all is_weight w.weights && if_some is_cookie w.sticky

-- As many percents as mirrors.
abbrev pub is_mirroring : MirroringDef → Bool
is_mirroring m = length m.mirrors == length m.percents && list_all is_percent m.percents && is_size m.max_body

abbrev pub is_service : ServiceDef → Bool
is_service (Balancer b) = is_balancer b
is_service (Weighted w) = is_weighted w
is_service (Mirroring m) = is_mirroring m
is_service (Failover f) = true
is_service Unsupported = true

abbrev pub is_middleware : MiddlewareDef → Bool
is_middleware (Headers request response unsupported) = are_field_lines request && are_field_lines response
is_middleware _ = true

-- Definitions under declared names.
abbrev pub Routers : Type 0
Routers = List (List ℕ × RouterDef)

abbrev pub Services : Type 0
Services = List (List ℕ × ServiceDef)

abbrev pub Middlewares : Type 0
Middlewares = List (List ℕ × MiddlewareDef)

-- The limits of a provider.
pub record AreFew (routers : Routers) (services : Services) (middlewares : Middlewares) : Type 0 where
  pub few_routers : length routers ≤ 2000
  pub few_services : length services ≤ 500
  pub few_middlewares : length middlewares ≤ 500

-- Each name may be declared.
abbrev pub are_names : {D : Type 0} → List (List ℕ × D) → Bool
are_names defs = list_all (λ entry. is_name entry.0) defs

-- Each name may be declared, and is below those after it.
abbrev pub IsNamed : {D : Type 0} → List (List ℕ × D) → Type 0
IsNamed defs = KeysRise defs × IsTrue (are_names defs)

abbrev pub AreNamed : Routers → Services → Middlewares → Type 0
AreNamed routers services middlewares = IsNamed routers × (IsNamed services × IsNamed middlewares)

-- Each value of a service or middleware is in its range. The values of routers have none.
abbrev pub AreInRange : Services → Middlewares → Type 0
AreInRange services middlewares =
    IsTrue (list_all (λ entry. is_service entry.1) services) × IsTrue (list_all (λ entry. is_middleware entry.1) middlewares)
