-- Which services `route` follows so far.
use Rattle.std.specs.Prelude.{◌≡◌, ◌==◌, Bool, true, false, ◌&&◌, nat_lt, is_none, List, length}
use Rattle.std.specs.List.{list_all}
use Rattle.dyn_config.specs.declared.merged.Entry.{Entry}
use Rattle.dyn_config.specs.declared.merged.Merged.{Merged}
use Rattle.dyn_config.specs.declared.service.ServerDef.{ServerDef}
use Rattle.dyn_config.specs.declared.service.ServiceDef.{ServiceDef}
use Rattle.dyn_config.specs.declared.service.ServiceDef.TheVariants.{Balancer, Weighted, Mirroring, Failover, Unsupported}

abbrev pub has_weight : ServerDef → Bool
has_weight d = nat_lt 0 d.weight

-- exactly one server, of positive weight
abbrev pub is_one : List ServerDef → Bool
is_one servers = length servers == 1 && list_all has_weight servers

-- a balancer of one server, without stickiness and health check
abbrev pub has_one_server : ServiceDef → Bool
has_one_server (Balancer b) = is_none b.sticky && is_none b.health && is_one b.servers
has_one_server (Weighted w) = false
has_one_server (Mirroring m) = false
has_one_server (Failover f) = false
has_one_server Unsupported = false

abbrev pub is_of_one_server : Entry ServiceDef → Bool
is_of_one_server e = has_one_server e.def

-- each service is a balancer of one server
abbrev pub HaveOneServer : Merged → Type 0
HaveOneServer m = list_all is_of_one_server m.services ≡ true
