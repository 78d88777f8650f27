-- What declared services refer to. A service is known by its place among the declared ones, which stand in the order of their names.
use Rattle.std.specs.Prelude.{ℕ, ◌+◌, ◌≤◌, Bool, List, [], ◌∷◌, map, Option, Some, None, bytes_eq, if◌then◌else◌}
use Rattle.dyn_config.specs.declared.merged.Entry.{Entry}
use Rattle.dyn_config.specs.declared.service.ServiceDef.{ServiceDef}
use Rattle.dyn_config.specs.declared.service.ServiceDef.TheVariants.{Balancer, Weighted, Mirroring, Failover, Unsupported}
use Rattle.dyn_config.specs.Names.{referred}
use Rattle.dyn_config.specs.Kept.{is_service}
use Rattle.reference_graph.specs.Links.{Links}

abbrev pub ServiceEntry : Type 0
ServiceEntry = Entry ServiceDef

-- the references of a service as they are written, in order
abbrev pub written : ServiceDef → List (List ℕ)
written (Balancer b) = []
written (Weighted w) = w.names
written (Mirroring m) = m.service ∷ m.mirrors
written (Failover f) = f.service ∷ f.fallback ∷ []
written Unsupported = []

-- the place of the first service with this name, where the first of these has the place n
abbrev pub place_from : ℕ → List ServiceEntry → List ℕ → Option ℕ
place_from n [] name = None
place_from n (e ∷ es) name = if bytes_eq e.name name then Some n else place_from (n + 1) es name

-- where a reference of this provider's service leads: to the service of the name that it stands for, or nowhere
abbrev pub place_of : List ServiceEntry → ℕ → List ℕ → Option ℕ
place_of services provider text = place_from 0 services (referred provider text)

-- where a service's references lead
abbrev pub places_of : List ServiceEntry → ServiceEntry → List (Option ℕ)
places_of services e = map (place_of services e.provider) (written e.def)

-- the same for each declared service
abbrev pub links_of : List ServiceEntry → Links
links_of services = map (places_of services) services

-- its provider is the file or Consul
abbrev pub HasProvider : ServiceEntry → Type 0
HasProvider e = e.provider ≤ 1

-- the values of its definition are in their ranges
abbrev pub is_entry : ServiceEntry → Bool
is_entry e = is_service e.def
