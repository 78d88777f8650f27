-- By what routers are judged, beside their own options and rules: which services and middlewares are declared, and which
-- of them are usable.
use Rattle.std.specs.Prelude.{ℕ, Bool, List, [], ◌∷◌, map, sum_by, bytes_eq, if◌then◌else◌}
use Rattle.std.specs.List.{list_any}
use Rattle.dyn_config.specs.declared.merged.Entry.{Entry}
use Rattle.dyn_config.specs.declared.merged.Merged.{Merged}
use Rattle.dyn_config.specs.declared.router.RouterDef.{RouterDef}
use Rattle.dyn_config.specs.declared.service.ServiceDef.{ServiceDef}
use Rattle.dyn_config.specs.declared.middleware.MiddlewareDef.{MiddlewareDef}
use Rattle.dyn_config.specs.Names.{referred}

-- a usable middleware with its flattened length
abbrev pub Usable : Type 0
Usable = List ℕ × ℕ

-- what is declared, and what of it is usable
pub record Setting : Type 0 where
  pub services : List (Entry ServiceDef)
  pub middlewares : List (Entry MiddlewareDef)
  pub usable_services : List (List ℕ)
  pub usable_middlewares : List Usable

abbrev pub setting_of : Merged → List (List ℕ) → List Usable → Setting
setting_of m services middlewares =
    record { services = m.services; middlewares = m.middlewares; usable_services = services; usable_middlewares = middlewares }

-- an entry has this name
abbrev pub is_declared : {D : Type 0} → List (Entry D) → List ℕ → Bool
is_declared entries name = list_any (λ e. bytes_eq e.name name) entries

-- one of the names is this
abbrev pub is_listed : List (List ℕ) → List ℕ → Bool
is_listed names name = list_any (λ n. bytes_eq n name) names

-- a usable middleware has this name
abbrev pub is_usable : List Usable → List ℕ → Bool
is_usable usable name = list_any (λ u. bytes_eq u.0 name) usable

-- the flattened length of the first usable middleware with this name
abbrev pub length_of : List Usable → List ℕ → ℕ
length_of [] name = 0
length_of (u ∷ us) name = if bytes_eq u.0 name then u.1 else length_of us name

-- the flattened length of a chain of these names
abbrev pub chain_length : List Usable → List (List ℕ) → ℕ
chain_length usable names = sum_by (length_of usable) names

abbrev pub RouterEntry : Type 0
RouterEntry = Entry RouterDef

-- the qualified name of the router's service
abbrev pub service_of : RouterEntry → List ℕ
service_of e = referred e.provider e.def.service

-- the qualified names of its middlewares, in order
abbrev pub chain_of : RouterEntry → List (List ℕ)
chain_of e = map (referred e.provider) e.def.middlewares
