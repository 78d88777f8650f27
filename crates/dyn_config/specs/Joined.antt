-- What is true of all providers' configurations together.
use Rattle.std.specs.Prelude.{ℕ, ◌-◌, Bool, ◌&&◌, nat_le, IsTrue, List, map, take, length, bytes_eq}
use Rattle.std.specs.Ordering.{nat_cmp}
use Rattle.std.specs.List.{list_all}
use Rattle.std.specs.List.Sorted.{IsStrictlySortedBy}
use Rattle.std.specs.Cmp.Lexicographic.{slice_cmp}
use Rattle.dyn_config.specs.Names.{is_name, suffix_of, qualified}
use Rattle.dyn_config.specs.Kept.{is_service, is_middleware}
use Rattle.dyn_config.specs.declared.merged.Entry.{Entry}
use Rattle.dyn_config.specs.declared.router.RouterDef.{RouterDef}
use Rattle.dyn_config.specs.declared.service.ServiceDef.{ServiceDef}
use Rattle.dyn_config.specs.declared.middleware.MiddlewareDef.{MiddlewareDef}

-- The declared name in a qualified one.
abbrev pub declared_name : ℕ → List ℕ → List ℕ
declared_name provider name = take (length name - length (suffix_of provider)) name

-- A name that may be declared, with the suffix of its provider.
abbrev pub is_qualified : {D : Type 0} → Entry D → Bool
is_qualified e = nat_le e.provider 1 && is_name (declared_name e.provider e.name) &&
    bytes_eq e.name (qualified e.provider (declared_name e.provider e.name))

-- Each name is qualified, and below those after it.
abbrev pub IsQualified : {D : Type 0} → List (Entry D) → Type 0
IsQualified entries =
    IsStrictlySortedBy (slice_cmp nat_cmp) (map (λ e. e.name) entries) × IsTrue (list_all is_qualified entries)

abbrev pub AreQualified : List (Entry RouterDef) → List (Entry ServiceDef) → List (Entry MiddlewareDef) → Type 0
AreQualified routers services middlewares = IsQualified routers × (IsQualified services × IsQualified middlewares)

-- Each value of a service or middleware is in its range.
abbrev pub AreJoinedInRange : List (Entry ServiceDef) → List (Entry MiddlewareDef) → Type 0
AreJoinedInRange services middlewares =
    IsTrue (list_all (λ e. is_service e.def) services) × IsTrue (list_all (λ e. is_middleware e.def) middlewares)
