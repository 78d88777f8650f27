-- Middlewares by their names.
use Rattle.std.specs.Prelude.{ℕ, ◌+◌, List, [], ◌∷◌, Option, Some, None, bytes_eq, if◌then◌else◌}
use Rattle.dyn_config.specs.Names.{referred}
use Rattle.dyn_config.specs.declared.merged.Entry.{Entry}
use Rattle.dyn_config.specs.declared.middleware.MiddlewareDef.{MiddlewareDef}

-- a declared middleware with its qualified name and its provider
abbrev pub MiddlewareEntry : Type 0
MiddlewareEntry = Entry MiddlewareDef

-- the place of the first of these with this name, where the first of all has the place n
abbrev pub place_from : {X : Type 0} → (X → List ℕ) → ℕ → List X → List ℕ → Option ℕ
place_from name_of n [] name = None
place_from name_of n (x ∷ xs) name = if bytes_eq (name_of x) name then Some n else place_from name_of (n + 1) xs name

abbrev pub name_of : MiddlewareEntry → List ℕ
name_of e = e.name

-- where a reference of this provider's chain leads: to the middleware of the name that it stands for, or nowhere
abbrev pub place_of : List MiddlewareEntry → ℕ → List ℕ → Option ℕ
place_of all provider text = place_from name_of 0 all (referred provider text)
