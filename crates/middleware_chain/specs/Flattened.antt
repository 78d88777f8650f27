-- What names of middlewares stand for.
use Rattle.std.specs.Prelude.{◌≡◌, ℕ, false, List, [], ◌∷◌, ◌++◌, map, Contains}
use Rattle.dyn_config.specs.Names.{referred}
use Rattle.dyn_config.specs.declared.middleware.MiddlewareDef.{MiddlewareDef}
use Rattle.dyn_config.specs.declared.middleware.MiddlewareDef.TheVariants.{Chain}
use Rattle.middleware_stage.specs.Faults.{is_chain}
use Rattle.middleware_chain.specs.Names.{MiddlewareEntry}

-- the middlewares that qualified names stand for, in order: a name for the one that is declared under it, and a chain for what
-- its members stand for, each referred to from the chain's own provider
pub data IsFlattened (all : List MiddlewareEntry) : List (List ℕ) → List MiddlewareDef → Type 0 where
  nothing : IsFlattened all [] []
  one : (e : MiddlewareEntry) (names : List (List ℕ)) (defs : List MiddlewareDef) → Contains all e → is_chain e.def ≡ false
      → IsFlattened all names defs → IsFlattened all (e.name ∷ names) (e.def ∷ defs)
  chain : (e : MiddlewareEntry) (members names : List (List ℕ)) (front back : List MiddlewareDef) → Contains all e → e.def ≡ Chain members
      → IsFlattened all (map (referred e.provider) members) front → IsFlattened all names back → IsFlattened all (e.name ∷ names) (front ++ back)
