-- A chain of middlewares that can be used.
use Rattle.std.specs.Prelude.{◌≡◌, ℕ, true, List, length, Some, slice_get}
use Rattle.dyn_config.specs.declared.middleware.MiddlewareDef.{MiddlewareDef}
use Rattle.middleware_graph.specs.Tables.{told}
use Rattle.middleware_chain.specs.Built.{listed_name}
use Rattle.middleware_chain.specs.Counts.{count_named}
use Rattle.middleware_chain.specs.Names.{place_from}
use Rattle.middleware_chain.specs.Stages.{are_built, defs_at}
use Rattle.middleware_chain.specs.declared.chain.Chain.{Chain}
use Rattle.middleware_chain.specs.declared.chains.Chains.{Chains}

-- the chain is one of these middlewares
abbrev pub IsChainOf : Chains → Chain → Type 0
IsChainOf chains chain = are_built chains.parts chain.places ≡ true

-- its middlewares in order, as they were declared
abbrev pub defs_of : Chains → Chain → List MiddlewareDef
defs_of chains chain = defs_at chains.parts chain.places

-- the middleware with this name, which can be used, stands for the middlewares at these places
pub record IsFlatNamed (chains : Chains) (name places : List ℕ) : Type 0 where
  pub place : ℕ
  pub named : place_from listed_name 0 chains.middlewares name ≡ Some place
  pub flat : told (slice_get chains.flats place) ≡ Some places
  pub count : count_named chains.middlewares name ≡ Some (length places)
  pub there : are_built chains.parts places ≡ true
