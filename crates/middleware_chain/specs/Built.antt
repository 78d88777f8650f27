-- What `build_chains` answers.
use Rattle.std.specs.Prelude.{◌≡◌, ℕ, ◌+◌, ◌-◌, ◌^◌, ◌≤◌, min, List, map, count_by}
use Rattle.middleware_graph.specs.Graph.{max_depth}
use Rattle.middleware_graph.specs.States.{AreStates}
use Rattle.middleware_graph.specs.Tables.{IsTable}
use Rattle.middleware_graph.specs.declared.state.State.{State}
use Rattle.middleware_chain.specs.Names.{MiddlewareEntry, name_of}
use Rattle.middleware_chain.specs.Parts.{AreParts, is_refused, node_of}
use Rattle.middleware_chain.specs.declared.chains.Chains.{Chains}
use Rattle.middleware_chain.specs.declared.part.Part.{Part}

abbrev pub listed_name : List ℕ × State → List ℕ
listed_name m = m.0

abbrev pub listed_state : List ℕ × State → State
listed_state m = m.1

-- the middlewares of a configuration, of which `spare` patterns may be built: each by itself, its state and what it stands for
pub record AreChains (all : List MiddlewareEntry) (spare : ℕ) (chains : Chains) : Type 0 where
  pub left : ℕ
  pub parts : AreParts all spare all chains.parts left
  pub built : chains.built ≡ spare - left
  pub names : map listed_name chains.middlewares ≡ map name_of all
  pub states : AreStates (map node_of chains.parts) (map listed_state chains.middlewares)
  pub flats : IsTable (map node_of chains.parts) max_depth chains.flats

-- the shop, which counted `old` refusals before and `new` after, refused a pattern for each middleware that is disabled for that
abbrev pub RefusesEach : ℕ → ℕ → List Part → Type 0
RefusesEach old new parts = min (old + count_by is_refused parts) (2 ^ 64 - 1) ≤ new

abbrev pub Refuses : ℕ → ℕ → Chains → Type 0
Refuses old new chains = RefusesEach old new chains.parts
