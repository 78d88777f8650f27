-- The services and the chains of routers.
use Rattle.std.specs.Prelude.{◌≡◌, ◌≤◌, ℕ, Bool, true, false, List, [], Option, Some, None, is_some, slice_get, ⊤}
use Rattle.dyn_config.specs.declared.middleware.MiddlewareDef.{MiddlewareDef}
use Rattle.middleware_chain.specs.Built.{AreChains}
use Rattle.middleware_chain.specs.Chained.{IsChainOf, defs_of}
use Rattle.middleware_chain.specs.Counts.{are_all_usable, flat_length}
use Rattle.middleware_chain.specs.Flattened.{IsFlattened}
use Rattle.middleware_chain.specs.Names.{MiddlewareEntry}
use Rattle.middleware_chain.specs.Stages.{are_built}
use Rattle.middleware_chain.specs.declared.chain.Chain.{Chain}
use Rattle.middleware_chain.specs.declared.chains.Chains.{Chains}
use Rattle.router_table.specs.Winner.{is_enabled}
use Rattle.router_table.specs.declared.row.Row.{Row}
use Rattle.router_table.specs.declared.row.RouterState.{RouterState}
use Rattle.router_table.specs.declared.row.RouterState.TheVariants.{Enabled, Disabled}
use Rattle.service_nodes.specs.Nodes.{node_number}
use Rattle.service_nodes.specs.declared.node.Node.{Node}

-- the service of a router in this state is a node, where the router is enabled
abbrev pub has_node_by : List Node → RouterState → Bool
has_node_by nodes (Enabled service names search) = is_some (node_number nodes service)
has_node_by nodes (Disabled fault) = true

abbrev pub has_node : List Node → Row → Bool
has_node nodes row = has_node_by nodes row.state

abbrev pub link_in : Option (Option Chain) → Option Chain
link_in None = None
link_in (Some link) = link

-- the chain of the row with this number, where it has one
abbrev pub link_at : List (Option Chain) → ℕ → Option Chain
link_at links number = link_in (slice_get links number)

-- there is a chain, and it is one of these middlewares
abbrev pub is_linked : Chains → Option Chain → Bool
is_linked chains None = false
is_linked chains (Some chain) = are_built chains.parts chain.places

-- each enabled router has its chain
abbrev pub AreLinked : Chains → List Row → List (Option Chain) → Type 0
AreLinked chains rows links =
    (number : ℕ) (row : Row) → slice_get rows number ≡ Some row → is_enabled row ≡ true → is_linked chains (link_at links number) ≡ true

-- the middlewares of a chain as they were declared; none where there is no chain
abbrev pub stages_in : Chains → Option Chain → List MiddlewareDef
stages_in chains None = []
stages_in chains (Some chain) = defs_of chains chain

-- the middlewares that a router in this state names can be used, and are at most 64, where the router is enabled
abbrev pub HasUsableBy : Chains → RouterState → Type 0
HasUsableBy chains (Enabled service names search) = (are_all_usable chains.middlewares names ≡ true) × (flat_length chains.middlewares names ≤ 64)
HasUsableBy chains (Disabled fault) = ⊤

abbrev pub HasUsable : Chains → Row → Type 0
HasUsable chains row = HasUsableBy chains row.state

-- the chain is one of these middlewares, and it is what the names stand for in each configuration of which they were built
pub record IsNamed (chains : Chains) (names : List (List ℕ)) (chain : Chain) : Type 0 where
  pub built : IsChainOf chains chain
  pub flattened : (all : List MiddlewareEntry) (spare : ℕ) → AreChains all spare chains → IsFlattened all names (defs_of chains chain)

-- the chain of a router in this state, none where it is disabled
abbrev pub IsLinkBy : Chains → RouterState → Option Chain → Type 0
IsLinkBy chains (Enabled service names search) None = ⊥
IsLinkBy chains (Enabled service names search) (Some chain) = IsNamed chains names chain
IsLinkBy chains (Disabled fault) link = link ≡ None

abbrev pub IsLink : Chains → Row → Option Chain → Type 0
IsLink chains row link = IsLinkBy chains row.state link
