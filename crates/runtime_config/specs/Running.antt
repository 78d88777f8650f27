-- What a row of a configuration as it runs does, in the words of the configuration.
use Rattle.std.specs.Prelude.{◌≡◌, ℕ, Some, slice_get}
use Rattle.dyn_config.specs.declared.merged.Merged.{Merged}
use Rattle.middleware_chain.specs.Flattened.{IsFlattened}
use Rattle.router_table.specs.Settings.{RouterEntry, chain_of, service_of}
use Rattle.router_table.specs.declared.row.Row.{Row}
use Rattle.service_nodes.specs.declared.node.Node.{Node}
use Rattle.runtime_config.specs.Runtime.{LeadsTo, stages_of}
use Rattle.runtime_config.specs.declared.config.RuntimeConfig.{RuntimeConfig}

-- the row with this number is that of a router of the configuration: it has the middlewares that the router names, and leads to the
-- node of the service that the router names
pub record RowRuns (m : Merged) (r : RuntimeConfig) (number : ℕ) (row : Row) : Type 0 where
  pub router : RouterEntry
  pub declared : slice_get m.routers number ≡ Some router
  pub named : row.name ≡ router.name
  pub stages : IsFlattened m.middlewares (chain_of router) (stages_of r number)
  pub at : ℕ
  pub node : Node
  pub leads : LeadsTo r number at node
  pub of_service : node.name ≡ service_of router
