-- Where the routers of a configuration lead.
use Rattle.std.specs.Prelude.{◌≡◌, ℕ, Some, Contains, filter, slice_get}
use Rattle.px_base.specs.declared.server.Server.{Server}
use Rattle.dyn_config.specs.declared.merged.Entry.{Entry}
use Rattle.dyn_config.specs.declared.merged.Merged.{Merged}
use Rattle.dyn_config.specs.declared.service.ServiceDef.{ServiceDef}
use Rattle.conversation.specs.Plans.{Plan, Target as Aim}
use Rattle.router_table.specs.Settings.{RouterEntry, service_of}
use Rattle.router_table.specs.declared.row.Row.{Row}
use Rattle.service_graph.specs.Only.{IsOnlyServer}
use Rattle.generation.specs.Nodes.{is_usable, passes_host}

-- to the one server of the declared service that the router names, at that service's place among those that can be used
pub record LeadsToItsServer (m : Merged) (router : RouterEntry) (aim : Aim) : Type 0 where
  pub service : Entry ServiceDef
  pub named : service.name ≡ service_of router
  pub declared : Contains m.services service
  pub place : slice_get (filter is_usable m.services) aim.node ≡ Some service
  pub server : Server
  pub only : IsOnlyServer service.def server
  pub host : aim.host ≡ server.host
  pub port : aim.port ≡ server.port
  pub pass_host : aim.pass_host ≡ passes_host service.def

-- the row with this number is that of a router of the configuration, which leads to its server
pub record RowLeads (m : Merged) (plan : Plan) (number : ℕ) (row : Row) : Type 0 where
  pub router : RouterEntry
  pub declared : slice_get m.routers number ≡ Some router
  pub named : row.name ≡ router.name
  pub leads : LeadsToItsServer m router (plan.target number)
