-- Where the winner's request goes.
use Rattle.std.proofs.Common.{◌≡◌, ℕ, List, Option, Some, None, IfSome, true, refl}
use Rattle.ip_net.specs.declared.ip.Ip.{Ip}
use Rattle.http_wire.specs.declared.message.Request.{Request}
use Rattle.rule_eval.specs.Truth.{Asked}
use Rattle.middleware_chain.specs.Folds.{Through}
use Rattle.middleware_chain.specs.declared.flow.Flow.{Flow}
use Rattle.router_table.specs.Winner.{IsWinner, ServesAs, WinnerIs, is_enabled_state}
use Rattle.router_table.specs.declared.row.Row.{Row}
use Rattle.router_table.specs.declared.row.RouterState.{RouterState}
use Rattle.router_table.specs.declared.row.RouterState.TheVariants.{Enabled, Disabled}
use Rattle.runtime_config.specs.Runtime.{IsEnabledAt, IsRuntime, stages_of}
use Rattle.runtime_config.specs.declared.config.RuntimeConfig.{RuntimeConfig}
use Rattle.route_cmd.specs.Output.{Goes}

serving_is_enabled : (entry : List ℕ) (asked : Asked) (peer : Ip) (state : RouterState) → ServesAs entry asked peer state → is_enabled_state state ≡ true
serving_is_enabled entry asked peer (Enabled service names search) serves = refl
serving_is_enabled entry asked peer (Disabled fault) serves = absurd serves

-- a winner is enabled
pub winner_enabled : (rows : List Row) (entry : List ℕ) (asked : Asked) (peer : Ip) (winner : Option ℕ) → WinnerIs rows entry asked peer winner → IfSome winner (IsEnabledAt rows)
winner_enabled rows entry asked peer None won = tt
winner_enabled rows entry asked peer (Some number) won = (won.row, won.at, serving_is_enabled entry asked peer won.row.state won.serves)

-- what the middlewares of its row make of a request is what the router's make of it
pub goes : (r : RuntimeConfig) (entry : List ℕ) (asked : Asked) (q : Request) (peer : Ip) (number : ℕ) (flow : Flow) → IsRuntime r.merged r
    → (won : IsWinner r.table.rows entry asked peer number) → Through (stages_of r number) q peer flow → Goes r.merged r.table.rows entry asked q peer won.row flow
goes r entry asked q peer number flow is won made =
    record { number = number; won = won; at = won.at; stages = stages_of r number; are_stages = is.stages number won.row won.at; made = made }
