-- What a published configuration means to a connection.
use Rattle.std.specs.Prelude.{ℕ, Bool, List, Option}
use Rattle.ip_net.specs.declared.ip.Ip.{Ip}
use Rattle.rule_eval.specs.Truth.{Asked}
use Rattle.router_table.specs.Winner.{WinnerIs}
use Rattle.router_table.specs.declared.row.Row.{Row}

-- where a router's requests go: a server of one balancer
pub record Target : Type 0 where
  pub node : ℕ
  pub host : List ℕ
  pub port : ℕ
  pub pass_host : Bool

-- its number, its routers, each in its row, and the target of each row
pub record Plan : Type 0 where
  pub number : ℕ
  pub rows : List Row
  pub target : ℕ → Target

-- the row of the router that wins a request that came at this entry point from this address, or none
abbrev pub IsWinner : Plan → List ℕ → Asked → Ip → Option ℕ → Type 0
IsWinner p entry asked peer won = WinnerIs p.rows entry asked peer won
