-- Which router a request gets.
use Rattle.std.specs.Prelude.{◌≡◌, ℕ, ◌<ℤ◌, ◌⊎◌, Bool, true, false, ◌||◌, List, length, Contains, nat_eq, slice_get, Option, Some, None}
use Rattle.std.specs.Ordering.{nat_cmp}
use Rattle.std.specs.Cmp.Lexicographic.{slice_cmp}
use Rattle.std.specs.declared.cmp.Ordering.TheVariants.{Less}
use Rattle.ip_net.specs.declared.ip.Ip.{Ip}
use Rattle.rule_eval.specs.Calls.{is_plain}
use Rattle.rule_eval.specs.Rules.{compiled_rule}
use Rattle.rule_eval.specs.Truth.{Asked, Truth}
use Rattle.router_table.specs.Settings.{is_listed}
use Rattle.router_table.specs.declared.row.Search.{Search}
use Rattle.router_table.specs.declared.row.RouterState.{RouterState}
use Rattle.router_table.specs.declared.row.RouterState.TheVariants.{Enabled, Disabled}
use Rattle.router_table.specs.declared.row.Row.{Row}

-- the entry point is one of these; of none means that it is
abbrev pub is_on : List (List ℕ) → List ℕ → Bool
is_on entry_points entry = nat_eq (length entry_points) 0 || is_listed entry_points entry

-- the entry point is one of the router's, and its rule is true of the request
abbrev pub Takes : List ℕ → Asked → Ip → Search → Type 0
Takes entry asked peer search = (is_on search.entry_points entry ≡ true) × Truth (compiled_rule search.rule) asked peer

abbrev pub ServesAs : List ℕ → Asked → Ip → RouterState → Type 0
ServesAs entry asked peer (Enabled service chain search) = Takes entry asked peer search
ServesAs entry asked peer (Disabled fault) = ⊥

-- the router is enabled and takes the request
abbrev pub Serves : List ℕ → Asked → Ip → Row → Type 0
Serves entry asked peer row = ServesAs entry asked peer row.state

-- q has a greater priority than p, or an equal one and a smaller name
abbrev pub Beats : Row → Row → Type 0
Beats q p = (p.priority <ℤ q.priority) ⊎ ((q.priority ≡ p.priority) × (slice_cmp nat_cmp q.name p.name ≡ Less))

-- no router serves the request
abbrev pub NoWinner : List Row → List ℕ → Asked → Ip → Type 0
NoWinner rows entry asked peer = (q : Row) → Contains rows q → ¬ (Serves entry asked peer q)

-- the router of this row serves the request, and no other that serves it beats it
pub record IsWinner (rows : List Row) (entry : List ℕ) (asked : Asked) (peer : Ip) (number : ℕ) : Type 0 where
  pub row : Row
  pub at : slice_get rows number ≡ Some row
  pub serves : Serves entry asked peer row
  pub best : (q : Row) → Contains rows q → Serves entry asked peer q → ¬ (Beats q row)

-- the number of the winner's row, if there is a winner
abbrev pub WinnerIs : List Row → List ℕ → Asked → Ip → Option ℕ → Type 0
WinnerIs rows entry asked peer None = NoWinner rows entry asked peer
WinnerIs rows entry asked peer (Some number) = IsWinner rows entry asked peer number

abbrev pub is_enabled_state : RouterState → Bool
is_enabled_state (Enabled service chain search) = true
is_enabled_state (Disabled fault) = false

abbrev pub is_enabled : Row → Bool
is_enabled row = is_enabled_state row.state

-- its rule asks no pattern and not the query
abbrev pub is_plain_search : Search → Bool
is_plain_search search = is_plain (compiled_rule search.rule)

abbrev pub is_plain_state : RouterState → Bool
is_plain_state (Enabled service chain search) = is_plain_search search
is_plain_state (Disabled fault) = true

-- the router's rule, where it is enabled, asks no pattern and not the query
abbrev pub is_plain_row : Row → Bool
is_plain_row row = is_plain_state row.state
