-- How the state of a schedule stands for the pops that it has taken.
use Rattle.std.specs.Prelude.{◌≡◌, ℕ, ◌%◌, ◌^◌, ◌<◌, ◌≤◌, List, length, slice_index}
use Rattle.wrr_deadlines.specs.Schedule.{times_popped}
use Rattle.wrr_deadlines.specs.Turn.{first_pops}
use Rattle.wrr_deadlines.specs.Reduced.{period_len}

-- at most 64 weights, with a period of at most 65,536 pops
pub record IsSmall (ws : List ℕ) (period : ℕ) : Type 0 where
  pub few : length ws ≤ 64
  pub short : period ≤ 65536
  pub exact : period ≡ period_len ws

-- each child's pops in the period that is under way are counted
pub record IsCounted (ws counts : List ℕ) (period taken : ℕ) : Type 0 where
  pub small : IsSmall ws period
  pub same : length counts ≡ length ws
  pub so_far : taken ≤ 2 ^ 62
  pub counted : (i : ℕ) → i < length ws → slice_index counts i ≡ times_popped (first_pops ws (taken % period)) i

-- the table holds the pops of the first period
pub record IsTabled (ws pops : List ℕ) : Type 0 where
  pub small : IsSmall ws (length pops)
  pub tabled : pops ≡ first_pops ws (length pops)
