-- What the laws of the schedule say.
use Rattle.std.specs.Prelude.{◌≡◌, ℕ, ◌-◌, ◌≤◌, List, length, slice_index}
use Rattle.wrr_deadlines.specs.Schedule.{IsEarliestDeadline}
use Rattle.wrr_deadlines.specs.Turn.{first_pops, popped_child}

-- the first n pops are the only earliest-deadline list of n members, and these are the popped children
pub record IsOnlyList (ws : List ℕ) (n : ℕ) : Type 0 where
  pub lawful : IsEarliestDeadline ws (first_pops ws n)
  pub long : length (first_pops ws n) ≡ n
  pub alone : (other : List ℕ) → IsEarliestDeadline ws other → length other ≡ n → other ≡ first_pops ws n
  pub members : (k : ℕ) → 1 ≤ k → k ≤ n → slice_index (first_pops ws n) (k - 1) ≡ popped_child ws k
