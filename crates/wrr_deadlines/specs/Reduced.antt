-- What the weights have in common, and how long the schedule is before it repeats.
use Rattle.std.specs.Prelude.{ℕ, zero, suc, ◌/◌, ◌%◌, ◌==◌, if◌then◌else◌, Bool, List, sum}
use Rattle.std.specs.List.{list_all}
use Rattle.wrr_deadlines.specs.Schedule.{weight_of}

-- d divides each weight
abbrev pub divides_each : ℕ → List ℕ → Bool
divides_each d ws = list_all (λ w. (w % d) == 0) ws

-- the greatest number up to n that divides each weight
unfoldable pub greatest_divisor : List ℕ → ℕ → ℕ
greatest_divisor ws zero = 0
greatest_divisor ws (suc n) = if divides_each (suc n) ws then suc n else greatest_divisor ws n

-- the greatest common divisor of the weights, and 0 where none is positive
unfoldable pub common_divisor : List ℕ → ℕ
common_divisor ws = greatest_divisor ws (sum ws)

-- how often a child is popped in a period: its weight, reduced
abbrev pub share_of : List ℕ → ℕ → ℕ
share_of ws i = weight_of ws i / common_divisor ws

-- the pops of a period: the sum of the reduced weights, and 0 where none is positive
unfoldable pub period_len : List ℕ → ℕ
period_len ws = sum ws / common_divisor ws
