-- The weighted earliest-deadline schedule, by exact fractions: job k of a child of weight w is due
-- at k / w, and jobs are popped in the order in which they are due.
use Rattle.std.specs.Prelude.{◌≡◌, ◌≢◌, ℕ, ◌+◌, ◌*◌, ◌<◌, ◌==◌, ◌⊎◌, List, length, take, slice_index, count_by}

-- the weight of child i, and 0 where no child has that number
abbrev pub weight_of : List ℕ → ℕ → ℕ
weight_of ws i = slice_index ws i

-- a schedule has something to pop
pub record IsWeighted (ws : List ℕ) : Type 0 where
  pub heavy : ℕ
  pub weighs : 0 < weight_of ws heavy

-- how many of these pops are child i
unfoldable pub times_popped : List ℕ → ℕ → ℕ
times_popped pops i = count_by (λ c. c == i) pops

-- the number of child i's next job after these pops, from 1
abbrev pub job_of : List ℕ → ℕ → ℕ
job_of pops i = times_popped pops i + 1

-- After these pops child i's next job is due before child j's: its fraction, job over weight, is
-- the smaller one, or both are equal and i is the lower child.
abbrev pub IsDueBefore : List ℕ → List ℕ → ℕ → ℕ → Type 0
IsDueBefore ws pops i j =
    (job_of pops i * weight_of ws j < job_of pops j * weight_of ws i)
    ⊎ ((job_of pops i * weight_of ws j ≡ job_of pops j * weight_of ws i) × (i < j))

-- After these pops child i is next: it has a positive weight, and its job is due before that of
-- each other child of positive weight.
pub record IsNext (ws pops : List ℕ) (i : ℕ) : Type 0 where
  pub weighs : 0 < weight_of ws i
  pub first : (j : ℕ) → 0 < weight_of ws j → j ≢ i → IsDueBefore ws pops i j

-- each member of the list is next after the members before it
abbrev pub IsEarliestDeadline : List ℕ → List ℕ → Type 0
IsEarliestDeadline ws pops = (p : ℕ) → p < length pops → IsNext ws (take p pops) (slice_index pops p)

-- other weights in the same ratio: a times each weight is b times the other one
pub record HaveRatio (ws us : List ℕ) (a b : ℕ) : Type 0 where
  pub left : 0 < a
  pub right : 0 < b
  pub each : (i : ℕ) → a * weight_of ws i ≡ b * weight_of us i
