-- The schedule as a function: whose pop the n-th one is.
use Rattle.std.specs.Prelude.{ℕ, zero, suc, ◌-◌, ◌*◌, nat_lt, if◌then◌else◌, List, [], ◌∷◌, ◌++◌, length}
use Rattle.wrr_deadlines.specs.Schedule.{weight_of, job_of}

-- the child of the two whose job is due sooner, and i where both are due at once
unfoldable pub sooner : List ℕ → (ℕ → ℕ) → ℕ → ℕ → ℕ
sooner ws job i j = if nat_lt (job j * weight_of ws i) (job i * weight_of ws j) then j else i

-- the child whose job is due first, of the first n children
unfoldable pub earliest : List ℕ → (ℕ → ℕ) → ℕ → ℕ
earliest ws job zero = 0
earliest ws job (suc n) = sooner ws job (earliest ws job n) n

-- the child that is popped after these pops
unfoldable pub next_child : List ℕ → List ℕ → ℕ
next_child ws pops = earliest ws (job_of pops) (length ws)

-- the first n pops
unfoldable pub first_pops : List ℕ → ℕ → List ℕ
first_pops ws zero = []
first_pops ws (suc n) = first_pops ws n ++ next_child ws (first_pops ws n) ∷ []

-- the child of the n-th pop, from 1
unfoldable pub popped_child : List ℕ → ℕ → ℕ
popped_child ws n = next_child ws (first_pops ws (n - 1))
