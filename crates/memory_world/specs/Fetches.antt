use Rattle.std.specs.Prelude.{ℕ, ◌<◌, ◌≤◌}
use Rattle.memory_world.specs.declared.script.Fetched.{Fetched}
use Rattle.memory_world.specs.declared.script.Fetched.TheVariants.{Got, NotYet, End}

-- so many bytes fit, at least one
abbrev pub IsWithin : Fetched → ℕ → Type 0
IsWithin (Got n) most = (0 < n) × (n ≤ most)
IsWithin NotYet most = Unit {0}
IsWithin End most = Unit {0}
