-- What contracts see of a shop in memory.
use Rattle.std.specs.Prelude.{ℕ, List}

-- the numbers of the builds that it refuses for size, and the builds and the refusals so far
pub record Stock : Type 0 where
  pub too_big : List ℕ
  pub builds : ℕ
  pub refusals : ℕ
