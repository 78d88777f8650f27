-- Orders of keys.
use Rattle.std.specs.Prelude.{◌≡◌, ℕ, List}
use Rattle.std.specs.Ordering.{ordering_reverse}
use Rattle.std.specs.declared.cmp.Ordering.{Ordering}
use Rattle.std.specs.declared.cmp.Ordering.TheVariants.{Less, Equal}

-- Of two keys the one is before the other, or they are the same; and what is before a second is before what that
-- is before.
pub record IsLinear (cmp : List ℕ → List ℕ → Ordering) : Type 0 where
  pub either : (a b : List ℕ) → cmp a b ≡ ordering_reverse (cmp b a)
  pub same : (a b : List ℕ) → cmp a b ≡ Equal → a ≡ b
  pub chain : (a b c : List ℕ) → cmp a b ≡ Less → cmp b c ≡ Less → cmp a c ≡ Less
