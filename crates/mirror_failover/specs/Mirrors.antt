-- Which turns a mirror gets. Turns count from 1, and a mirror's share is a percent of them.
use Rattle.std.specs.Prelude.{ℕ, zero, suc, ◌+◌, ◌-◌, ◌*◌, Bool, nat_lt, if◌then◌else◌, List, [], ◌∷◌, map}

-- The mirror gets turn `n`, after `count` of the turns before it, where it then lags behind its share.
abbrev pub lags : ℕ → ℕ → ℕ → Bool
lags percent count n = nat_lt (100 * count) (n * percent)

-- How many of the first `n` turns the mirror gets.
unfoldable pub mirror_count : ℕ → ℕ → ℕ
mirror_count percent zero = 0
mirror_count percent (suc n) =
    mirror_count percent n + (if lags percent (mirror_count percent n) (suc n) then 1 else 0)

-- The mirror gets turn `n`.
abbrev pub selects : ℕ → ℕ → Bool
selects percent n = lags percent (mirror_count percent (n - 1)) n

-- The number whose bits are these flags, the first one lowest.
abbrev pub flags_mask : List Bool → ℕ
flags_mask [] = 0
flags_mask (flag ∷ flags) = (if flag then 1 else 0) + 2 * flags_mask flags

-- The mirrors that get turn `n`, one bit a mirror, the first one lowest.
abbrev pub selection : List ℕ → ℕ → ℕ
selection percents n = flags_mask (map (λ percent. selects percent n) percents)

-- What the counters of a node's mirrors keep: each mirror's percent, and the turns so far.
pub record MirrorTurns : Type 0 where
  pub percents : List ℕ
  pub turns : ℕ
