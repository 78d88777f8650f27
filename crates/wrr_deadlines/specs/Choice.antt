-- The choice of a child that is up: the first later pop of one.
use Rattle.std.specs.Prelude.{◌≡◌, ℕ, ◌+◌, ◌^◌, ◌<◌, ◌≤◌, List, IsBitSet}
use Rattle.wrr_deadlines.specs.Schedule.{weight_of}
use Rattle.wrr_deadlines.specs.Turn.{popped_child}
use Rattle.wrr_deadlines.specs.Reduced.{period_len}
use Rattle.wrr_deadlines.specs.declared.choice.Pick.{Pick}
use Rattle.wrr_deadlines.specs.declared.choice.Drawn.{Drawn}
use Rattle.wrr_deadlines.specs.declared.choice.Drawn.TheVariants as drawn

-- the mask has a child of positive weight
pub record HasUp (ws : List ℕ) (mask : ℕ) : Type 0 where
  pub one : ℕ
  pub weighs : 0 < weight_of ws one
  pub up : IsBitSet mask one

-- The pick is of a later pop, of a child in the mask that has a positive weight, and passes over
-- nothing but pops of children that are not in the mask.
pub record LawfulPick (ws : List ℕ) (mask : ℕ) (pick : Pick) : Type 0 where
  pub onward : pick.from < pick.to
  pub popped : pick.child ≡ popped_child ws pick.to
  pub weighs : 0 < weight_of ws pick.child
  pub up : IsBitSet mask pick.child
  pub passed : (n : ℕ) → pick.from < n → n < pick.to → ¬ (IsBitSet mask (popped_child ws n))

-- the lawful pick after the first `start` pops
pub record PicksFrom (ws : List ℕ) (mask start : ℕ) (pick : Pick) : Type 0 where
  pub begins : pick.from ≡ start
  pub within : pick.to ≤ start + period_len ws
  pub lawful : LawfulPick ws mask pick

-- What is drawn after the first `start` pops: the lawful pick, unless no child is up, or else a
-- whole period more would end after 2 ^ 62 pops.
abbrev pub Draws : List ℕ → ℕ → ℕ → Drawn → Type 0
Draws ws mask start (drawn.Pick pick) = (start + period_len ws ≤ 2 ^ 62) × PicksFrom ws mask start pick
Draws ws mask start drawn.NoneUp = ¬ (HasUp ws mask)
Draws ws mask start drawn.Spent = HasUp ws mask × (2 ^ 62 < start + period_len ws)
