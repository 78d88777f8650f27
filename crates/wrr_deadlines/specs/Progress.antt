-- What a caller sees of a schedule under way.
use Rattle.std.specs.Prelude.{ℕ, List}
use Rattle.wrr_deadlines.specs.declared.choice.Drawn.{Drawn}
use Rattle.wrr_deadlines.specs.declared.choice.Drawn.TheVariants as drawn

-- the weights, and how many pops were taken
pub record Progress : Type 0 where
  pub weights : List ℕ
  pub taken : ℕ

-- a pick takes every pop up to its own, those that it passes over too; anything else takes none
abbrev pub after_draw : Progress → Drawn → Progress
after_draw old (drawn.Pick pick) = record old { taken = pick.to }
after_draw old drawn.NoneUp = old
after_draw old drawn.Spent = old
