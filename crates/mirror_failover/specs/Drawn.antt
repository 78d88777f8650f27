-- What a drawn turn says, and the order of a failover's two sides.
use Rattle.std.specs.Prelude.{ℕ, Bool, true, false, Option, Some, None}
use Rattle.mirror_failover.specs.declared.counts.DrawnMirror.{DrawnMirror}
use Rattle.mirror_failover.specs.declared.counts.DrawnMirror.TheVariants.{Turn, Spent}
use Rattle.mirror_failover.specs.declared.failover.Side.{Side}
use Rattle.mirror_failover.specs.declared.failover.Side.TheVariants.{Main, Fallback}

-- `P` of a turn's number and of the mirrors that get it.
abbrev pub IfTurn : DrawnMirror → (ℕ → ℕ → Type 0) → Type 0
IfTurn (Turn n selected) P = P n selected
IfTurn Spent P = Unit {0}

-- The side that a failover takes, by whether its main and its fallback are up.
abbrev pub first_up : Bool → Bool → Option Side
first_up true fallback = Some Main
first_up false true = Some Fallback
first_up false false = None
