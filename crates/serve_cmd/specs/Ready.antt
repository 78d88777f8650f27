-- A desk that a worker may begin with.
use Rattle.std.specs.Prelude.{◌≡◌, ℕ, ◌≤◌, [], None}
use Rattle.desk.specs.Desks.{Desk}
use Rattle.desk.specs.Kept.{desk_of, newest_plan}
use Rattle.desk.specs.declared.one.OneDesk.{OneDesk}

-- nothing was done at it yet: nothing was pinned, no pin refused, and no number attended
pub record IsUnused (d : Desk) : Type 0 where
  pub pins : d.pins ≡ []
  pub refused : d.refused ≡ 0
  pub seats : (number : ℕ) → d.attended number ≡ None

-- nothing was done at it, and its last generation has this number, 0 or 1
pub record IsReady (d : OneDesk) (published : ℕ) : Type 0 where
  pub unused : IsUnused (desk_of d)
  pub number : (newest_plan d).number ≡ published
  pub few : published ≤ 1
