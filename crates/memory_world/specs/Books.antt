-- What was done in a world in memory, and the records of it that are kept.
use Rattle.std.specs.Prelude.{◌≡◌, ◌⊎◌, ℕ, List, [], ◌∷◌, map, Bool, true, false}
use Rattle.memory_world.specs.declared.mark.Mark.{Mark}
use Rattle.memory_world.specs.declared.record.Record.{Record}
use Rattle.memory_world.specs.declared.record.Record.TheVariants as kept
use Rattle.memory_world.specs.Marks.{has}

-- all that was done, what is meant of each link that came, and whether a record was left out
pub record BookView : Type 0 where
  pub log : List Record
  pub marks : List Mark
  pub lost : Bool

-- a history's items, of which the numbers say nothing
abbrev pub log_in : List (Record × ℕ) → List Record
log_in told = map (λ e. e.0) told

-- A record that may be left out where memory runs out. The answer of its call told as much, and so does a count.
abbrev pub is_spare : List Mark → Record → Bool
is_spare marks (kept.Waited until) = false
is_spare marks (kept.WaitFailed until) = true
is_spare marks (kept.Clock now) = false
is_spare marks (kept.Came link stamp entry peer) = false
is_spare marks (kept.Dialled link stamp host port) = false
is_spare marks (kept.Gave link stamp bytes) = false
is_spare marks (kept.GaveEnd link stamp) = false
is_spare marks (kept.Took link stamp bytes) = false
is_spare marks (kept.Failed link stamp) = has marks link
is_spare marks (kept.Noted note stamp) = false
is_spare marks (kept.Closed link stamp) = false
is_spare marks (kept.Asked answer) = true

-- the records are those of the log in its order, but that spare ones may be left out
abbrev pub AreRecords : List Mark → List Record → List Record → Type 0
AreRecords marks [] records = records ≡ []
AreRecords marks (r ∷ log) records =
    ((rest : List Record) × (records ≡ r ∷ rest) × AreRecords marks log rest) ⊎ ((is_spare marks r ≡ true) × AreRecords marks log records)
