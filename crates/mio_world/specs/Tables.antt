-- What the calls on the places of links need and leave.
use Rattle.std.specs.Prelude.{◌≡◌, ℕ, ◌≤◌, ◌<◌, ◌^◌, List, true, false, slice_index_or}
use Rattle.std.specs.List.{All}
use Rattle.link_world.specs.declared.world.LinkRead.{LinkRead}
use Rattle.link_world.specs.declared.world.LinkWrite.{LinkWrite}
use Rattle.mio_world.specs.declared.slot.Slot.{Slot}
use Rattle.mio_world.specs.Slots.{TableView, Meaning, meaning, slot_at, no_slot, new_meaning, never_come, after_read, after_write, faults_after, read_failed, write_failed, Put}

abbrev pub table_of : ℕ → List Slot → TableView
table_of waits slots = record { slots = slots; waits = waits }

-- nothing was asked after the last wait
abbrev pub AreWithin : ℕ → List Slot → Type 0
AreWithin waits slots = All (λ (s : Slot). s.asked.wait ≤ waits) slots

-- no link of this place was given yet, and the first will have no smaller a number
pub record IsFresh (at : ℕ) (s : Slot) : Type 0 where
  pub first : s.link ≤ at
  pub given : s.given ≡ false
  pub is_open : s.is_open ≡ false

abbrev pub AreFresh : List Slot → Type 0
AreFresh slots = (at : ℕ) → IsFresh at (slice_index_or slots at no_slot)

-- no link came yet, and there was no wait
abbrev pub IsNew : TableView → Type 0
IsNew table = (table.waits ≡ 0) × ((link : ℕ) → meaning table link ≡ never_come 0)

abbrev pub read_meaning : Meaning → LinkRead → Meaning
read_meaning m answer = record m { faults = faults_after m.faults (read_failed answer); asked = after_read m.asked answer }

abbrev pub write_meaning : Meaning → LinkWrite → Meaning
write_meaning m answer = record m { faults = faults_after m.faults (write_failed answer); asked = after_write m.asked answer }

-- this is kept of a link, and it is open
pub record IsOpenAt (table : TableView) (link : ℕ) (s : Slot) : Type 0 where
  pub slot : s ≡ slot_at table.slots link
  pub is_open : s.is_open ≡ true
  pub given : s.given ≡ true
  pub own : s.link ≡ link

-- the link is open, and its count of faults has not passed its end
pub record IsOpenMeaning (m : Meaning) : Type 0 where
  pub come : m.come ≡ true
  pub is_open : m.is_open ≡ true
  pub small : m.faults < 2 ^ 64

-- a link that never came is open now
pub record Given (waits : ℕ) (old : List Slot) (link : ℕ) (new : List Slot) : Type 0 where
  pub never : meaning (table_of waits old) link ≡ never_come waits
  pub put : Put (table_of waits old) link (new_meaning waits) (table_of waits new)

-- after a wait nothing was asked yet, and what was asked since the one before stands aside
abbrev pub began : ℕ → Meaning → Meaning
began waits m = record m { asked = record { wait = waits; reads = 0; read_quiet = false; write_quiet = false; read_was_quiet = m.asked.read_quiet; write_was_quiet = m.asked.write_quiet } }
