-- What is meant of a link by what stands at its place.
use Rattle.std.specs.Prelude.{◌≡◌, ◌≢◌, ℕ, ◌+◌, ◌%◌, ◌^◌, ◌-◌, ◌==◌, ◌||◌, ◌&&◌, List, Bool, true, false, cond, nat_lt, slice_index_or, None}
use Rattle.px_base.specs.Bytes.{one_more}
use Rattle.link_world.specs.declared.world.LinkRead.{LinkRead}
use Rattle.link_world.specs.declared.world.LinkRead.TheVariants as read
use Rattle.link_world.specs.declared.world.LinkWrite.{LinkWrite}
use Rattle.link_world.specs.declared.world.LinkWrite.TheVariants as write
use Rattle.link_world.specs.Lately.{Lately, is_read_quiet, is_write_quiet}
use Rattle.link_world.specs.Seen.{Seen}
use Rattle.mio_world.specs.declared.slot.Asked.{Asked}
use Rattle.mio_world.specs.declared.slot.Slot.{Slot}

abbrev pub untouched : ℕ → Asked
untouched waits = record { wait = waits; reads = 0; read_quiet = false; write_quiet = false; read_was_quiet = false; write_was_quiet = false }

-- what was asked, told from this wait on
abbrev pub asked_at : ℕ → Asked → Asked
asked_at waits a = cond (a.wait == waits) a
    (cond (a.wait + 1 == waits)
    (record { wait = waits; reads = 0; read_quiet = false; write_quiet = false; read_was_quiet = a.read_quiet; write_was_quiet = a.write_quiet })
    (untouched waits))

abbrev pub after_read : Asked → LinkRead → Asked
after_read a answer = record a { reads = one_more a.reads; read_quiet = is_read_quiet answer }

abbrev pub after_write : Asked → LinkWrite → Asked
after_write a answer = record a { write_quiet = is_write_quiet answer }

abbrev pub read_failed : LinkRead → Bool
read_failed (read.Got n) = false
read_failed read.NotYet = false
read_failed read.End = false
read_failed read.Failed = true

abbrev pub write_failed : LinkWrite → Bool
write_failed (write.Took n) = false
write_failed write.NotYet = false
write_failed write.Failed = true

abbrev pub faults_after : ℕ → Bool → ℕ
faults_after faults failed = cond failed (one_more faults) faults

-- a place after a read of its link, and after a write
abbrev pub slot_read : ℕ → Slot → LinkRead → Slot
slot_read waits s answer = record s { faults = faults_after s.faults (read_failed answer); asked = after_read (asked_at waits s.asked) answer }

abbrev pub slot_written : ℕ → Slot → LinkWrite → Slot
slot_written waits s answer = record s { faults = faults_after s.faults (write_failed answer); asked = after_write (asked_at waits s.asked) answer }

-- the places, and the waits that were made
pub record TableView : Type 0 where
  pub slots : List Slot
  pub waits : ℕ

-- what is meant of a link
pub record Meaning : Type 0 where
  pub come : Bool
  pub is_open : Bool
  pub faults : ℕ
  pub asked : Asked

abbrev pub no_slot : Slot
no_slot = record { link = 0; given = false; is_open = false; faults = 0; asked = untouched 0 }

-- links whose numbers leave the same remainder have one place
abbrev pub slot_at : List Slot → ℕ → Slot
slot_at slots link = slice_index_or slots (link % 16384) no_slot

abbrev pub come_at : Slot → ℕ → Bool
come_at s link = nat_lt link s.link || (s.given && (s.link == link))

abbrev pub open_at : Slot → ℕ → Bool
open_at s link = s.is_open && (s.given && (s.link == link))

-- the faults of a link that is no more open are forgotten: its count stands at its end
abbrev pub meaning_at : ℕ → Slot → ℕ → Meaning
meaning_at waits s link = record {
  come = come_at s link;
  is_open = open_at s link;
  faults = cond (open_at s link) s.faults (cond (come_at s link) (2 ^ 64 - 1) 0);
  asked = cond (open_at s link) (asked_at waits s.asked) (untouched waits);
}

abbrev pub meaning : TableView → ℕ → Meaning
meaning table link = meaning_at table.waits (slot_at table.slots link) link

-- what is meant of one link is this now, and of the others what it was
pub record Put (old : TableView) (link : ℕ) (m : Meaning) (new : TableView) : Type 0 where
  pub waits : new.waits ≡ old.waits
  pub here : meaning new link ≡ m
  pub others : (l : ℕ) → l ≢ link → meaning new l ≡ meaning old l

-- a link of a new number
abbrev pub new_meaning : ℕ → Meaning
new_meaning waits = record { come = true; is_open = true; faults = 0; asked = untouched waits }

abbrev pub never_come : ℕ → Meaning
never_come waits = record { come = false; is_open = false; faults = 0; asked = untouched waits }

abbrev pub shut_meaning : ℕ → Meaning
shut_meaning waits = record { come = true; is_open = false; faults = 2 ^ 64 - 1; asked = untouched waits }

abbrev pub seen_of : ℕ → ℕ → ℕ → TableView → Seen
seen_of now failed stops table = record {
  now = now;
  waits = table.waits;
  waits_failed = failed;
  stops = stops;
  faults = λ l. (meaning table l).faults;
  come = λ l. (meaning table l).come;
  is_open = λ l. (meaning table l).is_open;
  log = None;
}

abbrev pub lately_of : Bool → Bool → TableView → Lately
lately_of clocked no_more table = record {
  clocked = clocked;
  no_more = no_more;
  reads = λ l. (meaning table l).asked.reads;
  read_quiet = λ l. (meaning table l).asked.read_quiet;
  write_quiet = λ l. (meaning table l).asked.write_quiet;
  read_was_quiet = λ l. (meaning table l).asked.read_was_quiet;
  write_was_quiet = λ l. (meaning table l).asked.write_was_quiet;
}

-- a world in which nothing happened yet
abbrev pub new_seen : Seen
new_seen = record {
  now = 0;
  waits = 0;
  waits_failed = 0;
  stops = 0;
  faults = λ l. 0;
  come = λ l. false;
  is_open = λ l. false;
  log = None;
}

abbrev pub new_lately : Lately
new_lately = record {
  clocked = false;
  no_more = false;
  reads = λ l. 0;
  read_quiet = λ l. false;
  write_quiet = λ l. false;
  read_was_quiet = λ l. false;
  write_was_quiet = λ l. false;
}
