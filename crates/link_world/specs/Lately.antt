-- What a world means since its last wait, whether or not it tells a log.
use Rattle.std.specs.Prelude.{◌≡◌, ◌≢◌, ℕ, Option, Some, None, Result, Ok, Err, Bool, true, false}
use Rattle.std.specs.declared.alloc.AllocError.{AllocError}
use Rattle.px_base.specs.Bytes.{one_more}
use Rattle.link_world.specs.declared.world.Arrival.{Arrival}
use Rattle.link_world.specs.declared.world.LinkRead.{LinkRead}
use Rattle.link_world.specs.declared.world.LinkRead.TheVariants as read
use Rattle.link_world.specs.declared.world.LinkWrite.{LinkWrite}
use Rattle.link_world.specs.declared.world.LinkWrite.TheVariants as write
use Rattle.link_world.specs.declared.world.WaitFailed.{WaitFailed}

pub record Lately : Type 0 where
  -- the clock has answered
  pub clocked : Bool
  -- the last arrival answered that none stands there
  pub no_more : Bool
  -- the reads of each link
  pub reads : ℕ → ℕ
  -- the last read, the last write, answered NotYet
  pub read_quiet : ℕ → Bool
  pub write_quiet : ℕ → Bool
  -- the last read, the last write, between the last wait and the one before it answered NotYet
  pub read_was_quiet : ℕ → Bool
  pub write_was_quiet : ℕ → Bool

-- of this link nothing changed
pub record SameAt (link : ℕ) (old new : Lately) : Type 0 where
  pub reads : new.reads link ≡ old.reads link
  pub read_quiet : new.read_quiet link ≡ old.read_quiet link
  pub write_quiet : new.write_quiet link ≡ old.write_quiet link
  pub read_was_quiet : new.read_was_quiet link ≡ old.read_was_quiet link
  pub write_was_quiet : new.write_was_quiet link ≡ old.write_was_quiet link

-- of this link alone anything changed
pub record OnlyAt (link : ℕ) (old new : Lately) : Type 0 where
  pub clocked : new.clocked ≡ old.clocked
  pub no_more : new.no_more ≡ old.no_more
  pub others : (l : ℕ) → l ≢ link → SameAt l old new

-- the link was neither read nor written, now or between the last wait and the one before it
pub record IsUntouched (s : Lately) (link : ℕ) : Type 0 where
  pub reads : s.reads link ≡ 0
  pub read_quiet : s.read_quiet link ≡ false
  pub write_quiet : s.write_quiet link ≡ false
  pub read_was_quiet : s.read_was_quiet link ≡ false
  pub write_was_quiet : s.write_was_quiet link ≡ false

abbrev pub is_read_quiet : LinkRead → Bool
is_read_quiet (read.Got n) = false
is_read_quiet read.NotYet = true
is_read_quiet read.End = false
is_read_quiet read.Failed = false

abbrev pub is_write_quiet : LinkWrite → Bool
is_write_quiet (write.Took n) = false
is_write_quiet write.NotYet = true
is_write_quiet write.Failed = false

pub record ReadLately (old : Lately) (link : ℕ) (result : LinkRead) (new : Lately) : Type 0 where
  pub only : OnlyAt link old new
  pub reads : new.reads link ≡ one_more (old.reads link)
  pub read_quiet : new.read_quiet link ≡ is_read_quiet result
  pub write_quiet : new.write_quiet link ≡ old.write_quiet link
  pub read_was_quiet : new.read_was_quiet link ≡ old.read_was_quiet link
  pub write_was_quiet : new.write_was_quiet link ≡ old.write_was_quiet link

pub record WriteLately (old : Lately) (link : ℕ) (result : LinkWrite) (new : Lately) : Type 0 where
  pub only : OnlyAt link old new
  pub reads : new.reads link ≡ old.reads link
  pub read_quiet : new.read_quiet link ≡ old.read_quiet link
  pub write_quiet : new.write_quiet link ≡ is_write_quiet result
  pub read_was_quiet : new.read_was_quiet link ≡ old.read_was_quiet link
  pub write_was_quiet : new.write_was_quiet link ≡ old.write_was_quiet link

-- after a wait nothing was asked yet, and what was asked since the one before stands aside
pub record Began (old : Lately) (link : ℕ) (new : Lately) : Type 0 where
  pub reads : new.reads link ≡ 0
  pub read_quiet : new.read_quiet link ≡ false
  pub write_quiet : new.write_quiet link ≡ false
  pub read_was_quiet : new.read_was_quiet link ≡ old.read_quiet link
  pub write_was_quiet : new.write_was_quiet link ≡ old.write_quiet link

abbrev pub WaitLately : (ℕ → Bool) → Lately → Result (Unit {0}) WaitFailed → Lately → Type 0
WaitLately is_open old (Ok _) new =
    (new.clocked ≡ false) × (new.no_more ≡ false) × ((l : ℕ) → is_open l ≡ true → Began old l new)
WaitLately is_open old (Err _) new = new ≡ old

-- an arrival is remembered by whether one came, and its link is untouched
abbrev pub ArrivalLately : Lately → Result (Option Arrival) AllocError → Lately → Type 0
ArrivalLately old (Ok (Some a)) new = (new ≡ record old { no_more = false }) × IsUntouched new a.link
ArrivalLately old (Ok None) new = new ≡ record old { no_more = true }
ArrivalLately old (Err _) new = new ≡ record old { no_more = false }

abbrev pub DialLately : Lately → Result ℕ AllocError → Lately → Type 0
DialLately old (Ok link) new = (new ≡ old) × IsUntouched new link
DialLately old (Err _) new = new ≡ old
