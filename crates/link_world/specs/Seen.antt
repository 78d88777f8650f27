-- What a world means at one moment, and what each call does to it. An equation with the old meaning is
-- also the whole frame: nothing else changes.
use Rattle.std.specs.Prelude.{◌≡◌, ◌≢◌, ◌⊎◌, ℕ, ◌<◌, ◌≤◌, List, [], ◌∷◌, ◌++◌, length, take, Option, Some, None, Result, Ok, Err, IfSome, Bool, true, false}
use Rattle.std.specs.Option.{option_map}
use Rattle.std.specs.declared.alloc.AllocError.{AllocError}
use Rattle.px_base.specs.Bytes.{one_more}
use Rattle.link_world.specs.declared.note.Note.{Note}
use Rattle.link_world.specs.declared.world.Arrival.{Arrival}
use Rattle.link_world.specs.declared.world.LinkRead.{LinkRead}
use Rattle.link_world.specs.declared.world.LinkRead.TheVariants as read
use Rattle.link_world.specs.declared.world.LinkWrite.{LinkWrite}
use Rattle.link_world.specs.declared.world.LinkWrite.TheVariants as write
use Rattle.link_world.specs.declared.world.WaitFailed.{WaitFailed}
use Rattle.link_world.specs.Log.{Event, LinkEvent, waited, wait_failed, clock, on, failed, closed, asked, came, dialled, gave, gave_end, took, noted, IsFresh}

pub record Seen : Type 0 where
  -- the last answer of the clock, in milliseconds
  pub now : ℕ
  -- the waits that were made
  pub waits : ℕ
  -- the world's own faults: of waits, and of notes that were refused
  pub waits_failed : ℕ
  -- how often a stop was asked for
  pub stops : ℕ
  -- the faults of each link
  pub faults : ℕ → ℕ
  -- the links that it has given, and those of them that aren't closed
  pub come : ℕ → Bool
  pub is_open : ℕ → Bool
  -- what was done, where the world tells it
  pub log : Option (List Event)

-- a count rose; one that has come to the end of its numbers stands there
abbrev pub Rose : ℕ → ℕ → Type 0
Rose old new = (old ≤ new) × (one_more old ≤ new)

-- the same with one more event
abbrev pub with_event : Seen → Event → Seen
with_event s e = record s { log = option_map (λ log. log ++ e ∷ []) s.log }

-- the same where this happened on the link
abbrev pub with_link_event : Seen → ℕ → LinkEvent → Seen
with_link_event s link e = with_event s (on link s.now e)

-- a link that was never given comes, by this event
pub record Came (old : Seen) (link : ℕ) (e : LinkEvent) (new : Seen) : Type 0 where
  pub same : new ≡ record (with_link_event old link e) { come = new.come; is_open = new.is_open }
  pub fresh : IfSome old.log (IsFresh link)
  pub unfailed : old.faults link ≡ 0
  pub not_come : old.come link ≡ false
  pub not_open : old.is_open link ≡ false
  pub come : new.come link ≡ true
  pub is_open : new.is_open link ≡ true
  pub others_come : (l : ℕ) → l ≢ link → new.come l ≡ old.come l
  pub others_open : (l : ℕ) → l ≢ link → new.is_open l ≡ old.is_open l

-- a fault of this link, and nothing else
pub record Faulted (old : Seen) (link : ℕ) (new : Seen) : Type 0 where
  pub same : new ≡ record (with_event old (failed link old.now)) { faults = new.faults }
  pub rose : Rose (old.faults link) (new.faults link)
  pub others : (l : ℕ) → l ≢ link → new.faults l ≡ old.faults l

-- an open link is closed. A world that tells no log may forget the faults of a closed link: its count
-- then stands at its end
pub record Closed (old : Seen) (link : ℕ) (new : Seen) : Type 0 where
  pub same : new ≡ record (with_event old (closed link old.now)) { faults = new.faults; is_open = new.is_open }
  pub not_open : new.is_open link ≡ false
  pub others_open : (l : ℕ) → l ≢ link → new.is_open l ≡ old.is_open l
  pub later : old.faults link ≤ new.faults link
  pub kept : IfSome old.log (λ log. new.faults link ≡ old.faults link)
  pub others : (l : ℕ) → l ≢ link → new.faults l ≡ old.faults l

abbrev pub WaitDid : Seen → ℕ → Result (Unit {0}) WaitFailed → Seen → Type 0
WaitDid old until (Ok _) new = new ≡ record (with_event old (waited until)) { waits = one_more old.waits }
WaitDid old until (Err _) new = (n : ℕ) × Rose old.waits_failed n × (new ≡ record (with_event old (wait_failed until)) { waits_failed = n })

-- each value of the clock is told once
abbrev pub NowDid : Seen → ℕ → Seen → Type 0
NowDid old n new = ((n ≡ old.now) × (new ≡ old)) ⊎ ((old.now < n) × (new ≡ record (with_event old (clock n)) { now = n }))

abbrev pub ArrivalDid : Seen → Result (Option Arrival) AllocError → Seen → Type 0
ArrivalDid old (Ok (Some a)) new = Came old a.link (came a.entry a.peer) new
ArrivalDid old (Ok None) new = new ≡ old
ArrivalDid old (Err _) new = new ≡ old

abbrev pub DialDid : Seen → List ℕ → ℕ → Result ℕ AllocError → Seen → Type 0
DialDid old host port (Ok link) new = Came old link (dialled host port) new
DialDid old host port (Err _) new = new ≡ old

abbrev pub ReadDid : Seen → ℕ → LinkRead → List ℕ → Seen → Type 0
ReadDid old link (read.Got n) room new = (0 < n) × (n ≤ length room) × (new ≡ with_link_event old link (gave (take n room)))
ReadDid old link read.NotYet room new = new ≡ old
ReadDid old link read.End room new = new ≡ with_link_event old link gave_end
ReadDid old link read.Failed room new = Faulted old link new

abbrev pub WriteDid : Seen → ℕ → List ℕ → LinkWrite → Seen → Type 0
WriteDid old link piece (write.Took n) new = (0 < n) × (n ≤ length piece) × (new ≡ with_link_event old link (took (take n piece)))
WriteDid old link piece write.NotYet new = new ≡ old
WriteDid old link piece write.Failed new = Faulted old link new

-- closing a link that isn't open does nothing
abbrev pub CloseDid : Seen → ℕ → Seen → Type 0
CloseDid old link new = (old.is_open link ≡ true → Closed old link new) × (old.is_open link ≡ false → new ≡ old)

-- a note that is refused may count as a fault of the world
abbrev pub NoteDid : Seen → Note → Result (Unit {0}) AllocError → Seen → Type 0
NoteDid old note (Ok _) new = new ≡ with_link_event old note.link (noted note)
NoteDid old note (Err _) new = (n : ℕ) × (old.waits_failed ≤ n) × (new ≡ record old { waits_failed = n })

abbrev pub StopDid : Seen → Bool → Seen → Type 0
StopDid old true new = (n : ℕ) × Rose old.stops n × (new ≡ record (with_event old (asked true)) { stops = n })
StopDid old false new = new ≡ with_event old (asked false)
