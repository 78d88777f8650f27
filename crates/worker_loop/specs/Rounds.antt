-- A worker's run is rounds: work, one question whether to stop, one wait.
use Rattle.std.specs.Prelude.{◌≡◌, ◌≢◌, ◌⊎◌, ◌-◌, ◌^◌, ℕ, List, [], ◌∷◌, ◌++◌, true, false}
use Rattle.std.specs.List.{AllByRecursion, flat_map}
use Rattle.link_world.specs.declared.note.EndCause.TheVariants as cause
use Rattle.link_world.specs.Log.{Event, LinkEvent, waited, wait_failed, clock, on, failed, closed, asked, came, dialled, gave, gave_end, took, noted}
use Rattle.link_world.specs.Seen.{Seen}
use Rattle.conversation.specs.Served.{end_note}
use Rattle.conn_service.specs.Farewell.{IsFarewell}
use Rattle.conn_service.specs.Went.{extended}
use Rattle.worker_loop.specs.Stamps.{AreStamped, clock_at}
use Rattle.worker_loop.specs.declared.rounds.WorkerEnd.{WorkerEnd}
use Rattle.worker_loop.specs.declared.rounds.WorkerEnd.TheVariants.{Stopped, WorldFault, Memory}

-- the greatest moment: a wait until then ends only when a link has something new
abbrev pub no_deadline : ℕ
no_deadline = 2 ^ 64 - 1

-- the note isn't that of an end for a stop
abbrev pub IsNoStop : ℕ → LinkEvent → Type 0
IsNoStop link (came entry peer) = Unit {0}
IsNoStop link (dialled host port) = Unit {0}
IsNoStop link (gave bytes) = Unit {0}
IsNoStop link gave_end = Unit {0}
IsNoStop link (took bytes) = Unit {0}
IsNoStop link (noted note) = note ≢ end_note link cause.Stopped

-- work: the clock answers, or something happens on a link, but no connection is ended for a stop
abbrev pub IsWork : Event → Type 0
IsWork (waited until) = ⊥
IsWork (wait_failed until) = ⊥
IsWork (clock now) = Unit {0}
IsWork (on link stamp e) = IsNoStop link e
IsWork (failed link stamp) = Unit {0}
IsWork (closed link stamp) = Unit {0}
IsWork (asked answer) = ⊥

-- these events led from one moment to the other, and each stamp is the clock's last answer before its event
pub record Leads (old new : Seen) (ran : List Event) : Type 0 where
  pub log : new.log ≡ extended old.log ran
  pub stamped : AreStamped old.now ran
  pub now : new.now ≡ clock_at old.now ran

-- since then only work was done
pub record Worked (old new : Seen) : Type 0 where
  pub ran : List Event
  pub leads : Leads old new ran
  pub work : AllByRecursion IsWork ran

-- since then links were closed and notes told, and nothing else was done
pub record Parted (old new : Seen) : Type 0 where
  pub ran : List Event
  pub leads : Leads old new ran
  pub farewells : AllByRecursion IsFarewell ran

-- work, a question whether to stop that was answered no, and a wait until a link has something new
pub record IsRound (ran : List Event) : Type 0 where
  pub work : List Event
  pub is_work : AllByRecursion IsWork work
  pub whole : ran ≡ work ++ asked false ∷ waited no_deadline ∷ []

-- work, a question whether to stop that was answered yes, and the ends of the connections
pub record IsStop (ran : List Event) : Type 0 where
  pub work : List Event
  pub is_work : AllByRecursion IsWork work
  pub farewells : List Event
  pub are_farewells : AllByRecursion IsFarewell farewells
  pub whole : ran ≡ work ++ asked true ∷ farewells

-- a round whose wait failed, and the ends of the connections
pub record IsFault (ran : List Event) : Type 0 where
  pub work : List Event
  pub is_work : AllByRecursion IsWork work
  pub farewells : List Event
  pub are_farewells : AllByRecursion IsFarewell farewells
  pub whole : ran ≡ work ++ asked false ∷ wait_failed no_deadline ∷ farewells

-- The last round, by the answer. Memory may run out in a turn, and then nothing is asked any more; or behind the stop or
-- the failed wait, and then something was lost.
abbrev pub IsLastRound : (lost : Type 0) → WorkerEnd → List Event → Type 0
IsLastRound lost Stopped ran = IsStop ran
IsLastRound lost WorldFault ran = IsFault ran
IsLastRound lost Memory ran = AllByRecursion IsWork ran ⊎ ((IsStop ran ⊎ IsFault ran) × lost)

-- the last round led from one moment to the other
pub record LastRound (lost : Type 0) (end : WorkerEnd) (old new : Seen) : Type 0 where
  pub ran : List Event
  pub leads : Leads old new ran
  pub is_last : IsLastRound lost end ran

-- rounds, and then the last one
pub record RanRounds (lost : Type 0) (end : WorkerEnd) (ran : List Event) : Type 0 where
  pub rounds : List (List Event)
  pub are_rounds : AllByRecursion IsRound rounds
  pub last : List Event
  pub is_last : IsLastRound lost end last
  pub whole : ran ≡ flat_map (λ (round : List Event). round) rounds ++ last
