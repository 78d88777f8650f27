-- What is done when connections are ended: links are closed and notes are told.
use Rattle.std.specs.Prelude.{◌≡◌, List}
use Rattle.std.specs.List.{AllByRecursion}
use Rattle.link_world.specs.Log.{Event, LinkEvent, waited, wait_failed, clock, on, failed, closed, asked, came, dialled, gave, gave_end, took, noted}
use Rattle.link_world.specs.Seen.{Seen}
use Rattle.conn_service.specs.Went.{extended}

-- a note was told
abbrev pub IsNoting : LinkEvent → Type 0
IsNoting (came entry peer) = ⊥
IsNoting (dialled host port) = ⊥
IsNoting (gave bytes) = ⊥
IsNoting gave_end = ⊥
IsNoting (took bytes) = ⊥
IsNoting (noted note) = Unit {0}

-- a link was closed or a note was told
abbrev pub IsFarewell : Event → Type 0
IsFarewell (waited until) = ⊥
IsFarewell (wait_failed until) = ⊥
IsFarewell (clock now) = ⊥
IsFarewell (on link stamp e) = IsNoting e
IsFarewell (failed link stamp) = ⊥
IsFarewell (closed link stamp) = Unit {0}
IsFarewell (asked answer) = ⊥

-- nothing else was done: no link came, gave or took anything
pub record OnlyTells (old new : Seen) : Type 0 where
  pub ran : List Event
  pub log : new.log ≡ extended old.log ran
  pub farewells : AllByRecursion IsFarewell ran
