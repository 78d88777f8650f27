-- That a draw was refused only where the shared desk's count says so.
use Rattle.std.specs.Prelude.{◌≡◌, ℕ, ◌+◌, ◌<◌, ◌^◌, List}
use Rattle.std.specs.List.{AllByRecursion}
use Rattle.wrr_deadlines.specs.Reduced.{period_len}
use Rattle.link_world.specs.declared.note.Note.{Note}
use Rattle.link_world.specs.declared.note.NoteBody.{NoteBody}
use Rattle.link_world.specs.declared.note.NoteBody.TheVariants as body
use Rattle.link_world.specs.declared.note.Cause.{Cause}
use Rattle.link_world.specs.declared.note.Cause.TheVariants.{Passed, Undecided, Head, HeadTooLarge, NoRouter, Stopped, BodyTooLarge, NoChild, Spent, BackFailed, BackBad, BackLate}
use Rattle.link_world.specs.Seen.{Seen}
use Rattle.conversation.specs.Steps.{Step}
use Rattle.desk.specs.Desks.{Desk, seat_at, one_server}
use Rattle.conn_machine.specs.declared.conn.Conn.{Conn}
use Rattle.conn_service.specs.Choices.{last_number, spents_under}
use Rattle.conn_service.specs.Moments.{Stands}

-- the desk's count of the pops at this node, under this number, and a period more pass 2^62
abbrev pub IsUsedUp : Desk → ℕ → ℕ → Type 0
IsUsedUp d n node = 2 ^ 62 < (seat_at d n).count node + period_len one_server

-- where it is that a draw was refused, the desk's count says so
abbrev pub CauseStands : Desk → ℕ → Cause → Type 0
CauseStands d n Passed = Unit {0}
CauseStands d n Undecided = Unit {0}
CauseStands d n (Head fault) = Unit {0}
CauseStands d n HeadTooLarge = Unit {0}
CauseStands d n NoRouter = Unit {0}
CauseStands d n (Stopped place) = Unit {0}
CauseStands d n BodyTooLarge = Unit {0}
CauseStands d n NoChild = Unit {0}
CauseStands d n (Spent node) = IsUsedUp d n node
CauseStands d n (BackFailed link) = Unit {0}
CauseStands d n (BackBad link) = Unit {0}
CauseStands d n (BackLate link base now) = Unit {0}

abbrev pub BodyStands : Desk → NoteBody → Type 0
BodyStands d (body.Request r) = CauseStands d r.generation r.cause
BodyStands d (body.End cause) = Unit {0}

abbrev pub NoteStands : Desk → Note → Type 0
NoteStands d n = BodyStands d n.body

-- The connection was told these steps, and has the number of the last pin among them. It was told of a refused draw only
-- where the desk's count says so.
pub record IsFollowed (now : Seen) (d : Desk) (c : Conn) : Type 0 where
  pub steps : List Step
  pub stands : Stands now steps c
  pub number : last_number 0 steps ≡ c.current.number
  pub refused : (n : ℕ) → AllByRecursion (IsUsedUp d n) (spents_under n 0 steps)
