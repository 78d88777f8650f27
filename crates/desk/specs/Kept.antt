-- What a desk of one thread means.
use Rattle.std.specs.Prelude.{ℕ, ◌==◌, ◌-◌, List, Option, Some, None, if◌then◌else◌, vec_len, vec_capacity}
use Rattle.std.specs.List.{list_any}
use Rattle.conversation.specs.Plans.{Plan}
use Rattle.link_world.specs.declared.note.Look.{Look}
use Rattle.link_world.specs.declared.note.NodePick.{NodePick}
use Rattle.desk.specs.Desks.{Seat, Desk, Room}
use Rattle.desk.specs.Issues.{published_plan, published_in, generations_of, pins_of}
use Rattle.desk.specs.Told.{looks_told, picks_told, last_end}
use Rattle.desk.specs.declared.told.Told.{Told}
use Rattle.desk.specs.declared.seats.Seats.{Seats}
use Rattle.desk.specs.declared.one.OneDesk.{OneDesk}

-- The count at a node is the end of the last pick there.
abbrev pub seat_of : List Look → List NodePick → Seat
seat_of looks picks = record { looks = looks; picks = picks; count = λ node. last_end node 0 picks }

-- the seat of a number that is among these
abbrev pub seat_in : List ℕ → List (ℕ × Told) → ℕ → Option Seat
seat_in numbers told number =
    if list_any (λ n. n == number) numbers then Some (seat_of (looks_told told number) (picks_told told number)) else None

abbrev pub seats_of : Seats → ℕ → Option Seat
seats_of s = seat_in s.numbers.items s.told.items

-- a look takes none
abbrev pub room_of : Seats → Room
room_of s = record { looks = 1; picks = vec_capacity s.counts - vec_len s.counts }

-- no pin of it is ever refused and kept
abbrev pub desk_of : OneDesk → Desk
desk_of d = record {
  generations = generations_of (published_in d.timeline.earlier.items) d.timeline.newest;
  pins = pins_of (published_in d.timeline.earlier.items) d.timeline.newest;
  refused = 0;
  attended = seats_of d.seats;
}

-- the last of the generations
abbrev pub newest_plan : OneDesk → Plan
newest_plan d = published_plan d.timeline.newest
