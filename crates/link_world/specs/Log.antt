-- The log of a world: one event for each call that did something. All that is told of a link is a part of it.
use Rattle.std.specs.Prelude.{◌≡◌, ℕ, List, [], ◌∷◌, Bool, true, false, ◌==◌}
use Rattle.std.specs.List.{flat_map, AllByRecursion}
use Rattle.ip_net.specs.declared.ip.Ip.{Ip}
use Rattle.link_world.specs.declared.note.Note.{Note}

-- what happens on one link
pub data LinkEvent : Type 0 where
  -- a client came at this entry point, from this address
  came : List ℕ → Ip → LinkEvent
  -- the link was dialled to this host and this port
  dialled : List ℕ → ℕ → LinkEvent
  gave : List ℕ → LinkEvent
  gave_end : LinkEvent
  took : List ℕ → LinkEvent
  noted : Note → LinkEvent

-- a moment is in milliseconds; a stamp is the clock's last answer before the event
pub data Event : Type 0 where
  -- a wait until this moment, and one that failed
  waited : ℕ → Event
  wait_failed : ℕ → Event
  -- the clock answered a greater value
  clock : ℕ → Event
  -- this happened on a link, at this stamp
  on : ℕ → ℕ → LinkEvent → Event
  -- a call on a link failed, at this stamp
  failed : ℕ → ℕ → Event
  -- an open link was closed, at this stamp
  closed : ℕ → ℕ → Event
  -- whether a stop was asked for
  asked : Bool → Event

-- these if the test holds, else nothing
abbrev pub only_if : {A : Type 0} → Bool → List A → List A
only_if true xs = xs
only_if false xs = []

-- the event is of this link
abbrev pub is_of : ℕ → Event → Bool
is_of link (waited until) = false
is_of link (wait_failed until) = false
is_of link (clock now) = false
is_of link (on l stamp e) = link == l
is_of link (failed l stamp) = link == l
is_of link (closed l stamp) = link == l
is_of link (asked answer) = false

abbrev pub happening : ℕ → Event → List LinkEvent
happening link (waited until) = []
happening link (wait_failed until) = []
happening link (clock now) = []
happening link (on l stamp e) = only_if (link == l) (e ∷ [])
happening link (failed l stamp) = []
happening link (closed l stamp) = []
happening link (asked answer) = []

-- what happened on the link, in order
abbrev pub history_of : ℕ → List Event → List LinkEvent
history_of link log = flat_map (happening link) log

abbrev pub failure : ℕ → Event → List (Unit {0})
failure link (waited until) = []
failure link (wait_failed until) = []
failure link (clock now) = []
failure link (on l stamp e) = []
failure link (failed l stamp) = only_if (link == l) (tt ∷ [])
failure link (closed l stamp) = []
failure link (asked answer) = []

-- the faults of the link, one for each
abbrev pub failures_of : ℕ → List Event → List (Unit {0})
failures_of link log = flat_map (failure link) log

-- no event is of this link
abbrev pub IsFresh : ℕ → List Event → Type 0
IsFresh link log = AllByRecursion (λ e. is_of link e ≡ false) log

abbrev pub given_by : LinkEvent → List ℕ
given_by (came entry peer) = []
given_by (dialled host port) = []
given_by (gave bytes) = bytes
given_by gave_end = []
given_by (took bytes) = []
given_by (noted note) = []

abbrev pub taken_by : LinkEvent → List ℕ
taken_by (came entry peer) = []
taken_by (dialled host port) = []
taken_by (gave bytes) = []
taken_by gave_end = []
taken_by (took bytes) = bytes
taken_by (noted note) = []

abbrev pub note_by : LinkEvent → List Note
note_by (came entry peer) = []
note_by (dialled host port) = []
note_by (gave bytes) = []
note_by gave_end = []
note_by (took bytes) = []
note_by (noted note) = note ∷ []

abbrev pub end_by : LinkEvent → List (Unit {0})
end_by (came entry peer) = []
end_by (dialled host port) = []
end_by (gave bytes) = []
end_by gave_end = tt ∷ []
end_by (took bytes) = []
end_by (noted note) = []

-- the bytes given, the bytes taken, the notes and the ends of a link's history
abbrev pub given : List LinkEvent → List ℕ
given = flat_map given_by

abbrev pub taken : List LinkEvent → List ℕ
taken = flat_map taken_by

abbrev pub notes : List LinkEvent → List Note
notes = flat_map note_by

abbrev pub ends : List LinkEvent → List (Unit {0})
ends = flat_map end_by
