-- On which links clients came, and which were dialled.
use Rattle.std.specs.Prelude.{ℕ, Bool, true, false, List, [], ◌∷◌}
use Rattle.std.specs.List.{flat_map}
use Rattle.link_world.specs.Log.{Event, LinkEvent, waited, wait_failed, clock, on, failed, closed, asked, came, dialled, gave, gave_end, took, noted, only_if}

-- a client came
abbrev pub is_arrival : LinkEvent → Bool
is_arrival (came entry peer) = true
is_arrival (dialled host port) = false
is_arrival (gave bytes) = false
is_arrival gave_end = false
is_arrival (took bytes) = false
is_arrival (noted note) = false

abbrev pub arrival_by : Event → List ℕ
arrival_by (waited until) = []
arrival_by (wait_failed until) = []
arrival_by (clock now) = []
arrival_by (on link stamp e) = only_if (is_arrival e) (link ∷ [])
arrival_by (failed link stamp) = []
arrival_by (closed link stamp) = []
arrival_by (asked answer) = []

-- the links on which clients came, in order
abbrev pub arrivals : List Event → List ℕ
arrivals = flat_map arrival_by

-- the link was dialled
abbrev pub is_dial : LinkEvent → Bool
is_dial (came entry peer) = false
is_dial (dialled host port) = true
is_dial (gave bytes) = false
is_dial gave_end = false
is_dial (took bytes) = false
is_dial (noted note) = false

abbrev pub dial_by : Event → List ℕ
dial_by (waited until) = []
dial_by (wait_failed until) = []
dial_by (clock now) = []
dial_by (on link stamp e) = only_if (is_dial e) (link ∷ [])
dial_by (failed link stamp) = []
dial_by (closed link stamp) = []
dial_by (asked answer) = []

-- the links that were dialled, in order
abbrev pub dials : List Event → List ℕ
dials = flat_map dial_by
