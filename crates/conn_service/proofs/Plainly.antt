-- Events by which no link comes.
use Rattle.std.proofs.Common.{◌≡◌, ℕ, [], ◌∷◌, refl, Bool, true, false}
use Rattle.link_world.specs.Log.{LinkEvent, on, came, dialled, gave, gave_end, took, noted}
use Rattle.conn_service.specs.Arrivals.{arrivals, dials}

-- a link comes by it
abbrev pub is_coming : LinkEvent → Bool
is_coming (came entry peer) = true
is_coming (dialled host port) = true
is_coming (gave bytes) = false
is_coming gave_end = false
is_coming (took bytes) = false
is_coming (noted note) = false

pub no_arrival : (link now : ℕ) (e : LinkEvent) → is_coming e ≡ false → arrivals (on link now e ∷ []) ≡ []
no_arrival link now (came entry peer) is = cc
no_arrival link now (dialled host port) is = cc
no_arrival link now (gave bytes) is = refl
no_arrival link now gave_end is = refl
no_arrival link now (took bytes) is = refl
no_arrival link now (noted note) is = refl

pub no_dial : (link now : ℕ) (e : LinkEvent) → is_coming e ≡ false → dials (on link now e ∷ []) ≡ []
no_dial link now (came entry peer) is = cc
no_dial link now (dialled host port) is = cc
no_dial link now (gave bytes) is = refl
no_dial link now gave_end is = refl
no_dial link now (took bytes) is = refl
no_dial link now (noted note) is = refl
