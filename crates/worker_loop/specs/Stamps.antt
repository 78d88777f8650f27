-- That each event on a link carries the clock's last answer before it.
use Rattle.std.specs.Prelude.{◌≡◌, ℕ, List, [], ◌∷◌}
use Rattle.link_world.specs.Log.{Event, waited, wait_failed, clock, on, failed, closed, asked}

-- the clock's last answer after the event, where before it it was this
abbrev pub clock_after : ℕ → Event → ℕ
clock_after now (waited until) = now
clock_after now (wait_failed until) = now
clock_after now (clock answer) = answer
clock_after now (on link stamp e) = now
clock_after now (failed link stamp) = now
clock_after now (closed link stamp) = now
clock_after now (asked answer) = now

-- and after all these events
abbrev pub clock_at : ℕ → List Event → ℕ
clock_at now [] = now
clock_at now (e ∷ ran) = clock_at (clock_after now e) ran

-- the event's stamp, where it has one, is this
abbrev pub IsStamped : ℕ → Event → Type 0
IsStamped now (waited until) = Unit {0}
IsStamped now (wait_failed until) = Unit {0}
IsStamped now (clock answer) = Unit {0}
IsStamped now (on link stamp e) = stamp ≡ now
IsStamped now (failed link stamp) = stamp ≡ now
IsStamped now (closed link stamp) = stamp ≡ now
IsStamped now (asked answer) = Unit {0}

-- each stamp is the clock's last answer before its event, where before all of them it was this
abbrev pub AreStamped : ℕ → List Event → Type 0
AreStamped now [] = Unit {0}
AreStamped now (e ∷ ran) = IsStamped now e × AreStamped (clock_after now e) ran
