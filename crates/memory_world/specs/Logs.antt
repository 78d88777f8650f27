use Rattle.std.specs.Prelude.{ℕ, List, map, Bool}
use Rattle.link_world.specs.Log.{Event}
use Rattle.memory_world.specs.declared.world.MemoryWorld.{MemoryWorld}
use Rattle.memory_world.specs.Marks.{mark_of}
use Rattle.memory_world.specs.Records.{event_of}

-- the log that a world in memory tells: all that was done, whatever record was left out
abbrev pub log_of : MemoryWorld → List Event
log_of world = map event_of world.book.log

-- the link was given and isn't closed
abbrev pub is_open : MemoryWorld → ℕ → Bool
is_open world link = (mark_of world.book.marks link).is_open
