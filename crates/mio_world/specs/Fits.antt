-- Answers that fit what was asked.
use Rattle.std.specs.Prelude.{ℕ, ◌<◌, ◌≤◌}
use Rattle.link_world.specs.declared.world.LinkRead.{LinkRead}
use Rattle.link_world.specs.declared.world.LinkRead.TheVariants as read
use Rattle.link_world.specs.declared.world.LinkWrite.{LinkWrite}
use Rattle.link_world.specs.declared.world.LinkWrite.TheVariants as write

-- so many bytes are in the room, at least one
abbrev pub FitsRead : LinkRead → ℕ → Type 0
FitsRead (read.Got n) size = (0 < n) × (n ≤ size)
FitsRead read.NotYet size = Unit {0}
FitsRead read.End size = Unit {0}
FitsRead read.Failed size = Unit {0}

-- so many bytes of the piece were taken, at least one
abbrev pub FitsWrite : LinkWrite → ℕ → Type 0
FitsWrite (write.Took n) size = (0 < n) × (n ≤ size)
FitsWrite write.NotYet size = Unit {0}
FitsWrite write.Failed size = Unit {0}
