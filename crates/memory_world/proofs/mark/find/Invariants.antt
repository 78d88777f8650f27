use Rattle.std.proofs.Common.{◌≡◌, false, take}
use Rattle.memory_world.specs.Marks.{has}
use Rattle.memory_world.proofs.mark.find.Given as goal

abbrev pub invariant-loop-at : goal.invariant-loop-at
invariant-loop-at l = has (take l.at l.marks) l.link ≡ false
