use Rattle.std.proofs.Common.{◌≤◌, ◌≡◌, length}
use Rattle.std.specs.List.{All}
use Rattle.mio_world.specs.Tables.{AreFresh}
use Rattle.mio_world.specs.declared.slot.Slot.{Slot}
use Rattle.mio_world.proofs.table.fresh_slots.Given as goal

abbrev pub invariant-loop-at : goal.invariant-loop-at
invariant-loop-at l = All (λ (s : Slot). s.asked.wait ≤ 0) l.slots.items × AreFresh l.slots.items × (length l.slots.items ≡ l.at)
