use Rattle.std.proofs.Common.{◌≡◌, take}
use Rattle.std.specs.List.{flat_map}
use Rattle.link_world.specs.Log.{happening, taken}
use Rattle.memory_world.specs.declared.record.Record.{Record}
use Rattle.memory_world.specs.Records.{event_of}
use Rattle.memory_world.proofs.world.MemoryWorld.taken.Given as goal

abbrev pub invariant-loop-entry : goal.invariant-loop-entry
invariant-loop-entry l = l.bytes.items ≡ flat_map (λ (r : Record). taken (happening l.link (event_of r))) (take l.entry-index l.kept)
