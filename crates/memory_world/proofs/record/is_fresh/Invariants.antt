use Rattle.std.proofs.Common.{take, map}
use Rattle.link_world.specs.Log.{IsFresh}
use Rattle.memory_world.specs.Records.{event_of}
use Rattle.memory_world.proofs.record.is_fresh.Given as goal

abbrev pub invariant-loop-entry : goal.invariant-loop-entry
invariant-loop-entry l = IsFresh l.link (map event_of (take l.entry-index l.log))
