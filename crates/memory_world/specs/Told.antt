-- What a world in memory means: it tells its whole log.
use Rattle.std.specs.Prelude.{ℕ, List, Some, map}
use Rattle.link_world.specs.Seen.{Seen}
use Rattle.memory_world.specs.declared.mark.Mark.{Mark}
use Rattle.memory_world.specs.declared.record.Record.{Record}
use Rattle.memory_world.specs.Marks.{has, mark_of}
use Rattle.memory_world.specs.Records.{event_of}

abbrev pub seen_of : ℕ → ℕ → ℕ → ℕ → List Mark → List Record → Seen
seen_of now waits failed stops marks log = record {
  now = now;
  waits = waits;
  waits_failed = failed;
  stops = stops;
  faults = λ l. (mark_of marks l).faults;
  come = λ l. has marks l;
  is_open = λ l. (mark_of marks l).is_open;
  log = Some (map event_of log);
}
