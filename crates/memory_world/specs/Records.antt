-- What a record tells.
use Rattle.link_world.specs.Log.{Event, waited, wait_failed, clock, on, failed, closed, asked, came, dialled, gave, gave_end, took, noted}
use Rattle.memory_world.specs.declared.record.Record.{Record}
use Rattle.memory_world.specs.declared.record.Record.TheVariants as kept

abbrev pub event_of : Record → Event
event_of (kept.Waited until) = waited until
event_of (kept.WaitFailed until) = wait_failed until
event_of (kept.Clock now) = clock now
event_of (kept.Came link stamp entry peer) = on link stamp (came entry peer)
event_of (kept.Dialled link stamp host port) = on link stamp (dialled host port)
event_of (kept.Gave link stamp bytes) = on link stamp (gave bytes)
event_of (kept.GaveEnd link stamp) = on link stamp gave_end
event_of (kept.Took link stamp bytes) = on link stamp (took bytes)
event_of (kept.Failed link stamp) = failed link stamp
event_of (kept.Noted note stamp) = on note.link stamp (noted note)
event_of (kept.Closed link stamp) = closed link stamp
event_of (kept.Asked answer) = asked answer
