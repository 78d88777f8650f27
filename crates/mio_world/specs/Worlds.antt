-- What is meant of a world of sockets.
use Rattle.link_world.specs.Seen.{Seen}
use Rattle.link_world.specs.Lately.{Lately}
use Rattle.mio_world.specs.Slots.{seen_of, lately_of}
use Rattle.mio_world.specs.declared.world.MioWorld.{MioWorld}

abbrev pub seen_in : {R K A B : Type 0} → MioWorld R K A B → Seen
seen_in w = seen_of w.clock w.waits_failed w.stops w.table

abbrev pub lately_in : {R K A B : Type 0} → MioWorld R K A B → Lately
lately_in w = lately_of w.clocked w.no_more w.table
