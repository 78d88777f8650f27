use Rattle.std.proofs.Common.{rules, ◌≤◌}
use Rattle.std.proofs.lemmas.List.Elements.{All-set}
use Rattle.mio_world.specs.declared.slot.Slot.{Slot}
use Rattle.mio_world.proofs.Places.{at_within, open_here, open_means_at, read_put, read_within, reads_here}
use Rattle.mio_world.proofs.table.read_at.Goals as goal

pub index_mut-slot-requires : goal.index_mut-slot-requires
index_mut-slot-requires c = let within = at_within c.args.slots.now.items c.args.waits c.place.result c.args.link c.requires c.place.ensures in search (rules, within)

pub returns-clause-means : goal.returns-clause-means
returns-clause-means c = open_means_at c.args.slots.now.items c.args.waits c.args.link _ (open_here c.args.slots.now.items c.args.waits c.place.result c.args.link c.index_mut-slot.result.now c.requires c.place.ensures c.index_mut-slot.ensures.value) c.did_read.ensures.small

pub returns-clause-put : goal.returns-clause-put
returns-clause-put c = read_put c.args.slots.now.items c.args.waits c.place.result c.args.link c.index_mut-slot.result.now c.did_read.new.self c.args.answer (open_here c.args.slots.now.items c.args.waits c.place.result c.args.link c.index_mut-slot.result.now c.requires c.place.ensures c.index_mut-slot.ensures.value) c.place.ensures (at_within c.args.slots.now.items c.args.waits c.place.result c.args.link c.requires c.place.ensures) c.did_read.ensures.new

pub returns-clause-within : goal.returns-clause-within
returns-clause-within c = λ all. All-set (λ (s : Slot). s.asked.wait ≤ c.args.waits) c.args.slots.now.items c.place.result _ (read_within c.args.waits _ _ c.args.answer c.did_read.ensures.new) all

pub returns-clause-reads : goal.returns-clause-reads
returns-clause-reads c = reads_here c.args.slots.now.items c.args.waits c.place.result c.args.link c.index_mut-slot.result.now c.did_read.new.self c.args.answer (open_here c.args.slots.now.items c.args.waits c.place.result c.args.link c.index_mut-slot.result.now c.requires c.place.ensures c.index_mut-slot.ensures.value) c.place.ensures (at_within c.args.slots.now.items c.args.waits c.place.result c.args.link c.requires c.place.ensures) c.did_read.ensures.new
