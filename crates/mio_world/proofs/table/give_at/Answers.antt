use Rattle.std.proofs.Common.{rules, refl}
use Rattle.mio_world.proofs.Places.{given_from}
use Rattle.mio_world.proofs.table.give_at.Goals as goal

pub returns-clause-given : goal.returns-clause-given
returns-clause-given c = given_from c.args.slots.now.items c.args.waits c.args.at c.in-Some.link c.index-slot.result.now _ (search rules) (search rules) (search rules) (search rules) (search rules) refl refl refl refl refl
