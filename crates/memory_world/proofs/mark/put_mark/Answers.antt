use Rattle.std.proofs.Common.{rules, refl}
use Rattle.memory_world.proofs.MarkLemmas.{first_within, put_set, count_set}
use Rattle.memory_world.proofs.mark.put_mark.Goals as goal

pub index_mut-requires : goal.index_mut-requires
index_mut-requires c = let within = first_within c.args.marks.now.items c.args.mark.link c.args.at c.requires in search (rules, within)

pub returns-clause-put : goal.returns-clause-put
returns-clause-put c = put_set c.args.marks.now.items c.args.mark.link c.args.at c.args.mark c.requires refl

pub returns-clause-count : goal.returns-clause-count
returns-clause-count c = count_set c.args.marks.now.items c.args.mark.link c.args.at c.args.mark c.requires
