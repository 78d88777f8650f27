use Rattle.std.proofs.Common.{arith}
use Rattle.dyn_config.specs.declared.ordered.EntryRef.{EntryRef}
use Rattle.dyn_config.proofs.Twins.{one_more, all_there}
use Rattle.dyn_config.proofs.ordered.entries_of.Goals as goal

pub loop-at-preserved : goal.loop-at-preserved
loop-at-preserved c =
    let new : EntryRef = record { key = c.key-key.result; value = c.value-value.result } in
    one_more c.args.fields.now c.loop-at.at new c.loop-at.entries.items c.push.new.self.items c.key-key.ensures c.value-value.ensures c.in_ok-push.ensures.items c.loop-at.invariant

pub returns-clause-entries : goal.returns-clause-entries
returns-clause-entries c = all_there c.args.fields.now c.loop-at.at c.loop-at.entries.items (omega arith) c.loop-at.invariant
