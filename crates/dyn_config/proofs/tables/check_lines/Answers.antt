use Rattle.std.proofs.Common.{if◌then◌else◌, map, ◌∙◌, ap}
use Rattle.field_tree.specs.Keys.{walk_cmp}
use Rattle.dyn_config.specs.declared.found.Cause.TheVariants.{Twice}
use Rattle.dyn_config.specs.Walk.{here, sooner, same_key, has_twin, line_fault, line_stop}
use Rattle.dyn_config.specs.Ordered.{entry_view}
use Rattle.dyn_config.proofs.Loops.{on_entry}
use Rattle.dyn_config.proofs.Twins.{same_twins}
use Rattle.dyn_config.proofs.tables.check_lines.Goals as goal

pub loop-at-preserved : goal.loop-at-preserved
loop-at-preserved c =
    let key = c.key-key.result.now in
    let value = c.value.result.now in
    let sorted = map entry_view c.in_ok-ordered.ordered.items in
    let twice = c.has_twin-twice.ensures ∙ ap (λ l. has_twin same_key (map entry_view l) key) c.as_slice.ensures.value ∙ same_twins same_key c.args.fields.now sorted key c.in_ok-ordered.ensures.all in
    on_entry (sooner walk_cmp) (line_stop c.args.fields.now) c.args.fields.now c.loop-at.at key value _ c.loop-at.first c.in_ok-first.first c.key-key.ensures c.value.ensures c.loop-at.invariant
    (c.in_ok-first.ensures ∙ ap (λ f. sooner walk_cmp c.loop-at.first (key, f)) (c.name_fault-fault.ensures ∙ ap (λ b. if b then here Twice else line_fault (key, value)) twice))
