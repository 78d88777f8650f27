use Rattle.std.proofs.Common.{◌≡◌, ◌<◌, length, sym, ap, ◌∙◌, arith}
use Rattle.std.specs.Map.{keys_of}
use Rattle.field_tree.specs.Keys.{walk_cmp}
use Rattle.dyn_config.specs.Walk.{is_less}
use Rattle.dyn_config.proofs.Loops.{not_empty, least_begins, least_then, least_else, same_there}
use Rattle.dyn_config.proofs.tables.first_key.Goals.{then-is_before, else-is_before}
use Rattle.dyn_config.proofs.tables.first_key.Goals as goal

pub loop-at-init : goal.loop-at-init
loop-at-init c =
    let some_ : 0 < length c.args.fields.now = not_empty c.args.fields.now c.is_empty.result c.is_empty.ensures c.if-is_empty.false in
    (some_, least_begins c.args.fields.now some_)

pub loop-at-preserved : goal.loop-at-preserved
loop-at-preserved c =
    let l = c.loop-at.invariant in
    let known = same_there (keys_of c.args.fields.now) c.loop-at.least l.1.0 c.key-in-loop-at.result.now l.1.1 c.key-in-loop-at.ensures in
    let test : is_less (walk_cmp c.key.result.now l.1.0) ≡ c.is_before.result = ap (λ k. is_less (walk_cmp c.key.result.now k)) known ∙ sym c.is_before.ensures in
    let within : c.loop-at.at < length c.args.fields.now = omega (arith, c.loop-at-test.true, c.len-at-end.ensures.len) in
    elim c.if-is_before.branch [
      | then-is_before w ↦ rw w.least-is (within, (c.key.result.now, c.key.ensures, least_then c.args.fields.now c.loop-at.at c.key.result.now l.1.0 _ c.key.ensures (test ∙ w.if-is_before.true) l.1.2))
      | else-is_before w ↦ rw w.least-is (l.0, (l.1.0, l.1.1, least_else c.args.fields.now c.loop-at.at c.key.result.now l.1.0 _ c.key.ensures (test ∙ w.if-is_before.false) l.1.2))
    ]
