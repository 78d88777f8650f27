use Rattle.std.proofs.Common.{sym, ap, ◌∙◌, arith}
use Rattle.std.specs.Map.{keys_of}
use Rattle.dyn_config.specs.Walk.{same_key}
use Rattle.dyn_config.proofs.Loops.{not_under, is_under, same_there}
use Rattle.dyn_config.proofs.tables.next_under.Goals as goal

pub returns-then-fold_equal : goal.returns-then-fold_equal
returns-then-fold_equal c = record {
  within = omega arith;
  room = omega arith;
  found = λ name value k v. is_under c.args.key.now c.args.fields.now c.loop-at.at name value _ k v c.loop-at.invariant
      (ap (λ n. same_key c.args.key.now n) (same_there (keys_of c.args.fields.now) c.loop-at.at name c.key.result.now k c.key.ensures) ∙ sym c.fold_equal.ensures ∙ c.if-fold_equal.true);
}

pub loop-at-preserved : goal.loop-at-preserved
loop-at-preserved c =
    not_under c.args.key.now c.args.fields.now c.loop-at.at c.key.result.now _ c.key.ensures c.loop-at.invariant (sym c.fold_equal.ensures ∙ c.if-fold_equal.false)
