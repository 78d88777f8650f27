use Rattle.std.proofs.Common.{◌∷◌, [], refl, ap₂}
use Rattle.rule_lang.specs.declared.rule.Leaf.{Leaf}
use Rattle.rule_lang.specs.Trees.{call}
use Rattle.rule_lang.proofs.Valuing.{two_have, refused_of, leaf_of_checked}
use Rattle.rule_lang.proofs.call.with_two.Goals as goal

pub returns-clause-leaf : goal.returns-clause-leaf
returns-clause-leaf c =
    let leaf : Leaf = record { matcher = c.args.matcher; key = c.in_ok-key.key; value = c.in_ok-value.value } in
    leaf_of_checked c.args.text.now c.args.matcher (c.args.first ∷ c.args.second ∷ []) leaf c.checked.result c.requires.count refl
    (two_have c.args.text.now c.args.matcher c.args.first c.args.second c.in_ok-key.key c.in_ok-value.value c.requires.first c.requires.second c.in_ok-key.ensures c.in_ok-value.ensures)
    (ap₂ (call c.args.matcher) c.in_ok-key.ensures c.in_ok-value.ensures)
    c.checked.ensures.leaf c.checked.ensures.key c.checked.ensures.value

pub returns-clause-fault : goal.returns-clause-fault
returns-clause-fault c =
    refused_of c.args.text.now c.args.matcher c.args.matcher (c.args.first ∷ c.args.second ∷ []) c.in_ok-key.key c.in_ok-value.value c.args.first.start c.args.second.start c.checked.result refl
    (two_have c.args.text.now c.args.matcher c.args.first c.args.second c.in_ok-key.key c.in_ok-value.value c.requires.first c.requires.second c.in_ok-key.ensures c.in_ok-value.ensures)
    refl refl c.checked.ensures.fault
