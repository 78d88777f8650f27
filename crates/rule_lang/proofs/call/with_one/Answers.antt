use Rattle.std.proofs.Common.{◌∷◌, [], refl, ap, ◌∙◌}
use Rattle.rule_lang.specs.Values.{one_tree}
use Rattle.rule_lang.proofs.Valuing.{one_has, refused_of, leaf_of_checked}
use Rattle.rule_lang.proofs.call.with_one.Goals as goal

pub returns-clause-leaf : goal.returns-clause-leaf
returns-clause-leaf c =
    leaf_of_checked c.args.text.now c.args.matcher (c.args.token ∷ []) c.one_leaf.result c.checked.result c.requires.count c.one_leaf.ensures.matcher
    (one_has c.args.text.now c.args.matcher c.args.token c.one_leaf.result c.in_ok-value.value c.requires.token c.in_ok-value.ensures c.one_leaf.ensures.tree)
    (c.one_leaf.ensures.tree ∙ ap (one_tree c.args.matcher) c.in_ok-value.ensures)
    c.checked.ensures.leaf c.checked.ensures.key c.checked.ensures.value

pub returns-clause-fault : goal.returns-clause-fault
returns-clause-fault c =
    refused_of c.args.text.now c.args.matcher c.one_leaf.result.matcher (c.args.token ∷ []) c.one_leaf.result.key c.one_leaf.result.value c.args.token.start c.args.token.start c.checked.result c.one_leaf.ensures.matcher
    (one_has c.args.text.now c.args.matcher c.args.token c.one_leaf.result c.in_ok-value.value c.requires.token c.in_ok-value.ensures c.one_leaf.ensures.tree)
    refl refl c.checked.ensures.fault
