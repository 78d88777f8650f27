-- What contracts see of a rule.
use Rattle.std.specs.Prelude.{ℕ, List}
use Rattle.rule_lang.specs.declared.matcher.Matcher.{Matcher}
use Rattle.rule_lang.specs.declared.rule.Rule.{Rule, fold-Rule}
use Rattle.rule_lang.specs.declared.rule.Rule.TheOpen.{Rule-F}

-- a call with its key and its value, and rules of rules
pub data Tree : Type 0 where
  call : Matcher → List ℕ → List ℕ → Tree
  negation : Tree → Tree
  both : Tree → Tree → Tree
  either : Tree → Tree → Tree

abbrev pub tree_step : Rule-F Tree → Tree
tree_step (Rule-F.Leaf l) = call l.matcher l.key l.value
tree_step (Rule-F.Not r) = negation r
tree_step (Rule-F.And r s) = both r s
tree_step (Rule-F.Or r s) = either r s

abbrev pub tree_of : Rule → Tree
tree_of = fold-Rule Tree tree_step
