-- What a contract sees of a compiled rule.
use Rattle.rule_lang.specs.Trees.{Tree}
use Rattle.rule_eval.specs.Checks.{rule_of}
use Rattle.rule_eval.specs.declared.compiled.Compiled.{Compiled}

-- the rule that it is of
abbrev pub compiled_rule : Compiled → Tree
compiled_rule c = rule_of c.check
