-- What a contract sees of a pattern.
use Rattle.std.specs.Prelude.{ℕ, List}
use Rattle.regex.specs.Strings.{regex_source}
use Rattle.rule_eval.specs.declared.pattern.Pattern.{Pattern}

-- the text of a pattern
abbrev pub pattern_text : Pattern → List ℕ
pattern_text p = regex_source p.regex
