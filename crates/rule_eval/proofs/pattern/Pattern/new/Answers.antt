use Rattle.std.proofs.Common.{rules}
use Rattle.rule_eval.proofs.Reading.{finds_as_built, replaces_as_built}
use Rattle.rule_eval.specs.Patterns.{IsBuiltFrom}
use Rattle.regex.specs.Strings.{regex_source}
use Rattle.rule_eval.proofs.pattern.Pattern.new.Goals as goal

pub invariant_of-result : goal.invariant_of-result
invariant_of-result c =
    let r = c.in_ok-regex.regex in
    let b : IsBuiltFrom (regex_source r) r = search rules in
    record { finds = finds_as_built (regex_source r) r b; replaces = replaces_as_built (regex_source r) r b }
