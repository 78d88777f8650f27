use Rattle.std.proofs.Common.{ap, ◌∙◌, Some, string_bytes}
use Rattle.regex.proofs.ReplaceLemmas.{IfOk-weaker}
use Rattle.regex.specs.Patterns.{find_all_str}
use Rattle.regex.specs.Strings.{IsWrittenBy, regex_pattern}
use Rattle.rule_eval.proofs.pattern.Pattern.replace.Goals as goal

pub returns : goal.returns
returns c =
    let p = c.args.self.now in
    let hay = c.args.hay.now in
    let named = rw c.capture_names.ensures at c.in_ok-template.ensures.read in
    let written = rw c.in_ok-matcher.ensures.pattern at c.replace_all.ensures.written in
    IfOk-weaker (λ out. IsWrittenBy c.in_ok-template.template hay (find_all_str (regex_pattern p.regex) hay) (string_bytes out)) _
    (λ out w. ap Some (w.read _ _ named) ∙ p.replaces c.args.template.now hay (λ k. (c.type_inv.hay k).fits)) _ written
