use Rattle.std.proofs.Common.{◌≡◌}
use Rattle.rule_eval.specs.Patterns.{is_found_in}
use Rattle.rule_eval.specs.Views.{pattern_text}
use Rattle.rule_eval.proofs.Found.{ok_weaker}
use Rattle.rule_eval.proofs.Texts.{finds_in_text, finds_in_no_text}
use Rattle.rule_eval.proofs.asking.finds.Goals as goal

pub returns-in-Ok : goal.returns-in-Ok
returns-in-Ok c =
    let text = c.in-Ok.ensures.cases in
    let found = rw text.0 at c.is_found.ensures in
    ok_weaker (λ r. r ≡ is_found_in (pattern_text c.args.pattern.now) c.args.bytes.now) _
    (λ r e. finds_in_text (pattern_text c.args.pattern.now) c.args.bytes.now r text.1 e) _ found

pub returns-in-Err : goal.returns-in-Err
returns-in-Err c = finds_in_no_text (pattern_text c.args.pattern.now) c.args.bytes.now c.in-Err.ensures.cases.0
