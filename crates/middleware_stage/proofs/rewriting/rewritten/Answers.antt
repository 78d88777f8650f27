use Rattle.middleware_stage.specs.Views.{regex_text, replacement_text}
use Rattle.middleware_stage.proofs.Rewrites.{no_text, found_there}
use Rattle.middleware_stage.proofs.rewriting.rewritten.Goals as goal

pub returns-in_default : goal.returns-in_default
returns-in_default c =
    no_text (regex_text c.args.rewrite.now) (replacement_text c.args.rewrite.now) c.args.text.now c.in_default.ensures.cases.0

pub returns : goal.returns
returns c =
    let text = c.in-Ok.ensures.cases in
    let found = rw text.0 at c.in_ok-is_found.ensures in
    let replaced = rw (text.0, c.as_str.ensures.value) at c.in_ok-replaced.ensures in
    found_there (regex_text c.args.rewrite.now) (replacement_text c.args.rewrite.now) c.args.text.now _ c.in_ok-is_found.field-0 text.1 found
    c.if-not-branch.false replaced
