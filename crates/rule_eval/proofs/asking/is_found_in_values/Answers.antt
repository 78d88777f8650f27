use Rattle.std.proofs.Common.{◌≡◌, IsTrue}
use Rattle.std.specs.List.{list_any}
use Rattle.head_view.specs.Lines.{values_of}
use Rattle.head_view.specs.Views.{view_lines}
use Rattle.rule_eval.specs.Patterns.{finds}
use Rattle.rule_eval.specs.Views.{pattern_text}
use Rattle.rule_eval.proofs.Found.{ok_weaker, any_says}
use Rattle.rule_eval.proofs.asking.is_found_in_values.Goals as goal

pub returns : goal.returns
returns c =
    let text = pattern_text c.args.pattern.now in
    let values = values_of c.args.key.now (view_lines c.args.view.now) in
    ok_weaker (λ r. r ≡ list_any (finds text) values) _
    (λ r e. any_says (finds text) (λ v. IsTrue (finds text v)) (λ v. ((λ h. h), (λ h. h))) values r e) _ c.any_finds.ensures
