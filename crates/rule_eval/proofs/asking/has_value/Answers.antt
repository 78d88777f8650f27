use Rattle.std.proofs.Common.{◌≡◌, bytes_eq}
use Rattle.head_view.specs.Lines.{values_of}
use Rattle.head_view.specs.Views.{view_lines}
use Rattle.rule_eval.proofs.Found.{any_says, is_bytes}
use Rattle.rule_eval.proofs.asking.has_value.Goals as goal

pub returns : goal.returns
returns c =
    any_says (λ v. bytes_eq v c.args.value.now) (λ v. v ≡ c.args.value.now) (λ v. is_bytes v c.args.value.now)
    (values_of c.args.key.now (view_lines c.args.view.now)) c.any_is.result c.any_is.ensures
