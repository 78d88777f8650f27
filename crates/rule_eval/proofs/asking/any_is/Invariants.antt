use Rattle.std.proofs.Common.{◌≡◌, bytes_eq}
use Rattle.std.specs.List.{list_any}
use Rattle.head_view.specs.Lines.{values_of}
use Rattle.head_view.specs.Views.{view_lines, fields_left}
use Rattle.rule_eval.proofs.asking.any_is.Given as goal

-- a value is this one exactly where one that is left is
abbrev pub invariant-values : goal.invariant-values
invariant-values l = list_any (λ v. bytes_eq v l.fn.value) (values_of l.fn.key (view_lines l.fn.view)) ≡ list_any (λ v. bytes_eq v l.fn.value) (fields_left l.found-iterator)
