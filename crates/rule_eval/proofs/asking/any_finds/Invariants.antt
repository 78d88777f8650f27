use Rattle.std.proofs.Common.{◌≡◌}
use Rattle.std.specs.List.{list_any}
use Rattle.head_view.specs.Lines.{values_of}
use Rattle.head_view.specs.Views.{view_lines, fields_left}
use Rattle.rule_eval.specs.Patterns.{finds}
use Rattle.rule_eval.specs.Views.{pattern_text}
use Rattle.rule_eval.proofs.asking.any_finds.Given as goal

-- the pattern is found in a value exactly where it is in one that is left
abbrev pub invariant-values : goal.invariant-values
invariant-values l = list_any (finds (pattern_text l.fn.pattern)) (values_of l.fn.key (view_lines l.fn.view)) ≡ list_any (finds (pattern_text l.fn.pattern)) (fields_left l.value-iterator)
