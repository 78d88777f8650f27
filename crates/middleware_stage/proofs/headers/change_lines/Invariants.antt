use Rattle.std.proofs.Common.{◌≡◌, take}
use Rattle.middleware_stage.specs.Effects.{with_lines}
use Rattle.middleware_stage.proofs.headers.change_lines.Given as goal

abbrev pub invariant-loop-change : goal.invariant-loop-change
invariant-loop-change l = l.lines ≡ with_lines (take l.change-index l.change-items) l.initial.lines
