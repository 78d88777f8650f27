use Rattle.std.proofs.Common.{◌≡◌, take}
use Rattle.middleware_stage.specs.Effects.{with_headers}
use Rattle.middleware_stage.proofs.headers.change_request.Given as goal

abbrev pub invariant-loop-change : goal.invariant-loop-change
invariant-loop-change l = l.changed ≡ with_headers (take l.change-index l.change-items) l.initial.changed
