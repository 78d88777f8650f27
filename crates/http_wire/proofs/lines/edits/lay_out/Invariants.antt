use Rattle.std.proofs.Common.{◌≡◌, ◌++◌, take, drop}
use Rattle.http_wire.specs.Laid.{laid, spelled_total}
use Rattle.http_wire.proofs.lines.edits.lay_out.Given as goal

abbrev pub invariant-loop-at : goal.invariant-loop-at
invariant-loop-at l =
    (l.spans.items ≡ laid 0 (take l.at l.initial.spans.items) ++ drop l.at l.initial.spans.items)
    × (l.start ≡ spelled_total (take l.at l.initial.spans.items))
