use Rattle.std.proofs.Common.{◌≡◌, ◌++◌, ◌-◌, length, take, drop}
use Rattle.head_view.specs.Lines.{lines_at}
use Rattle.http_wire.specs.Edits.{without}
use Rattle.http_wire.specs.Lines.{AreSpelled}
use Rattle.http_wire.proofs.lines.edits.take_named.Given as goal

-- the lines from here on without that name are what they were from the beginning on
abbrev pub invariant-loop-at : goal.invariant-loop-at
invariant-loop-at l =
    AreSpelled l.text.items l.spans.items
    × (take l.at (lines_at l.text.items l.spans.items) ++ without l.name (drop l.at (lines_at l.text.items l.spans.items))
    ≡ take l.from (lines_at l.initial.text.items l.initial.spans.items) ++ without l.name (drop l.from (lines_at l.initial.text.items l.initial.spans.items)))

abbrev pub decreases-loop-at : goal.decreases-loop-at
decreases-loop-at l = length l.spans.items - l.at
