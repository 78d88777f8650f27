use Rattle.std.proofs.Common.{◌≡◌, ◌+◌, length}
use Rattle.head_view.specs.Lines.{AreWithin, lines_at}
use Rattle.http_wire.proofs.Edited.{place}
use Rattle.http_wire.proofs.lines.edits.place_of.Given as goal

-- the lines that were passed over have another name
abbrev pub invariant-loop-line : goal.invariant-loop-line
invariant-loop-line l =
    AreWithin l.text l.left
    × (place l.name (lines_at l.text l.spans) ≡ l.at + place l.name (lines_at l.text l.left))
    × (l.at + length l.left ≡ length l.spans)

abbrev pub decreases-loop-line : goal.decreases-loop-line
decreases-loop-line l = length l.left
