use Rattle.std.proofs.Common.{◌≡◌, length}
use Rattle.head_view.specs.Lines.{AreWithin, lines_at, values_of}
use Rattle.http_wire.proofs.fields.first_named.Given as goal

-- the lines that were passed over have another name
abbrev pub invariant-loop-line : goal.invariant-loop-line
invariant-loop-line l = AreWithin l.buf l.left × (values_of l.name (lines_at l.buf l.left) ≡ values_of l.name (lines_at l.buf l.lines))

abbrev pub decreases-loop-line : goal.decreases-loop-line
decreases-loop-line l = length l.left
