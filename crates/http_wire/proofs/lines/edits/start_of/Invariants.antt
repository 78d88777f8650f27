use Rattle.std.proofs.Common.{◌≡◌, take}
use Rattle.http_wire.specs.Laid.{spelled_total}
use Rattle.http_wire.proofs.lines.edits.start_of.Given as goal

abbrev pub invariant-loop-place : goal.invariant-loop-place
invariant-loop-place l = l.start ≡ spelled_total (take l.place l.spans)
