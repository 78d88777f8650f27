use Rattle.std.proofs.Common.{◌≡◌, take}
use Rattle.std.specs.List.{filter}
use Rattle.head_view.specs.Lines.{lines_at}
use Rattle.http_wire.specs.Requests.{goes_to_backend}
use Rattle.http_wire.proofs.requests.client_lines.Given as goal

abbrev pub invariant-loop-line : goal.invariant-loop-line
invariant-loop-line l = l.kept ≡ filter (goes_to_backend (lines_at l.buf l.lines)) (lines_at l.buf (take l.line-index l.lines))
