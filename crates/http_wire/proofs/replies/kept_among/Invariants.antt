use Rattle.std.proofs.Common.{◌≡◌, take}
use Rattle.std.specs.List.{filter}
use Rattle.head_view.specs.Lines.{lines_at}
use Rattle.http_wire.specs.Replies.{is_kept}
use Rattle.http_wire.proofs.replies.kept_among.Given as goal

abbrev pub invariant-loop-line : goal.invariant-loop-line
invariant-loop-line l = l.kept ≡ filter (is_kept l.tells (lines_at l.buf l.lines)) (lines_at l.buf (take l.line-index l.lines))
