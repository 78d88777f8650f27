use Rattle.std.proofs.Common.{arith, refl}
use Rattle.http_wire.proofs.Spelled.{spelled_there}
use Rattle.http_wire.proofs.lines.spelled_at.Goals as goal

pub returns-then-is_line_end : goal.returns-then-is_line_end
returns-then-is_line_end c =
    spelled_there c.args.buf.now c.args.line.now c.requires (omega arith) (omega arith) (c.if-is_gap.ensures.0 refl) (c.if-is_line_end.ensures.0 refl)
