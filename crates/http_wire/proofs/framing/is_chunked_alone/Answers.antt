use Rattle.head_view.specs.Lines.{lines_at}
use Rattle.http_wire.specs.Framing.{encodings_of}
use Rattle.http_wire.proofs.Codings.{not_alone, more_codings, one_value}
use Rattle.http_wire.proofs.framing.is_chunked_alone.Goals as goal

pub returns-in_default : goal.returns-in_default
returns-in_default c =
    let values = encodings_of (lines_at c.args.buf.now c.args.lines.now) in
    not_alone values (λ e. one_value values e c.in_default.ensures)

pub returns-in-Some-after_comma : goal.returns-in-Some-after_comma
returns-in-Some-after_comma c =
    let values = encodings_of (lines_at c.args.buf.now c.args.lines.now) in
    let cut = c.in-Some-after_comma.ensures in
    not_alone values (more_codings values c.in-Some.value.now cut.0 c.in-Some-after_comma.field-0.now c.in-Some.ensures cut.1)
