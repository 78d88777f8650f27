use Rattle.head_view.specs.Lines.{lines_at}
use Rattle.http_wire.specs.Framing.{encodings_of}
use Rattle.http_wire.proofs.Codings.{ends}
use Rattle.http_wire.proofs.framing.is_last_chunked.Goals as goal

pub returns-in-Some : goal.returns-in-Some
returns-in-Some c =
    let values = encodings_of (lines_at c.args.buf.now c.args.lines.now) in
    let last = c.in-Some.ensures in
    let element = c.last_element.ensures in
    ends values last.0 c.in-Some.value.now element.0 c.last_element.result.now c.is_chunked.result last.1 element.1 c.is_chunked.ensures
