use Rattle.std.proofs.Common.{◌∙◌, take}
use Rattle.std.proofs.lemmas.Result.{IfOk-weaker}
use Rattle.httparse.specs.Spans.{span_bytes}
use Rattle.head_view.specs.Lines.{lines_at}
use Rattle.route_cmd.specs.Output.{faulty}
use Rattle.route_cmd.proofs.Parted.{fault_of, parts_of}
use Rattle.route_cmd.proofs.heads.answer_head.Goals as goal

pub returns-in-Err-Head-clause-told : goal.returns-in-Err-Head-clause-told
returns-in-Err-Head-clause-told c =
    let s = c.args.spans.now in
    let buf = c.args.input.now in
    let room = c.args.room.now in
    let told = rw c.in-Err-Head.field-0-is at c.in-Err-Head.ensures in
    let said = rw c.in-Err-Head.field-0-is at c.fault_line.ensures in
    IfOk-weaker c.make_answer.result _ _ (λ a e h at.
    faulty c.in-Err-Head.fault (fault_of h (span_bytes buf s.method) (span_bytes buf s.target) s.version (lines_at buf (take s.lines room)) c.in-Err-Head.fault (parts_of buf room s h at) told)
    e.0 (e.1 ∙ said)) c.make_answer.ensures
