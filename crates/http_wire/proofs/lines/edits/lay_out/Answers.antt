use Rattle.std.proofs.Common.{ap, ap₂, ◌∙◌, ◌+◌, arith, set}
use Rattle.http_wire.specs.Lines.{span_at}
use Rattle.http_wire.proofs.Laid.{laid_more, room_for}
use Rattle.http_wire.proofs.lines.edits.lay_out.Goals as goal

pub span_of-requires : goal.span_of-requires
span_of-requires c =
    let room = room_for c.args.spans.now.items c.loop-at.spans.items c.loop-at.at c.loop-at.start c.args.all c.index.result.now (omega arith)
    c.loop-at.invariant.0 c.loop-at.invariant.1 c.index.ensures c.requires in
    omega (arith, room, c.span_len.ensures, c.span_len-in-loop-at.ensures)

pub overflow_add-start : goal.overflow_add-start
overflow_add-start c =
    let room = room_for c.args.spans.now.items c.loop-at.spans.items c.loop-at.at c.loop-at.start c.args.all c.index.result.now (omega arith)
    c.loop-at.invariant.0 c.loop-at.invariant.1 c.index.ensures c.requires in
    omega (arith, room, c.spelled_len-start.ensures)

pub loop-at-preserved : goal.loop-at-preserved
loop-at-preserved c =
    let put = ap (set c.loop-at.spans.items c.loop-at.at) (c.span_of.ensures ∙ ap₂ (span_at c.loop-at.start) c.span_len.ensures c.span_len-in-loop-at.ensures) in
    let more = laid_more c.args.spans.now.items c.loop-at.spans.items _ c.loop-at.at c.loop-at.start c.index.result.now (omega arith)
    c.loop-at.invariant.0 c.loop-at.invariant.1 c.index.ensures put in
    (more.0, ap (λ n. c.loop-at.start + n) c.spelled_len-start.ensures ∙ more.1)
