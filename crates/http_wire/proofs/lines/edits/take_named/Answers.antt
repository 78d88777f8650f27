use Rattle.std.proofs.Common.{◌∙◌, arith}
use Rattle.http_wire.proofs.Edited.{step_out, step_on}
use Rattle.http_wire.proofs.lines.edits.take_named.Goals as goal

pub loop-at-preserved-then-is_named : goal.loop-at-preserved-then-is_named
loop-at-preserved-then-is_named c = (
  c.take_line.ensures.spelled,
  step_out c.args.name.now c.loop-at.text.items c.as_slice.result.now c.loop-at.spans.items c.loop-at.at c.index.result.now c.is_named.result _ (omega arith)
      c.index.ensures c.as_slice.ensures.value c.is_named.ensures c.if-is_named.true c.take_line.ensures.lines
      ∙ c.loop-at.invariant.1,
)

pub loop-at-preserved : goal.loop-at-preserved
loop-at-preserved c = (
  c.loop-at.invariant.0,
  step_on c.args.name.now c.loop-at.text.items c.as_slice.result.now c.loop-at.spans.items c.loop-at.at c.index.result.now c.is_named.result (omega arith)
      c.index.ensures c.as_slice.ensures.value c.is_named.ensures c.if-is_named.false
      ∙ c.loop-at.invariant.1,
)
