use Rattle.std.proofs.Common.{sym}
use Rattle.field_tree.proofs.Parts.{digits_more, value_more}
use Rattle.field_tree.proofs.durations.leading_digits.Goals as goal

pub loop-len-preserved : goal.loop-len-preserved
loop-len-preserved c = (
  digits_more c.args.text.now c.loop-len.len c.loop-len-test.true (sym c.if-not-is_ascii_digit.ensures.value) c.loop-len.invariant.0,
  value_more c.args.text.now c.loop-len.len c.loop-len.value c.with_digit-value.result c.loop-len-test.true c.with_digit-value.ensures c.loop-len.invariant.1,
)
