use Rattle.std.proofs.Common.{arith}
use Rattle.field_tree.proofs.Digits.{digits_read}
use Rattle.field_tree.proofs.texts.read_digits.Goals as goal

pub returns : goal.returns
returns c = digits_read c.args.text.now c.read_decimal.result (omega (arith, c.if-text-gt-DIGITS.false)) c.read_decimal.ensures
