use Rattle.std.proofs.Common.{false, true, sym, ◌∙◌, arith}
use Rattle.std.proofs.lemmas.Bool.{false≢true}
use Rattle.ip_net.proofs.Digits.{more_digits, more_value, not_number, too_large, in_range, out_of_range}
use Rattle.ip_net.proofs.prefix.read_prefix.Goals as goal

pub returns-then-not-is_ascii_digit : goal.returns-then-not-is_ascii_digit
returns-then-not-is_ascii_digit c = λ value fits.
    not_number c.args.digits.now c.loop-byte.byte-index value c.loop-byte-test.true (out_of_range _ (sym c.is_ascii_digit.ensures.value ∙ c.if-not-is_ascii_digit.true))

pub returns-then-value-gt255 : goal.returns-then-value-gt255
returns-then-value-gt255 c = λ value fits.
    let here = in_range _ (sym c.is_ascii_digit.ensures.value ∙ c.if-not-is_ascii_digit.false) in
    let is = more_value c.args.digits.now c.loop-byte.byte-index c.loop-byte.value c.loop-byte-test.true c.loop-byte.invariant.value here in
    too_large c.args.digits.now _ _ value is (rw (← c.from.ensures) c.if-value-gt255.true) fits

pub loop-byte-preserved : goal.loop-byte-preserved
loop-byte-preserved c =
    let here = in_range _ (sym c.is_ascii_digit.ensures.value ∙ c.if-not-is_ascii_digit.false) in
    record {
      digits = more_digits c.args.digits.now c.loop-byte.byte-index c.loop-byte-test.true c.loop-byte.invariant.digits here;
      value = rw c.from.ensures (more_value c.args.digits.now c.loop-byte.byte-index c.loop-byte.value c.loop-byte-test.true c.loop-byte.invariant.value here);
      small = c.if-value-gt255.false;
    }
