use Rattle.std.proofs.Common.{◌≡◌, ◌+◌, ◌*◌, ◌<◌, length, get_or, drop, arith, sym, ◌∙◌, ap}
use Rattle.std.proofs.lemmas.List.{drop_all}
use Rattle.std.specs.Char.{digit_value}
use Rattle.std.specs.Str.Parse.{digits_value_after}
use Rattle.px_base.proofs.Digits.{value_more, digits_more, value_grows}
use Rattle.px_base.proofs.decimal.read_decimal.Goals as goal

pub returns-in_err-value : goal.returns-in_err-value
returns-in_err-value c =
    let text = c.args.text.now in
    let i = c.loop-byte.byte-index in
    let next = c.loop-byte.value * 10 + digit_value (get_or text i 0) in
    let within : i < length text = omega arith in
    rw c.from_residual.ensures (λ d.
    let digit = (digits_more text i within (c.loop-byte.invariant.2 d.numeral.1)).0 in
    let value = c.loop-byte.invariant.1 ∙ value_more text i c.loop-byte.value within in
    c.in_err-value.ensures (digit, omega (arith, d.fits, value, value_grows (drop (i + 1) text) next)))

pub returns : goal.returns
returns c =
    let text = c.args.text.now in
    let none = drop_all c.loop-byte.byte-index text (omega arith) in
    let value : c.loop-byte.value ≡ digits_value_after 10 0 text = sym (c.loop-byte.invariant.1 ∙ ap (digits_value_after 10 c.loop-byte.value) none) in (
      record {
        numeral = (grind arith, c.loop-byte.invariant.3 (rw none tt));
        short = omega arith;
        fits = omega (arith, value, c.loop-byte.invariant.0);
      },
      value,
    )
