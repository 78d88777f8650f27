use Rattle.std.proofs.Common.{◌≡◌, ◌+◌, ◌<◌, drop, refl, sym, ap, ◌∙◌, arith}
use Rattle.std.specs.List.{prefix_len}
use Rattle.std.specs.Char.{is_ascii_digit}
use Rattle.field_tree.specs.Durations.{unit_of}
use Rattle.field_tree.proofs.Parts.{no_digits, no_unit, first_part_is}
use Rattle.field_tree.proofs.durations.first_part.Goals as goal

pub returns-then-digits-eq0 : goal.returns-then-digits-eq0
returns-then-digits-eq0 c millis h =
    no_digits c.args.text.now millis c.requires (sym c.leading_digits-digits.ensures.len ∙ c.if-digits-eq0.true) h

pub returns-in_err-unit : goal.returns-in_err-unit
returns-in_err-unit c =
    let found : unit_of (drop (prefix_len is_ascii_digit c.args.text.now) c.args.text.now) ≡ c.unit_at.result =
    ap (λ n. unit_of (drop n c.args.text.now)) (sym c.leading_digits-digits.ensures.len) ∙ ap unit_of (sym c.after.ensures) ∙ sym c.unit_at.ensures in
    rw c.from_residual.ensures (λ millis h. no_unit c.args.text.now millis c.requires (sym (found ∙ c.in_err-unit.was)) h)

pub returns : goal.returns
returns c =
    let found : unit_of (drop (prefix_len is_ascii_digit c.args.text.now) c.args.text.now) ≡ c.unit_at.result =
    ap (λ n. unit_of (drop n c.args.text.now)) (sym c.leading_digits-digits.ensures.len) ∙ ap unit_of (sym c.after.ensures) ∙ sym c.unit_at.ensures in
    let count : 0 < prefix_len is_ascii_digit c.args.text.now = omega (arith, c.leading_digits-digits.ensures.len, c.if-digits-eq0.false) in
    first_part_is c.args.text.now c.in_ok-unit.unit c.saturating_mul.result (c.leading_digits-digits.result.len + c.len.result) c.requires count (found ∙ c.in_ok-unit.was)
    (rw (c.saturating_mul.ensures, c.leading_digits-digits.ensures.value, c.leading_digits-digits.ensures.len, c.millis.ensures) refl)
    (rw (c.len.ensures, c.leading_digits-digits.ensures.len) refl)
