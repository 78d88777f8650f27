use Rattle.std.proofs.Common.{◌≡◌, ◌<◌, ◌^◌, drop}
use Rattle.std.specs.Str.Parse.{AllDigits, digits_value, digits_value_after}
use Rattle.px_base.proofs.decimal.read_decimal.Given as goal

-- what is left decides, after the value so far
abbrev pub invariant-loop-byte : goal.invariant-loop-byte
invariant-loop-byte l =
    (l.value < 2 ^ 64) × (digits_value 10 l.text ≡ digits_value_after 10 l.value (drop l.byte-index l.text))
    × (AllDigits 10 l.text → AllDigits 10 (drop l.byte-index l.text)) × (AllDigits 10 (drop l.byte-index l.text) → AllDigits 10 l.text)
