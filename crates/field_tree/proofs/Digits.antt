-- Up to 19 digits are the decimal of a number below 2 ^ 64.
use Rattle.std.proofs.Common.{◌≡◌, ℕ, ◌<◌, ◌≤◌, Bool, true, false, ◌&&◌, nat_le, nat_lt, if◌then◌else◌, List, [], ◌∷◌, length, Option, Some, None, refl, ap, arith}
use Rattle.std.specs.Option.{SomeIff}
use Rattle.std.specs.List.{list_all}
use Rattle.std.specs.Char.{digit_value}
use Rattle.std.specs.Str.Parse.{digits_value, AllDigits}
use Rattle.std.proofs.lemmas.Bool.{ltb-true, lt-ltb}
use Rattle.std.proofs.lemmas.Bool.Decides.{nat_tests}
use Rattle.std.proofs.lemmas.Int.Digits.{digits_value-lt}
use Rattle.std.proofs.Math.Nat.{pow-le-pow_right}
use Rattle.px_base.specs.Decimals.{IsDecimal}
use Rattle.field_tree.specs.Texts.{are_digits, digits_of}

abbrev is_digit : ℕ → Bool
is_digit byte = nat_lt (digit_value byte) 10

pub and_parts : (a b : Bool) → (a && b) ≡ true → (a ≡ true) × (b ≡ true)
and_parts true true e = (refl, refl)
and_parts true false e = (refl, e)
and_parts false b e = absurd (cc)

all_digits : (text : List ℕ) → list_all is_digit text ≡ true → AllDigits 10 text
all_digits [] e = tt
all_digits (byte ∷ text) e =
    let both = and_parts (is_digit byte) (list_all is_digit text) e in
    (ltb-true (digit_value byte) 10 both.0, all_digits text both.1)

digits_all : (text : List ℕ) → AllDigits 10 text → list_all is_digit text ≡ true
digits_all [] h = refl
digits_all (byte ∷ text) h = rw (lt-ltb (digit_value byte) 10 h.0) (digits_all text h.1)

within : (n : ℕ) → (nat_le 1 n && nat_le n 19) ≡ true → (0 < n) × (n ≤ 19)
within n e =
    let both = and_parts (nat_le 1 n) (nat_le n 19) e in
    let first = both.0 in
    let second = both.1 in
    let low : 0 < n = grind (arith, nat_tests) in
    let high : n ≤ 19 = grind (arith, nat_tests) in
    (low, high)

from_within : (n : ℕ) → 0 < n → n ≤ 19 → (nat_le 1 n && nat_le n 19) ≡ true
from_within n low high = grind (arith, nat_tests)

is_decimal : (text : List ℕ) → are_digits text ≡ true → IsDecimal text
is_decimal text e =
    let both = and_parts (nat_le 1 (length text) && nat_le (length text) 19) (list_all is_digit text) e in
    let size = within (length text) both.0 in
    let digits = all_digits text both.1 in
    record {
      numeral = (size.0, digits);
      short = omega (arith, size.1);
      fits = omega (arith, digits_value-lt 10 text digits, pow-le-pow_right {n = 10} (omega arith) {i = length text} {j = 19} size.1);
    }

are_digits-decimal : (text : List ℕ) → length text ≤ 19 → IsDecimal text → are_digits text ≡ true
are_digits-decimal text short h =
    rw (from_within (length text) h.numeral.0 short) (digits_all text h.numeral.1)

by_test : (text : List ℕ) (test : Bool) (r : Option ℕ) → are_digits text ≡ test → length text ≤ 19 → SomeIff r (IsDecimal text) (digits_value 10 text) → r ≡ (if test then Some (digits_value 10 text) else None)
by_test text true None e short s = absurd (s (is_decimal text e))
by_test text true (Some n) e short s = ap Some s.1
by_test text false None e short s = refl
by_test text false (Some n) e short s = let yes_ : are_digits text ≡ true = are_digits-decimal text short s.0 in absurd (cc)

pub digits_read : (text : List ℕ) (r : Option ℕ) → length text ≤ 19 → SomeIff r (IsDecimal text) (digits_value 10 text) → r ≡ digits_of text
digits_read text r short s = by_test text (are_digits text) r refl short s
