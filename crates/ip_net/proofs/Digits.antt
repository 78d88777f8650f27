-- The decimal after the slash, a digit at a time.
use Rattle.std.proofs.Common.{◌≡◌, ℕ, ◌+◌, ◌-◌, ◌*◌, ◌<◌, ◌≤◌, List, take, get_or, length, arith, sym, lit≤, true, false}
use Rattle.std.proofs.lemmas.Bool.Decides.{nat_tests}
use Rattle.std.proofs.lemmas.Int.Digits.{digits_more, digits_value_more}
use Rattle.std.proofs.lemmas.Str.Parse.{digit_at, digits_value-take-le}
use Rattle.std.specs.Char.{digit_value, is_ascii_digit}
use Rattle.std.specs.Int.{IsInRange}
use Rattle.std.specs.Str.Parse.{AllDigits, digits_value}
use Rattle.std.specs.Net.Grammar.{IsNumber}

pub digit_is : (c : ℕ) → 48 ≤ c → c ≤ 57 → digit_value c ≡ c - 48
digit_is c low high = grind (arith, nat_tests)

-- one more digit
pub more_digits : (s : List ℕ) (i : ℕ) → i < length s → AllDigits 10 (take i s) → IsInRange 48 57 (get_or s i 0) → AllDigits 10 (take (i + 1) s)
more_digits s i inside before here =
    let is = digit_is (get_or s i 0) here.0 here.1 in
    digits_more 10 s i inside before (omega arith)

pub more_value : (s : List ℕ) (i v : ℕ) → i < length s → v ≡ digits_value 10 (take i s) → IsInRange 48 57 (get_or s i 0)
    → v * 10 + (get_or s i 0 - 48) ≡ digits_value 10 (take (i + 1) s)
more_value s i v inside is here =
    let digit = digit_is (get_or s i 0) here.0 here.1 in
    rw (digits_value_more 10 s i inside, ← is, digit)

-- a byte that is no digit
pub not_number : (s : List ℕ) (i n : ℕ) → i < length s → ¬ (IsInRange 48 57 (get_or s i 0)) → ¬ (IsNumber 10 s n)
not_number s i n inside other h = other (digit_at s i h.0.1 inside)

-- the digits so far are too large already
pub too_large : (s : List ℕ) (i v n : ℕ) → v ≡ digits_value 10 (take i s) → 255 < v → n < 256 → ¬ (IsNumber 10 s n)
too_large s i v n is over fits h =
    let grows = digits_value-take-le 10 s i (lit≤ tt) in
    let value : digits_value 10 s ≡ n = h.1 in
    omega arith

-- what the test of a digit says
pub in_range : (c : ℕ) → is_ascii_digit c ≡ true → IsInRange 48 57 c
in_range c h = grind (arith, nat_tests)

pub out_of_range : (c : ℕ) → is_ascii_digit c ≡ false → ¬ (IsInRange 48 57 c)
out_of_range c h (low, high) = grind (arith, nat_tests)
