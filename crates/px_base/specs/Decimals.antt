-- Decimal texts of numbers below 2 ^ 64.
use Rattle.std.specs.Prelude.{◌≡◌, ℕ, ◌^◌, ◌<◌, ◌≤◌, List, length, slice_index}
use Rattle.std.specs.Str.Parse.{IsNumeral, digits_value}

-- 1 to 20 digits, and nothing else, whose value is below 2 ^ 64
pub record IsDecimal (text : List ℕ) : Type 0 where
  pub numeral : IsNumeral 10 text
  pub short : length text ≤ 20
  pub fits : digits_value 10 text < 2 ^ 64

-- the text is the decimal of n that has no leading zero
pub record IsSpellingOf (n : ℕ) (text : List ℕ) : Type 0 where
  pub decimal : IsDecimal text
  pub value : digits_value 10 text ≡ n
  pub plain : slice_index text 0 ≡ 48 → length text ≡ 1
