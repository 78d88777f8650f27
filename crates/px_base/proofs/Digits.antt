-- Decimal texts, read from the front and written from the end.
use Rattle.std.proofs.Common.{◌≡◌, ℕ, ◌+◌, ◌*◌, ◌/◌, ◌%◌, ◌^◌, ◌<◌, ◌≤◌, List, [], ◌∷◌, ◌++◌, length, get_or, set, drop, sym, ap, ◌∙◌, arith, inl, inr, eq-zero-or-pos, append_assoc, length-append}
use Rattle.std.proofs.lemmas.List.{drop_more, drop-set}
use Rattle.std.proofs.lemmas.Fmt.{decimal_digit, decimal_step, decimal_is_IsNumeral, length-decimal-le, first_decimal}
use Rattle.std.specs.Char.{digit_value}
use Rattle.std.specs.Str.Parse.{AllDigits, digits_value_after}
use Rattle.std.specs.Fmt.{decimal}
use Rattle.px_base.specs.Decimals.{IsSpellingOf}

-- the value of what is left, after one more digit
pub value_more : (text : List ℕ) (i value : ℕ) → i < length text
    → digits_value_after 10 value (drop i text) ≡ digits_value_after 10 (value * 10 + digit_value (get_or text i 0)) (drop (i + 1) text)
value_more text i value l = ap (digits_value_after 10 value) (drop_more text i 0 l)

-- the first of the digits that are left
pub digits_more : (text : List ℕ) (i : ℕ) → i < length text → AllDigits 10 (drop i text) → (digit_value (get_or text i 0) < 10) × AllDigits 10 (drop (i + 1) text)
digits_more text i l h = rw (drop_more text i 0 l) at h

pub digits_back : (text : List ℕ) (i : ℕ) → i < length text → digit_value (get_or text i 0) < 10 → AllDigits 10 (drop (i + 1) text) → AllDigits 10 (drop i text)
digits_back text i l d h = rw (drop_more text i 0 l) (d, h)

-- further digits don't make a number smaller
pub value_grows : (ds : List ℕ) (n : ℕ) → n ≤ digits_value_after 10 n ds
value_grows [] n = omega arith
value_grows (c ∷ cs) n = omega (arith, value_grows cs (n * 10 + digit_value c))

-- one more digit stands before those that were written
pub written_more : (room all : List ℕ) (at before left : ℕ) → 10 ≤ left → left < 2 ^ 64 → before ≡ at + 1 → at < length room
    → all ≡ decimal left ++ drop before room → all ≡ decimal (left / 10) ++ drop at (set room at (48 + left % 10))
written_more room all at before left lo hi b l e =
    e ∙ (rw (b, decimal_step left lo hi, append_assoc, drop-set room at (48 + left % 10) l))

pub length_more : (left : ℕ) → 10 ≤ left → left < 2 ^ 64 → length (decimal left) ≡ length (decimal (left / 10)) + 1
length_more left lo hi = ap length (decimal_step left lo hi) ∙ length-append _ _

-- the last digit stands before all others
pub written_last : (room all : List ℕ) (at before left : ℕ) → left < 10 → before ≡ at + 1 → at < length room
    → all ≡ decimal left ++ drop before room → drop at (set room at (48 + left)) ≡ all
written_last room all at before left small b l e = drop-set room at (48 + left) l ∙ sym (e ∙ rw (b, decimal_digit left small))

pub length_last : (left : ℕ) → left < 10 → length (decimal left) ≡ 1
length_last left small = ap length (decimal_digit left small)

-- what is printed reads back as the number
pub spelling : (n : ℕ) → n < 2 ^ 64 → IsSpellingOf n (decimal n)
spelling n fits =
    let read = decimal_is_IsNumeral n fits in
    let value = read.1 in
    record {
      decimal = record { numeral = read.0; short = length-decimal-le 20 n (omega arith) (omega arith) fits; fits = omega (arith, value) };
      value = value;
      plain = λ zero_first. elim (eq-zero-or-pos n) [
        | inl none ↦ ap (λ k. length (decimal k)) none ∙ length_last 0 (omega arith)
        | inr some_ ↦ absurd (omega (arith, zero_first, first_decimal n some_ fits))
      ];
    }
