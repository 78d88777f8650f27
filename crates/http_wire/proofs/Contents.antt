-- How long the contents of own replies are.
use Rattle.std.proofs.Common.{◌≡◌, ℕ, ◌+◌, ◌/◌, ◌<◌, ◌≤◌, List, ◌++◌, length, codes, IsTrue, arith, ap, sym, ◌∙◌, length-append}
use Rattle.std.specs.Char.{to_ascii_lowercase}
use Rattle.std.specs.Fmt.{decimal}
use Rattle.std.specs.Str.{str_to_ascii_lowercase}
use Rattle.std.proofs.lemmas.Bool.Decides.{nat_tests}
use Rattle.std.proofs.lemmas.List.{length-map}
use Rattle.px_base.proofs.Digits.{length_last, length_more}
use Rattle.http_wire.specs.Own.{is_own_error, own_words, content_of}

least : (status : ℕ) → IsTrue (is_own_error status) → 100 ≤ status
least status own = grind (arith, nat_tests)

most : (status : ℕ) → IsTrue (is_own_error status) → status < 1000
most status own = grind (arith, nat_tests)

three_digits : (status : ℕ) → 100 ≤ status → status < 1000 → length (decimal status) ≡ 3
three_digits status low high =
    length_more status (omega arith) (omega arith)
    ∙ ap (λ (n : ℕ). n + 1) (length_more (status / 10) (omega arith) (omega arith) ∙ ap (λ (n : ℕ). n + 1) (length_last (status / 10 / 10) (omega arith)))

pub content_length : (status : ℕ) (words : List ℕ) → IsTrue (is_own_error status) → str_to_ascii_lowercase words ≡ own_words status
    → length words + 5 ≡ length (content_of status)
content_length status words own same =
    let digits : length (decimal status) ≡ 3 = three_digits status (least status own) (most status own) in
    let lower : length (str_to_ascii_lowercase words) ≡ length words = length-map words to_ascii_lowercase in
    let long : length (own_words status) ≡ length words = sym (ap (length {A = ℕ}) same) ∙ lower in
    omega (arith, digits, long, length-append (decimal status ++ codes " " ++ own_words status) (codes "\n"), length-append (decimal status ++ codes " ") (own_words status), length-append (decimal status) (codes " "))
