-- Texts of one word, and texts in which no line ends.
use Rattle.std.proofs.Common.{◌≡◌, ◌∙◌, ℕ, ◌+◌, ◌/◌, ◌%◌, ◌<◌, ◌≤◌, ◌==◌, List, [], ◌∷◌, ◌++◌, Bool, true, false, not, ◌&&◌, cond, refl, sym, ap, subst, inl, inr, arith, flat_map, nat_lt, nat_le, length, take, drop, nat_eq, zero, suc, IsTrue, Option, Some, None}
use Rattle.std.specs.List.{find, list_all, starts_with}
use Rattle.std.proofs.lemmas.Bool.{and_parts, and_from, cond_both, leb-true, lt-ltb, ltb-true, ne_eqb, not_from_false, or_cases, eqb-true}
use Rattle.std.proofs.lemmas.List.Folds.{list_all-append}
use Rattle.std.proofs.lemmas.Slice.Eq.{starts_is}
use Rattle.httparse.specs.Grammar.{is_value_byte}
use Rattle.dyn_config.specs.Values.{is_field_value}
use Rattle.middleware_stage.specs.Paths.{byte_text, escape_of, escaped, hex_digit, is_path_byte, is_visible, location_text, new_path, rooted}
use Rattle.middleware_chain.specs.Written.{ends_no_line, is_inner_byte, is_one_word, is_word_byte}

-- a byte above 13 ends no line
inner_above : (b : ℕ) → 13 < b → is_inner_byte b ≡ true
inner_above b l =
    and_from (not (b == 13)) (not (b == 10)) (not_from_false (b == 13) (ne_eqb b 13 (λ e. omega (arith, l, e)))) (not_from_false (b == 10) (ne_eqb b 10 (λ e. omega (arith, l, e))))

word_inner : (b : ℕ) → is_word_byte b ≡ true → is_inner_byte b ≡ true
word_inner b w = inner_above b (let l = ltb-true 32 b w in omega (arith, l))

inner_tab : (b : ℕ) → b ≡ 9 → is_inner_byte b ≡ true
inner_tab b e = ap is_inner_byte e

value_inner : (b : ℕ) → is_value_byte b ≡ true → is_inner_byte b ≡ true
value_inner b v = elim (or_cases (b == 9) (nat_le 32 b && not (b == 127)) v) [
  | inl t ↦ inner_tab b (eqb-true b 9 t)
  | inr t ↦ inner_above b (let l = leb-true 32 b (and_parts (nat_le 32 b) (not (b == 127)) t).0 in omega (arith, l))
]

-- what holds of each byte
pub of_bytes : (p r : ℕ → Bool) → ((b : ℕ) → p b ≡ true → r b ≡ true) → (text : List ℕ) → list_all p text ≡ true → list_all r text ≡ true
of_bytes p r h [] all = refl
of_bytes p r h (b ∷ text) all = let parts = and_parts (p b) (list_all p text) all in and_from (r b) (list_all r text) (h b parts.0) (of_bytes p r h text parts.1)

pub word_ends_no_line : (text : List ℕ) → is_one_word text ≡ true → ends_no_line text ≡ true
word_ends_no_line text w = of_bytes is_word_byte is_inner_byte word_inner text w

pub value_ends_no_line : (text : List ℕ) → is_field_value text ≡ true → ends_no_line text ≡ true
value_ends_no_line text v = of_bytes is_value_byte is_inner_byte value_inner text v

hex_word : (n : ℕ) → is_word_byte (hex_digit n) ≡ true
hex_word n = cond_both (nat_lt n 10) (48 + n) (55 + n) (λ (b : ℕ). is_word_byte b ≡ true) (λ e. lt-ltb 32 (48 + n) (omega arith)) (λ e. lt-ltb 32 (55 + n) (omega arith))

escape_word : (b : ℕ) → is_one_word (escape_of b) ≡ true
escape_word b = and_from (is_word_byte (hex_digit (b / 16))) (is_word_byte (hex_digit (b % 16)) && true) (hex_word (b / 16)) (and_from (is_word_byte (hex_digit (b % 16))) true (hex_word (b % 16)) refl)

byte_word : (p : ℕ → Bool) (b : ℕ) → (p b ≡ true → is_word_byte b ≡ true) → is_one_word (byte_text p b) ≡ true
byte_word p b h =
    cond_both (p b) (b ∷ []) (escape_of b) (λ (t : List ℕ). is_one_word t ≡ true) (λ e. and_from (is_word_byte b) true (h e) refl) (λ e. escape_word b)

-- an escaped text is one word
pub escaped_word : (p : ℕ → Bool) → ((b : ℕ) → p b ≡ true → is_word_byte b ≡ true) → (text : List ℕ) → is_one_word (escaped p text) ≡ true
escaped_word p h [] = refl
escaped_word p h (b ∷ text) =
    list_all-append is_word_byte (byte_text p b) (escaped p text)
    ∙ and_from (is_one_word (byte_text p b)) (is_one_word (escaped p text)) (byte_word p b (h b)) (escaped_word p h text)

visible_word : (b : ℕ) → is_visible b ≡ true → is_word_byte b ≡ true
visible_word b v = lt-ltb 32 b (let l = leb-true 33 b (and_parts (nat_le 33 b) (nat_le b 126) v).0 in omega (arith, l))

path_byte_word : (b : ℕ) → is_path_byte b ≡ true → is_word_byte b ≡ true
path_byte_word b p =
    let outer = and_parts (is_visible b && not (b == 63)) (not (b == 35)) p in
    visible_word b (and_parts (is_visible b) (not (b == 63)) outer.0).0

pub new_path_word : (text : List ℕ) → is_one_word (new_path text) ≡ true
new_path_word text = escaped_word is_path_byte path_byte_word (rooted text)

pub location_word : (target : List ℕ) → is_one_word (location_text target) ≡ true
location_word target = escaped_word is_visible visible_word target

-- what a text begins with
pub front_word : (text front rest : List ℕ) → text ≡ front ++ rest → is_one_word text ≡ true → is_one_word front ≡ true
front_word text front rest e w =
    let split : (is_one_word front && is_one_word rest) ≡ true = sym (list_all-append is_word_byte front rest) ∙ ap is_one_word (sym e) ∙ w in
    (and_parts (is_one_word front) (is_one_word rest) split).0
