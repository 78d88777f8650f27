-- The ranges of values.
use Rattle.std.specs.Prelude.{ℕ, ℤ, pos, negsuc, ◌==◌, Bool, true, false, not, ◌&&◌, ◌||◌, nat_le, List, [], ◌∷◌, length, bytes_eq, codes}
use Rattle.std.specs.List.{list_all}
use Rattle.std.specs.Str.{str_eq_ignore_ascii_case}
use Rattle.httparse.specs.Grammar.{is_token, is_value_byte}

-- 0 to 2^31 - 1.
abbrev pub is_weight : ℕ → Bool
is_weight n = nat_le n 2147483647

abbrev pub is_percent : ℕ → Bool
is_percent n = nat_le n 100

-- 1 millisecond to 24 hours, in milliseconds.
abbrev pub is_time : ℕ → Bool
is_time millis = nat_le 1 millis && nat_le millis 86400000

-- A number of bytes, or -1.
abbrev pub is_size : ℤ → Bool
is_size (pos n) = true
is_size (negsuc n) = n == 0

-- The name of a field line: a token (RFC 9110 section 5.6.2) of at most 65,535 bytes.
abbrev pub is_field_name : List ℕ → Bool
is_field_name text = is_token text && nat_le (length text) 65535

-- The value of a field line.
abbrev pub is_field_value : List ℕ → Bool
is_field_value text = list_all is_value_byte text

-- A text that may stand in a cookie: a field value without `;`.
abbrev pub is_cookie_text : List ℕ → Bool
is_cookie_text text = is_field_value text && list_all (λ b. not (b == 59)) text

-- A cookie's name, or nothing.
abbrev pub is_cookie_name : List ℕ → Bool
is_cookie_name text = bytes_eq text [] || is_field_name text

abbrev pub is_same_site : List ℕ → Bool
is_same_site text = bytes_eq text [] || str_eq_ignore_ascii_case text (codes "none") ||
    str_eq_ignore_ascii_case text (codes "lax") || str_eq_ignore_ascii_case text (codes "strict")

abbrev pub begins_with_slash : List ℕ → Bool
begins_with_slash [] = false
begins_with_slash (first ∷ rest) = first == 47

-- The path of a probe.
abbrev pub is_probe_path : List ℕ → Bool
is_probe_path text = begins_with_slash text && is_field_value text

-- Names and values of field lines.
abbrev pub are_field_lines : List (List ℕ × List ℕ) → Bool
are_field_lines lines = list_all (λ line. is_field_name line.0 && is_field_value line.1) lines
