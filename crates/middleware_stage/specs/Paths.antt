-- How a path and a location are written: bytes that may not stand there are escaped (RFC 3986 section 2.1).
use Rattle.std.specs.Prelude.{ℕ, ◌+◌, ◌/◌, ◌%◌, ◌==◌, Bool, false, not, ◌&&◌, nat_le, nat_lt, List, [], ◌∷◌, flat_map, if◌then◌else◌}

-- a visible ASCII byte
abbrev pub is_visible : ℕ → Bool
is_visible b = nat_le 33 b && nat_le b 126

-- one that ends no path: neither `?` nor `#`
abbrev pub is_path_byte : ℕ → Bool
is_path_byte b = is_visible b && not (b == 63) && not (b == 35)

-- the upper-case hexadecimal digit of a number below 16
abbrev pub hex_digit : ℕ → ℕ
hex_digit n = if nat_lt n 10 then 48 + n else 55 + n

-- `%` and the two digits of a byte
abbrev pub escape_of : ℕ → List ℕ
escape_of b = 37 ∷ hex_digit (b / 16) ∷ hex_digit (b % 16) ∷ []

-- the text with the bytes escaped that don't pass
abbrev pub byte_text : (ℕ → Bool) → ℕ → List ℕ
byte_text passes b = if passes b then b ∷ [] else escape_of b

abbrev pub escaped : (ℕ → Bool) → List ℕ → List ℕ
escaped passes text = flat_map (byte_text passes) text

abbrev pub begins_with_slash : List ℕ → Bool
begins_with_slash [] = false
begins_with_slash (b ∷ _) = b == 47

abbrev pub rooted : List ℕ → List ℕ
rooted text = if begins_with_slash text then text else 47 ∷ text

-- a new path: a slash stands before it where it has none, and what ends a path or isn't visible is escaped
abbrev pub new_path : List ℕ → List ℕ
new_path text = escaped is_path_byte (rooted text)

-- where a redirect leads, as it stands in `Location`
abbrev pub location_text : List ℕ → List ℕ
location_text target = escaped is_visible target
