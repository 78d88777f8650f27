-- The classes of bytes in a chunked body (RFC 9112, section 7.1; RFC 9110, sections 5.5 and 5.6.2).
use Rattle.std.specs.Prelude.{ℕ, Bool, ◌||◌, ◌&&◌, List, [], ◌∷◌, ◌==◌, nat_lt, nat_le, codes}
use Rattle.std.specs.List.{list_any}
use Rattle.std.specs.Char.{digit_value, is_ascii_alphanumeric}

abbrev pub line_feed : ℕ
line_feed = 10

abbrev pub carriage_return : ℕ
carriage_return = 13

abbrev pub colon : ℕ
colon = 58

abbrev pub semicolon : ℕ
semicolon = 59

abbrev pub crlf : List ℕ
crlf = carriage_return ∷ line_feed ∷ []

-- the value of a hexadecimal digit of either case; 16 or more for any other byte
unfoldable pub hex_value : ℕ → ℕ
hex_value b = digit_value b

abbrev pub is_hex_digit : ℕ → Bool
is_hex_digit b = nat_lt (hex_value b) 16

-- the marks among tchar
unfoldable pub is_name_mark : ℕ → Bool
is_name_mark b = list_any (λ c. c == b) (codes "!#$%&'*+-.^_`|~")

-- tchar: a byte of a field's name
unfoldable pub is_name_byte : ℕ → Bool
is_name_byte b = is_ascii_alphanumeric b || is_name_mark b

-- a byte of a field's value: a tab, a space, visible, or past ASCII
unfoldable pub is_value_byte : ℕ → Bool
is_value_byte b = (b == 9) || (nat_le 32 b && nat_le b 126) || (nat_le 128 b && nat_le b 255)
