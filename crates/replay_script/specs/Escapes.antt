-- Bytes as printable ASCII: a byte stands for itself, or for another one behind a backslash.
use Rattle.std.specs.Prelude.{◌≡◌, ℕ, ◌+◌, ◌*◌, ◌/◌, ◌%◌, ◌<◌, ◌==◌, ◌&&◌, nat_le, Bool, true, not, List, [], ◌∷◌, ◌++◌, map, flat_map, if◌then◌else◌}
use Rattle.std.specs.List.{AllByRecursion}

-- a piece of the text of bytes
pub data Piece : Type 0 where
  -- a printable byte but the backslash
  plain : ℕ → Piece
  -- `\r`, `\n` and `\\`
  return_ : Piece
  feed : Piece
  slash : Piece
  -- `\x` and two lower-case hexadecimal digits, of these values
  hex : ℕ → ℕ → Piece

-- from the space to the tilde
abbrev pub is_printable : ℕ → Bool
is_printable b = nat_le 32 b && nat_le b 126

-- the digit of a value below 16, in lower case
abbrev pub hex_digit : ℕ → ℕ
hex_digit n = if nat_le n 9 then 48 + n else 87 + n

abbrev pub IsPiece : Piece → Type 0
IsPiece (plain b) = (is_printable b && not (b == 92)) ≡ true
IsPiece return_ = Unit {0}
IsPiece feed = Unit {0}
IsPiece slash = Unit {0}
IsPiece (hex high low) = (high < 16) × (low < 16)

abbrev pub piece_text : Piece → List ℕ
piece_text (plain b) = b ∷ []
piece_text return_ = 92 ∷ 114 ∷ []
piece_text feed = 92 ∷ 110 ∷ []
piece_text slash = 92 ∷ 92 ∷ []
piece_text (hex high low) = 92 ∷ 120 ∷ hex_digit high ∷ hex_digit low ∷ []

-- the byte that the piece stands for
abbrev pub piece_byte : Piece → ℕ
piece_byte (plain b) = b
piece_byte return_ = 13
piece_byte feed = 10
piece_byte slash = 92
piece_byte (hex high low) = 16 * high + low

-- the text stands for these bytes
pub record IsTextOf (text bytes : List ℕ) : Type 0 where
  pub pieces : List Piece
  pub are : AllByRecursion IsPiece pieces
  pub text_is : text ≡ flat_map piece_text pieces
  pub bytes_are : bytes ≡ map piece_byte pieces

-- a piece for this byte stands at the front of the text, and this behind it
pub record BeginsWithPiece (text : List ℕ) (byte : ℕ) (rest : List ℕ) : Type 0 where
  pub piece : Piece
  pub is_piece : IsPiece piece
  pub text_is : text ≡ piece_text piece ++ rest
  pub byte_is : byte ≡ piece_byte piece

-- the piece in which a byte is written
abbrev pub piece_of : ℕ → Piece
piece_of b =
    if b == 13 then return_ else if b == 10 then feed else if b == 92 then slash
    else if is_printable b then plain b else hex (b / 16) (b % 16)

-- the text in which bytes are written
abbrev pub escaped : List ℕ → List ℕ
escaped bytes = flat_map (λ b. piece_text (piece_of b)) bytes
