-- Percent-encoding in a path (RFC 3986 sections 2.1, 2.3 and 6.2.2).
use Rattle.std.specs.Prelude.{◌≡◌, ◌≢◌, ℕ, ◌+◌, ◌*◌, ◌<◌, Bool, ◌||◌, ◌==◌, if◌then◌else◌, List, [], ◌∷◌, flat_map, slice_index, IsTrue}
use Rattle.std.specs.List.{AllByRecursion}
use Rattle.std.specs.Char.{digit_value, is_ascii_hexdigit, is_ascii_alphanumeric, to_ascii_uppercase}

-- `%`
abbrev pub percent : ℕ
percent = 37

-- `/`
abbrev pub slash : ℕ
slash = 47

-- a byte that needs no escape: a letter, a digit, or one of `-._~`
abbrev pub is_unreserved : ℕ → Bool
is_unreserved b = is_ascii_alphanumeric b || (b == 45) || (b == 46) || (b == 95) || (b == 126)

-- a part of a path: a byte that stands for itself, or an escape by its two hexadecimal digits
pub data Piece : Type 0 where
  plain : ℕ → Piece
  escape : ℕ → ℕ → Piece

-- what may stand in a segment
abbrev pub IsPiece : Piece → Type 0
IsPiece (plain b) = (b ≢ percent) × (b ≢ slash)
IsPiece (escape high low) = IsTrue (is_ascii_hexdigit high) × IsTrue (is_ascii_hexdigit low)

-- its text
abbrev pub spelled : Piece → List ℕ
spelled (plain b) = b ∷ []
spelled (escape high low) = percent ∷ high ∷ low ∷ []

-- the byte that two hexadecimal digits write
abbrev pub octet : ℕ → ℕ → ℕ
octet high low = digit_value high * 16 + digit_value low

-- its normal text: the byte itself where it needs no escape, else the escape with upper-case digits
abbrev pub written : Piece → List ℕ
written (plain b) = b ∷ []
written (escape high low) =
    if is_unreserved (octet high low)
    then octet high low ∷ []
    else percent ∷ to_ascii_uppercase high ∷ to_ascii_uppercase low ∷ []

-- a segment is a list of pieces
abbrev pub AreSegment : List Piece → Type 0
AreSegment pieces = AllByRecursion IsPiece pieces

-- its text, and its normal text
abbrev pub segment_text : List Piece → List ℕ
segment_text pieces = flat_map spelled pieces

abbrev pub segment_written : List Piece → List ℕ
segment_written pieces = flat_map written pieces

-- a `%` without two hexadecimal digits after it
abbrev pub IsBadEscape : List ℕ → ℕ → Type 0
IsBadEscape path at =
    (slice_index path at ≡ percent)
    × ¬ (IsTrue (is_ascii_hexdigit (slice_index path (at + 1))) × IsTrue (is_ascii_hexdigit (slice_index path (at + 2))))

-- no `%` is without them
abbrev pub HasWholeEscapes : List ℕ → Type 0
HasWholeEscapes path = (k : ℕ) → ¬ (IsBadEscape path k)

-- the first of those
pub record IsFirstBadEscape (path : List ℕ) (at : ℕ) : Type 0 where
  pub bad : IsBadEscape path at
  pub before : (k : ℕ) → k < at → ¬ (IsBadEscape path k)
