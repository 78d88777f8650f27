-- The spelling of a chunked body (RFC 9112, section 7.1).
use Rattle.std.specs.Prelude.{◌≡◌, ℕ, ◌^◌, ◌<◌, List, ◌++◌, length, map, take, codes}
use Rattle.std.specs.List.{flat_map}
use Rattle.std.specs.Char.{digit_char}
use Rattle.std.specs.Int.Digits.{digits_of}
use Rattle.body_codec.specs.Bytes.{crlf}

-- a size in lower-case hexadecimal digits without leading zeros
abbrev pub size_text : ℕ → List ℕ
size_text size = map digit_char (digits_of 16 size)

-- a piece of content as one chunk
abbrev pub written_chunk : List ℕ → List ℕ
written_chunk piece = size_text (length piece) ++ crlf ++ piece ++ crlf

-- the last chunk, without extension and trailers, and the empty line
abbrev pub written_last : List ℕ
written_last = codes "0" ++ crlf ++ crlf

-- content in these pieces, as a whole body
abbrev pub written_body : List (List ℕ) → List ℕ
written_body pieces = flat_map written_chunk pieces ++ written_last

-- the content that the pieces are
abbrev pub joined : List (List ℕ) → List ℕ
joined pieces = flat_map (λ piece. piece) pieces

-- a piece that can be a chunk: a size has at most ten hexadecimal digits
pub record IsPiece (piece : List ℕ) : Type 0 where
  pub some : 0 < length piece
  pub short : length piece < 2 ^ 40

-- of this text a proper prefix was appended
pub record AppendsPart (old new text : List ℕ) : Type 0 where
  pub len : ℕ
  pub part : len < length text
  pub appended : new ≡ old ++ take len text
