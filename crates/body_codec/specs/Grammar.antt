-- The grammar of message bodies (RFC 9112, sections 6.3 and 7.1), apart from how they are read.
use Rattle.std.specs.Prelude.{◌≡◌, ◌≢◌, ℕ, ◌<◌, ◌≤◌, true, List, [], ◌∷◌, ◌++◌, length}
use Rattle.std.specs.List.{flat_map, AllByRecursion}
use Rattle.std.specs.Str.Parse.{IsNumeral, digits_value}
use Rattle.body_codec.specs.Bytes.{carriage_return, line_feed, colon, semicolon, crlf, is_name_byte, is_value_byte}
use Rattle.body_codec.specs.declared.reading.Framing.{Framing}
use Rattle.body_codec.specs.declared.reading.Framing.TheVariants as framed

-- any byte but the two that end a line
abbrev pub IsExtensionByte : ℕ → Type 0
IsExtensionByte b = (b ≢ carriage_return) × (b ≢ line_feed)

-- what may follow a size: nothing, or `;` and the rest of the line
abbrev pub IsExtension : List ℕ → Type 0
IsExtension [] = Unit {0}
IsExtension (b ∷ bs) = (b ≡ semicolon) × AllByRecursion IsExtensionByte bs

-- one to ten hexadecimal digits that write the size, and an extension; at most 256 bytes in all
pub record IsSizeLine (line : List ℕ) (size : ℕ) : Type 0 where
  pub digits : List ℕ
  pub extension : List ℕ
  pub splits : line ≡ digits ++ extension
  pub numeral : IsNumeral 16 digits
  pub writes : digits_value 16 digits ≡ size
  pub few : length digits ≤ 10
  pub extends : IsExtension extension
  pub short : length line ≤ 256

-- a chunk's size line without its CRLF, and its bytes
pub record Chunk : Type 0 where
  pub line : List ℕ
  pub bytes : List ℕ

pub record IsChunk (c : Chunk) : Type 0 where
  pub sized : IsSizeLine c.line (length c.bytes)
  pub some : 0 < length c.bytes

abbrev pub chunk_text : Chunk → List ℕ
chunk_text c = c.line ++ crlf ++ c.bytes ++ crlf

pub record Trailer : Type 0 where
  pub name : List ℕ
  pub value : List ℕ

pub record IsTrailer (t : Trailer) : Type 0 where
  pub some : 0 < length t.name
  pub named : AllByRecursion (λ b. is_name_byte b ≡ true) t.name
  pub valued : AllByRecursion (λ b. is_value_byte b ≡ true) t.value

abbrev pub trailer_text : Trailer → List ℕ
trailer_text t = t.name ++ (colon ∷ []) ++ t.value ++ crlf

-- the chunks, the last chunk's size line, the trailer lines with at most 8,192 bytes in all, and an
-- empty line; the content is the chunks' bytes
pub record IsChunked (bytes content : List ℕ) : Type 0 where
  pub chunks : List Chunk
  pub last : List ℕ
  pub trailers : List Trailer
  pub whole : bytes ≡ flat_map chunk_text chunks ++ last ++ crlf ++ flat_map trailer_text trailers ++ crlf
  pub found : content ≡ flat_map (λ c. c.bytes) chunks
  pub each : AllByRecursion IsChunk chunks
  pub ends : IsSizeLine last 0
  pub trails : AllByRecursion IsTrailer trailers
  pub limit : length (flat_map trailer_text trailers) ≤ 8192

-- these bytes are a whole body of the framing, with this content
abbrev pub IsBody : Framing → List ℕ → List ℕ → Type 0
IsBody framed.None bytes content = (bytes ≡ []) × (content ≡ [])
IsBody (framed.Length n) bytes content = (length bytes ≡ n) × (content ≡ bytes)
IsBody framed.Chunked bytes content = IsChunked bytes content
IsBody framed.ToEnd bytes content = content ≡ bytes

-- a body of the framing begins with these bytes
pub record MayContinue (framing : Framing) (bytes : List ℕ) : Type 0 where
  pub rest : List ℕ
  pub content : List ℕ
  pub body : IsBody framing (bytes ++ rest) content
