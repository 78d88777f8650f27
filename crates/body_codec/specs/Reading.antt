-- The reading of a body one byte at a time: the phase after a byte, and the content that the byte is.
use Rattle.std.specs.Prelude.{ℕ, ◌+◌, ◌-◌, ◌*◌, ◌^◌, ◌<◌, ◌≤◌, Bool, true, false, ◌&&◌, List, [], ◌∷◌, ◌++◌, nat_lt, nat_le, ◌==◌, if◌then◌else◌}
use Rattle.body_codec.specs.Bytes.{carriage_return, line_feed, colon, semicolon, hex_value, is_hex_digit, is_name_byte, is_value_byte}
use Rattle.body_codec.specs.declared.reading.Framing.{Framing}
use Rattle.body_codec.specs.declared.reading.Framing.TheVariants as framed
use Rattle.body_codec.specs.declared.phases.Phase.{Phase}
use Rattle.body_codec.specs.declared.phases.Phase.TheVariants.{Length, ToEnd, Size, Extension, SizeLf, Data, DataCr, DataLf, TrailerStart, TrailerName, TrailerValue, TrailerLf, EndLf, Done, Bad}

-- the phase before the first byte
abbrev pub start : Framing → Phase
start framed.None = Done
start (framed.Length n) = if n == 0 then Done else Length n
start framed.Chunked = Size 0 0
start framed.ToEnd = ToEnd

-- after the digits of a size, by the byte that is no digit
abbrev pub after_digits : ℕ → ℕ → ℕ → Phase
after_digits digits size b =
    if digits == 0 then Bad
    else if b == carriage_return then SizeLf size
    else if b == semicolon then Extension size (digits + 1)
    else Bad

-- in a size, which has at most ten digits
abbrev pub after_size : ℕ → ℕ → ℕ → Phase
after_size digits size b =
    if is_hex_digit b then (if nat_lt digits 10 then Size (digits + 1) (size * 16 + hex_value b) else Bad)
    else after_digits digits size b

-- in an extension, after so many bytes of the size line
abbrev pub after_extension : ℕ → ℕ → ℕ → Phase
after_extension size line b =
    if b == carriage_return then SizeLf size
    else if b == line_feed then Bad
    else if nat_lt line 256 then Extension size (line + 1)
    else Bad

-- a byte of a trailer's name, after so many bytes of trailers: a colon and CRLF must still fit
abbrev pub after_name_byte : ℕ → ℕ → Phase
after_name_byte used b = if is_name_byte b && nat_le (used + 4) 8192 then TrailerName (used + 1) else Bad

-- a byte of a trailer's value, after so many bytes of trailers: CRLF must still fit
abbrev pub after_value_byte : ℕ → ℕ → Phase
after_value_byte used b = if is_value_byte b && nat_le (used + 3) 8192 then TrailerValue (used + 1) else Bad

-- the phase after a byte
abbrev pub after : Phase → ℕ → Phase
after (Length left) b = if left == 1 then Done else Length (left - 1)
after ToEnd b = ToEnd
after (Size digits size) b = after_size digits size b
after (Extension size line) b = after_extension size line b
after (SizeLf size) b = if b == line_feed then (if size == 0 then TrailerStart 0 else Data size) else Bad
after (Data left) b = if left == 1 then DataCr else Data (left - 1)
after DataCr b = if b == carriage_return then DataLf else Bad
after DataLf b = if b == line_feed then Size 0 0 else Bad
after (TrailerStart used) b = if b == carriage_return then EndLf else after_name_byte used b
after (TrailerName used) b = if b == colon then TrailerValue (used + 1) else after_name_byte used b
after (TrailerValue used) b = if b == carriage_return then TrailerLf (used + 1) else after_value_byte used b
after (TrailerLf used) b = if b == line_feed then TrailerStart (used + 1) else Bad
after EndLf b = if b == line_feed then Done else Bad
after Done b = Bad
after Bad b = Bad

-- whether a byte is content
abbrev pub is_content : Phase → Bool
is_content (Length left) = true
is_content ToEnd = true
is_content (Data left) = true
is_content _ = false

-- whether a byte is neither content nor past the body's end
abbrev pub is_framing : Phase → Bool
is_framing (Length left) = false
is_framing ToEnd = false
is_framing (Data left) = false
is_framing Done = false
is_framing _ = true

-- the content that a byte is
abbrev pub given : Phase → ℕ → List ℕ
given phase b = if is_content phase then b ∷ [] else []

-- the phase after these bytes
abbrev pub run : Phase → List ℕ → Phase
run phase [] = phase
run phase (b ∷ bs) = run (after phase b) bs

-- the content among these bytes
abbrev pub content : Phase → List ℕ → List ℕ
content phase [] = []
content phase (b ∷ bs) = given phase b ++ content (after phase b) bs

-- whether the link's end here leaves the body whole
abbrev pub may_end : Phase → Bool
may_end Done = true
may_end ToEnd = true
may_end _ = false

-- the numbers that a phase can have
abbrev pub IsPhase : Phase → Type 0
IsPhase (Length left) = 0 < left
IsPhase (Size digits size) = (digits ≤ 10) × (size < 16 ^ digits)
IsPhase (Extension size line) = (size < 2 ^ 40) × (line ≤ 256)
IsPhase (SizeLf size) = size < 2 ^ 40
IsPhase (Data left) = (0 < left) × (left < 2 ^ 40)
IsPhase (TrailerStart used) = used ≤ 8192
IsPhase (TrailerName used) = used + 3 ≤ 8192
IsPhase (TrailerValue used) = used + 2 ≤ 8192
IsPhase (TrailerLf used) = used + 1 ≤ 8192
IsPhase _ = Unit {0}
