-- How the fields of a head frame its body (RFC 9112 section 6), and which of them are faults.
use Rattle.std.specs.Prelude.{◌≡◌, ◌≢◌, ℕ, ◌^◌, ◌<◌, ◌≤◌, ◌⊎◌, List, [], ◌∷◌, ◌++◌, length, IsTrue, Option, Some, None, codes, ⊤}
use Rattle.std.specs.List.{flat_map, list_all}
use Rattle.std.specs.Str.{str_eq_ignore_ascii_case}
use Rattle.std.specs.Str.Parse.{digits_value}
use Rattle.px_base.specs.Decimals.{IsDecimal}
use Rattle.body_codec.specs.declared.Framing.{Framing}
use Rattle.body_codec.specs.declared.Framing.TheVariants as framing
use Rattle.head_view.specs.Lines.{Line as Field, values_of}
use Rattle.http_wire.specs.Fields.{is_same, elements}
use Rattle.http_wire.specs.declared.framing.FramingFault.{FramingFault}
use Rattle.http_wire.specs.declared.framing.FramingFault.TheVariants.{BadLength, BothLengths, BadCoding}

-- the values of the `Content-Length` lines
abbrev pub lengths_of : List Field → List (List ℕ)
lengths_of fields = values_of (codes "Content-Length") fields

-- the values of the `Transfer-Encoding` lines
abbrev pub encodings_of : List Field → List (List ℕ)
encodings_of fields = values_of (codes "Transfer-Encoding") fields

-- the codings that these values list, taken together in order
abbrev pub codings : List (List ℕ) → List (List ℕ)
codings values = flat_map elements values

-- the text of a length: 1 to 19 digits of a value below 2 ^ 40
pub record IsLength (text : List ℕ) : Type 0 where
  pub decimal : IsDecimal text
  pub short : length text ≤ 19
  pub small : digits_value 10 text < 2 ^ 40

-- the first is a length, and the others are the same text
abbrev pub AreOneLength : List (List ℕ) → Type 0
AreOneLength [] = ⊤
AreOneLength (v ∷ more) = IsLength v × IsTrue (list_all (λ w. is_same w v) more)

abbrev pub IsChunked : List ℕ → Type 0
IsChunked coding = IsTrue (str_eq_ignore_ascii_case coding (codes "chunked"))

-- the last coding is `chunked`
abbrev pub EndInChunked : List (List ℕ) → Type 0
EndInChunked codings = (front : List (List ℕ)) × (last : List ℕ) × (codings ≡ front ++ last ∷ []) × IsChunked last

-- `chunked` is the only coding
abbrev pub AreChunkedAlone : List (List ℕ) → Type 0
AreChunkedAlone codings = (only : List ℕ) × (codings ≡ only ∷ []) × IsChunked only

-- the lengths aren't one, or the last coding isn't `chunked`
abbrev pub HasBadLength : List Field → Type 0
HasBadLength fields =
    (¬ (AreOneLength (lengths_of fields)))
    ⊎ ((encodings_of fields ≢ []) × ¬ (EndInChunked (codings (encodings_of fields))))

-- codings stand beside a length, or in version 1.0
abbrev pub HasBothLengths : ℕ → List Field → Type 0
HasBothLengths version fields = (encodings_of fields ≢ []) × ((lengths_of fields ≢ []) ⊎ (version ≡ 0))

-- there are codings that aren't `chunked` alone
abbrev pub HasBadCoding : List Field → Type 0
HasBadCoding fields = (encodings_of fields ≢ []) × ¬ (AreChunkedAlone (codings (encodings_of fields)))

-- the fault is the first whose condition holds
abbrev pub IsFramingFault : ℕ → List Field → FramingFault → Type 0
IsFramingFault version fields BadLength = HasBadLength fields
IsFramingFault version fields BothLengths = (¬ (HasBadLength fields)) × HasBothLengths version fields
IsFramingFault version fields BadCoding =
    (¬ (HasBadLength fields)) × (¬ (HasBothLengths version fields)) × HasBadCoding fields

-- no condition of a fault holds
abbrev pub IsFramed : ℕ → List Field → Type 0
IsFramed version fields =
    (¬ (HasBadLength fields)) × (¬ (HasBothLengths version fields)) × (¬ (HasBadCoding fields))

-- what the first of these lengths tells
abbrev pub first_length : List (List ℕ) → Option ℕ
first_length [] = None
first_length (v ∷ _) = Some (digits_value 10 v)

-- the framing of a body by its codings and its lengths; `otherwise` where there are none
abbrev pub framing_by : List (List ℕ) → List (List ℕ) → Framing → Framing
framing_by (_ ∷ _) lengths otherwise = framing.Chunked
framing_by [] (v ∷ _) otherwise = framing.Length (digits_value 10 v)
framing_by [] [] otherwise = otherwise
