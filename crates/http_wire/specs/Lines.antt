-- Field lines as they are spelled (RFC 9112 section 5).
use Rattle.std.specs.Prelude.{◌≡◌, ℕ, ◌+◌, List, [], ◌∷◌, ◌++◌, codes, length, take}
use Rattle.std.specs.List.{flat_map}
use Rattle.httparse.specs.declared.spans.HeaderSpan.{HeaderSpan}
use Rattle.head_view.specs.Lines.{Line as Field, AreWithin, lines_at}

-- the end of a line
abbrev pub crlf : List ℕ
crlf = 13 ∷ 10 ∷ []

-- a name, a colon, a space and a value
abbrev pub field_text : List ℕ → List ℕ → List ℕ
field_text name value = name ++ codes ": " ++ value ++ crlf

-- a line as it is spelled
abbrev pub line_text : Field → List ℕ
line_text f = field_text f.0 f.1

-- these lines, one behind the other
abbrev pub fields_text : List Field → List ℕ
fields_text fields = flat_map line_text fields

-- the text spells the lines that the spans cover
pub record AreSpelled (text : List ℕ) (spans : List HeaderSpan) : Type 0 where
  pub within : AreWithin text spans
  pub spelled : text ≡ fields_text (lines_at text spans)

-- where a line lies that is spelled at this place, with a name and a value of these lengths
abbrev pub span_at : ℕ → ℕ → ℕ → HeaderSpan
span_at at name value = record {
  name = record { start = at; end = at + name };
  value = record { start = at + name + 2; end = at + name + 2 + value };
}

-- the text begins with what it was
abbrev pub Keeps : List ℕ → List ℕ → Type 0
Keeps old new = take (length old) new ≡ old
