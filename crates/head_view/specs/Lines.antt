-- The field lines of a head, and the values of one name.
use Rattle.std.specs.Prelude.{◌==◌, ℕ, List, Bool, map, filter, All, length, count_by}
use Rattle.std.specs.Str.{str_eq_ignore_ascii_case}
use Rattle.httparse.specs.Spans.{header_bytes, IsHeaderWithin}
use Rattle.httparse.specs.declared.spans.HeaderSpan.{HeaderSpan}

-- a name and a value
abbrev pub Line : Type 0
Line = List ℕ × List ℕ

-- the lines that the spans cover
abbrev pub lines_at : List ℕ → List HeaderSpan → List Line
lines_at buf spans = map (header_bytes buf) spans

-- whether the line has this name, without case
abbrev pub has_name : List ℕ → Line → Bool
has_name name line = str_eq_ignore_ascii_case line.0 name

-- the values of that name, in order
abbrev pub values_of : List ℕ → List Line → List (List ℕ)
values_of name lines = map (λ (line : Line). line.1) (filter (has_name name) lines)

-- each span lies in the buffer
abbrev pub AreWithin : List ℕ → List HeaderSpan → Type 0
AreWithin buf spans = All (IsHeaderWithin (length buf)) spans

-- how many line feeds the buffer holds
abbrev pub line_feeds : List ℕ → ℕ
line_feeds buf = count_by (λ b. b == 10) buf
