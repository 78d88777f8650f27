-- Where lines lie that are spelled one behind the other.
use Rattle.std.specs.Prelude.{◌≡◌, ℕ, ◌+◌, ◌-◌, List, [], ◌∷◌, ◌++◌, take, drop, length, sum_by}
use Rattle.httparse.specs.declared.spans.HeaderSpan.{HeaderSpan}
use Rattle.http_wire.specs.Lines.{span_at}

-- how many bytes a line has with its end: those of its name and its value, a colon and a blank, CR and LF
abbrev pub line_length : HeaderSpan → ℕ
line_length h = (h.name.end - h.name.start) + 2 + (h.value.end - h.value.start) + 2

abbrev pub spelled_total : List HeaderSpan → ℕ
spelled_total spans = sum_by line_length spans

-- lines with names and values of these lengths, laid out from a place on
abbrev pub laid : ℕ → List HeaderSpan → List HeaderSpan
laid at [] = []
laid at (h ∷ spans) = span_at at (h.name.end - h.name.start) (h.value.end - h.value.start) ∷ laid (at + line_length h) spans

-- the last elements, so many, stand at an earlier place
abbrev pub turned : {X : Type 0} → ℕ → ℕ → List X → List X
turned start count xs =
    take start xs ++ (drop (length (drop start xs) - count) (drop start xs) ++ take (length (drop start xs) - count) (drop start xs))
