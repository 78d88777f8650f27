-- The values of the lines with a name, from one line on.
use Rattle.std.proofs.Common.{◌≡◌, ℕ, ◌+◌, ◌<◌, ◌≤◌, List, [], ◌∷◌, length, get_or, drop, true, false}
use Rattle.std.proofs.lemmas.List.{drop_more, drop_all}
use Rattle.httparse.specs.declared.spans.HeaderSpan.{HeaderSpan}
use Rattle.httparse.specs.Spans.{header_bytes}
use Rattle.head_view.specs.Lines.{lines_at, has_name, values_of}

abbrev pub values_from : List ℕ → List ℕ → List HeaderSpan → ℕ → List (List ℕ)
values_from buf name lines i = values_of name (lines_at buf (drop i lines))

-- a line with the name
pub values_yes : (buf name : List ℕ) (lines : List HeaderSpan) (i : ℕ) (d : HeaderSpan) → i < length lines
    → has_name name (header_bytes buf (get_or lines i d)) ≡ true
    → values_from buf name lines i ≡ (header_bytes buf (get_or lines i d)).1 ∷ values_from buf name lines (i + 1)
values_yes buf name lines i d l h = rw (drop_more lines i d l, h)

-- a line without it
pub values_no : (buf name : List ℕ) (lines : List HeaderSpan) (i : ℕ) (d : HeaderSpan) → i < length lines
    → has_name name (header_bytes buf (get_or lines i d)) ≡ false
    → values_from buf name lines i ≡ values_from buf name lines (i + 1)
values_no buf name lines i d l h = rw (drop_more lines i d l, h)

-- no line is left
pub values_end : (buf name : List ℕ) (lines : List HeaderSpan) (i : ℕ) → length lines ≤ i → values_from buf name lines i ≡ []
values_end buf name lines i l = rw (drop_all i lines l)
