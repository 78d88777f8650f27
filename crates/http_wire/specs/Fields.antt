-- The field lines of a head: what the values of one name list, and which lines go on.
use Rattle.std.specs.Prelude.{◌≡◌, ℕ, ◌-◌, ◌==◌, Bool, not, ◌||◌, List, Option, length, take, drop, map, codes, nat_eq}
use Rattle.std.specs.List.{slice_split, list_any, prefix_len, suffix_len}
use Rattle.std.specs.Option.{ForSome}
use Rattle.std.specs.Cmp.Lexicographic.{pointwise}
use Rattle.std.specs.Char.{is_ascii_whitespace}
use Rattle.std.specs.Str.{str_eq_ignore_ascii_case}
use Rattle.httparse.specs.declared.spans.HeaderSpan.{HeaderSpan}
use Rattle.head_view.specs.Lines.{Line as Field, AreWithin, has_name, values_of, lines_at}

-- the same bytes
abbrev pub is_same : List ℕ → List ℕ → Bool
is_same a b = pointwise nat_eq a b

abbrev pub without_leading_blanks : List ℕ → List ℕ
without_leading_blanks text = drop (prefix_len is_ascii_whitespace text) text

abbrev pub without_trailing_blanks : List ℕ → List ℕ
without_trailing_blanks text = take (length text - suffix_len is_ascii_whitespace text) text

-- the text without the blanks round it
abbrev pub trimmed : List ℕ → List ℕ
trimmed text = without_trailing_blanks (without_leading_blanks text)

abbrev pub is_comma : ℕ → Bool
is_comma b = b == 44

-- the elements of a list: what stands between its commas, without the blanks round it (RFC 9110 section 5.6.1)
abbrev pub elements : List ℕ → List (List ℕ)
elements text = map trimmed (slice_split is_comma text)

-- whether the list has this name as an element, without case
abbrev pub lists : List ℕ → List ℕ → Bool
lists name text = list_any (λ part. str_eq_ignore_ascii_case (trimmed part) name) (slice_split is_comma text)

-- whether a `Connection` line lists the name (RFC 9110 section 7.6.1)
abbrev pub is_listed : List Field → List ℕ → Bool
is_listed fields name = list_any (lists name) (values_of (codes "Connection") fields)

-- the `Connection` lines of both say the same
abbrev pub HaveSameOptions : List ℕ → List HeaderSpan → List HeaderSpan → Type 0
HaveSameOptions buf some all = values_of (codes "Connection") (lines_at buf some) ≡ values_of (codes "Connection") (lines_at buf all)

-- the `Connection` lines list this name and no other
abbrev pub IsOnlyOption : List Field → List ℕ → Type 0
IsOnlyOption fields option = (name : List ℕ) → is_listed fields name ≡ str_eq_ignore_ascii_case option name

-- some lines have the options of all, and `only` is the one option where it is told
pub record HaveOptions (buf : List ℕ) (some : List HeaderSpan) (only : Option (List ℕ)) (all : List HeaderSpan) : Type 0 where
  pub within : AreWithin buf some
  pub same : HaveSameOptions buf some all
  pub alone : ForSome only (IsOnlyOption (lines_at buf all))

-- the same, closed, for those that only hand it on
unfoldable pub HoldOptions : List ℕ → List HeaderSpan → Option (List ℕ) → List HeaderSpan → Type 0
HoldOptions buf some only all = HaveOptions buf some only all

-- the names that speak of one connection alone
abbrev pub is_hop_by_hop : Field → Bool
is_hop_by_hop f = has_name (codes "Connection") f || has_name (codes "Keep-Alive") f
    || has_name (codes "Proxy-Connection") f || has_name (codes "TE") f || has_name (codes "Trailer") f
    || has_name (codes "Transfer-Encoding") f || has_name (codes "Upgrade") f

-- whether the field goes on, among these: it is no matter of one connection alone
abbrev pub goes_on : List Field → Field → Bool
goes_on fields f = not (is_hop_by_hop f || is_listed fields f.0)
