-- What `Connection` lines list.
use Rattle.std.proofs.Common.{◌≡◌, ℕ, List, [], ◌∷◌, length, map, Bool, true, false, refl, ◌∙◌, sym, ap, subst}
use Rattle.std.specs.List.{list_any, slice_split}
use Rattle.std.specs.Str.{str_eq_ignore_ascii_case}
use Rattle.std.proofs.lemmas.List.Elements.{All-tail}
use Rattle.httparse.specs.declared.spans.HeaderSpan.{HeaderSpan}
use Rattle.httparse.specs.Spans.{header_bytes, span_bytes, IsHeaderWithin}
use Rattle.head_view.specs.Lines.{lines_at, has_name, values_of, AreWithin}
use Rattle.http_wire.specs.Fields.{elements, is_comma, lists, trimmed}

-- these lines lie in the buffer, and have the same values of this name as all
abbrev HaveSame : List ℕ → List ℕ → List HeaderSpan → List HeaderSpan → Type 0
HaveSame buf name some all = AreWithin buf some × (values_of name (lines_at buf some) ≡ values_of name (lines_at buf all))

skip : (buf name : List ℕ) (line : HeaderSpan) (rest : List HeaderSpan) → has_name name (header_bytes buf line) ≡ false
    → values_of name (lines_at buf (line ∷ rest)) ≡ values_of name (lines_at buf rest)
skip buf name line rest other = rw other

-- a line with another name at the front is passed over
pub named_skip : (buf name : List ℕ) (left lines : List HeaderSpan) (line : HeaderSpan) (rest : List HeaderSpan) → left ≡ line ∷ rest
    → has_name name (header_bytes buf line) ≡ false → HaveSame buf name left lines → HaveSame buf name rest lines
named_skip buf name left lines line rest is other h =
    let there : HaveSame buf name (line ∷ rest) lines = subst (λ (l : List HeaderSpan). HaveSame buf name l lines) is h in
    (All-tail (IsHeaderWithin (length buf)) line rest there.0, sym (skip buf name line rest other) ∙ there.1)

here : (buf name : List ℕ) (line : HeaderSpan) (rest : List HeaderSpan) → has_name name (header_bytes buf line) ≡ true
    → values_of name (lines_at buf (line ∷ rest)) ≡ span_bytes buf line.value ∷ values_of name (lines_at buf rest)
here buf name line rest named = rw named

-- a line with the name at the front has the first value
pub named_here : (buf name : List ℕ) (left lines : List HeaderSpan) (line : HeaderSpan) (rest : List HeaderSpan) (value : List ℕ) → left ≡ line ∷ rest
    → has_name name (header_bytes buf line) ≡ true → value ≡ span_bytes buf line.value → HaveSame buf name left lines
    → AreWithin buf rest × (values_of name (lines_at buf lines) ≡ value ∷ values_of name (lines_at buf rest))
named_here buf name left lines line rest value is named v h =
    let there : HaveSame buf name (line ∷ rest) lines = subst (λ (l : List HeaderSpan). HaveSame buf name l lines) is h in (
      All-tail (IsHeaderWithin (length buf)) line rest there.0,
      sym there.1 ∙ here buf name line rest named ∙ ap (λ (x : List ℕ). x ∷ values_of name (lines_at buf rest)) (sym v),
    )

any_map : (p : List ℕ → Bool) (parts : List (List ℕ)) → list_any (λ part. p (trimmed part)) parts ≡ list_any p (map trimmed parts)
any_map p [] = refl
any_map p (part ∷ parts) = rw (any_map p parts)

any_single : (p : List ℕ → Bool) (x : List ℕ) → list_any p (x ∷ []) ≡ p x
any_single p x = by (p x) refl
  where
    by : (t : Bool) → p x ≡ t → list_any p (x ∷ []) ≡ p x
    by true is = rw is
    by false is = rw is

-- one value with one element lists that alone
pub only_one : (values : List (List ℕ)) (v e : List ℕ) → values ≡ v ∷ [] → elements v ≡ e ∷ []
    → (name : List ℕ) → list_any (lists name) values ≡ str_eq_ignore_ascii_case e name
only_one values v e one only name =
    let is_name : List ℕ → Bool = λ x. str_eq_ignore_ascii_case x name in
    ap (list_any (lists name)) one ∙ any_single (lists name) v ∙ any_map is_name (slice_split is_comma v)
    ∙ ap (list_any is_name) only ∙ any_single is_name e
