-- A text cut at its first `=`.
use Rattle.std.proofs.Common.{◌≡◌, ℕ, suc, ◌+◌, ◌<◌, ◌==◌, List, [], ◌∷◌, ◌++◌, length, take, drop, arith, ap, ◌∙◌, refl, subst, Some, None, inl, inr, ne_eqb, lt-ltb, le-ltb, length-append, add-one}
use Rattle.std.specs.Prelude.{◌⊎◌}
use Rattle.std.specs.List.{position, position_or_len}
use Rattle.std.specs.Option.{option_map}
use Rattle.std.proofs.lemmas.Bool.{cases_eq}
use Rattle.command_words.specs.Cuts.{Cut, cut_at}
use Rattle.command_words.specs.Pieces.{HasNoSign}

place_none : (xs : List ℕ) → HasNoSign xs → position_or_len (λ b. b == 61) xs ≡ length xs
place_none [] h = refl
place_none (x ∷ xs) h =
    let more = place_none xs h.1 in
    rw (ne_eqb x 61 h.0) (omega arith)

place_some : (xs ys : List ℕ) → HasNoSign xs → position_or_len (λ b. b == 61) (xs ++ 61 ∷ ys) ≡ length xs
place_some [] ys h = refl
place_some (x ∷ xs) ys h =
    let more = place_some xs ys h.1 in
    rw (ne_eqb x 61 h.0) (omega arith)

take_front : (xs ys : List ℕ) → take (length xs) (xs ++ ys) ≡ xs
take_front [] ys = refl
take_front (x ∷ xs) ys = ap (λ (t : List ℕ). x ∷ t) (take_front xs ys)

drop_past : (xs ys : List ℕ) → drop (suc (length xs)) (xs ++ 61 ∷ ys) ≡ ys
drop_past [] ys = refl
drop_past (x ∷ xs) ys = drop_past xs ys

-- a text without the sign isn't cut
pub uncut : (xs : List ℕ) → HasNoSign xs → cut_at 61 xs ≡ None
uncut xs h = rw (place_none xs h, le-ltb (length xs) (length xs) (omega arith)) refl

abbrev parts : List ℕ → ℕ → Cut
parts text at = record { before = take at text; behind = drop (at + 1) text }

-- and another is cut behind what has none
pub cut_behind : (xs ys : List ℕ) → HasNoSign xs → cut_at 61 (xs ++ 61 ∷ ys) ≡ Some (record { before = xs; behind = ys })
cut_behind xs ys h =
    let inside : length xs < length (xs ++ 61 ∷ ys) = omega (arith, length-append xs (61 ∷ ys)) in
    let at : position (λ b. b == 61) (xs ++ 61 ∷ ys) ≡ Some (length xs) = rw (place_some xs ys h, lt-ltb (length xs) _ inside) refl in
    let front : take (length xs) (xs ++ 61 ∷ ys) ≡ xs = take_front xs (61 ∷ ys) in
    let back : drop (length xs + 1) (xs ++ 61 ∷ ys) ≡ ys = rw add-one (drop_past xs ys) in
    ap (option_map (parts (xs ++ 61 ∷ ys))) at
    ∙ ap (λ (t : List ℕ). Some (record { before = t; behind = drop (length xs + 1) (xs ++ 61 ∷ ys) })) front
    ∙ ap (λ (t : List ℕ). Some (record { before = xs; behind = t })) back

split : (xs : List ℕ) → HasNoSign xs ⊎ ((a : List ℕ) × (b : List ℕ) × (xs ≡ a ++ 61 ∷ b) × HasNoSign a)
split [] = inl tt
split (x ∷ xs) = elim (cases_eq x 61) [
  | inl same ↦ inr ([], xs, ap (λ (k : ℕ). k ∷ xs) same, tt)
  | inr ne ↦ elim (split xs) [
    | inl none ↦ inl (ne, none)
    | inr (a, b, is, none) ↦ inr (x ∷ a, b, ap (λ (t : List ℕ). x ∷ t) is, (ne, none))
  ]
]

pub cut_none : (xs : List ℕ) → cut_at 61 xs ≡ None → HasNoSign xs
cut_none xs e = elim (split xs) [
  | inl none ↦ none
  | inr (a, b, is, none) ↦
      let found : cut_at 61 xs ≡ Some (record { before = a; behind = b }) = ap (cut_at 61) is ∙ cut_behind a b none in
      absurd (let f : ⊥ = cc in f)
]

pub cut_some : (xs : List ℕ) (cut : Cut) → cut_at 61 xs ≡ Some cut → (xs ≡ cut.before ++ 61 ∷ cut.behind) × HasNoSign cut.before
cut_some xs cut e = elim (split xs) [
  | inl none ↦
      let not : cut_at 61 xs ≡ None = uncut xs none in
      absurd (let f : ⊥ = cc in f)
  | inr (a, b, is, none) ↦
      let found : cut_at 61 xs ≡ Some (record { before = a; behind = b }) = ap (cut_at 61) is ∙ cut_behind a b none in
      let same : record { before = a; behind = b } ≡ cut = cc in
      subst (λ (c : Cut). (xs ≡ c.before ++ 61 ∷ c.behind) × HasNoSign c.before) same (is, none)
]
