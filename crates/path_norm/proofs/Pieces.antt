-- Pieces of a segment, and the places of bad escapes.
use Rattle.std.proofs.Common.{◌≡◌, ◌≢◌, ℕ, suc, ◌+◌, ◌-◌, ◌<◌, ◌≤◌, Bool, true, false, List, [], ◌∷◌, ◌++◌, length, get_or, take, drop, IsTrue, refl, sym, ap, ◌∙◌, subst, arith, append_assoc, append-nil, ap₂, ◌⊎◌, inl, inr}
use Rattle.std.proofs.lemmas.Bool.{cases_lt, false≢true}
use Rattle.std.proofs.lemmas.Bool.Decides.{nat_tests}
use Rattle.std.proofs.lemmas.List.{get_or_past, get_or_append_left, take_rest}
use Rattle.std.specs.Char.{is_ascii_hexdigit}
use Rattle.std.proofs.lemmas.Grind.{flat_map-append}
use Rattle.std.specs.List.{AllByRecursion}
use Rattle.path_norm.specs.Escapes.{Piece, plain, escape, IsPiece, spelled, written, AreSegment, segment_text, segment_written, HasWholeEscapes, IsBadEscape}
use Rattle.path_norm.specs.Normal.{IsSlashless}

pub all-append : {X : Type 0} (P : X → Type 0) (xs ys : List X) → AllByRecursion P xs → AllByRecursion P ys → AllByRecursion P (xs ++ ys)
all-append P [] ys h k = k
all-append P (x ∷ xs) ys h k = (h.0, all-append P xs ys h.1 k)

pub all-tail : {X : Type 0} (P : X → Type 0) (xs ys : List X) → AllByRecursion P (xs ++ ys) → AllByRecursion P ys
all-tail P [] ys h = h
all-tail P (x ∷ xs) ys h = all-tail P xs ys h.1

-- a bad escape after some bytes is one of the whole
bad-cons : (x : ℕ) (xs : List ℕ) (k : ℕ) → IsBadEscape xs k → IsBadEscape (x ∷ xs) (suc k)
bad-cons x xs k (here, none) =
    let one : suc k + 1 ≡ suc (k + 1) = omega arith in
    let two : suc k + 2 ≡ suc (k + 2) = omega arith in
    (here, λ (high, low). none (rw one at high, rw two at low))

pub whole-tail : (xs ys : List ℕ) → HasWholeEscapes (xs ++ ys) → HasWholeEscapes ys
whole-tail [] ys h = h
whole-tail (x ∷ xs) ys h = whole-tail xs ys (λ k bad. h (suc k) (bad-cons x (xs ++ ys) k bad))

-- a place of a `%` is in the text
pub inside : (xs : List ℕ) (k b : ℕ) → get_or xs k 0 ≡ b → 0 < b → k < length xs
inside xs k b here some =
    elim (cases_lt k (length xs)) [
      | inl less ↦ less
      | inr past ↦ let none : get_or xs k 0 ≡ 0 = get_or_past xs k 0 past in omega arith
    ]

hex_some : (b : ℕ) → IsTrue (is_ascii_hexdigit b) → (0 < b) × (b ≢ 47)
hex_some b h = (grind (arith, nat_tests), λ e. grind (arith, nat_tests))

both_true : (a b : Bool) → ¬ (¬ (IsTrue a × IsTrue b)) → IsTrue a × IsTrue b
both_true true true h = (refl, refl)
both_true true false h = absurd (h (λ (x, y). false≢true y))
both_true false b h = absurd (h (λ (x, y). false≢true x))

-- what follows a `%` at the front
pub digits_after : (xs : List ℕ) → HasWholeEscapes xs → get_or xs 0 0 ≡ 37
    → (3 ≤ length xs) × IsTrue (is_ascii_hexdigit (get_or xs 1 0)) × IsTrue (is_ascii_hexdigit (get_or xs 2 0))
digits_after xs whole here =
    let (high, low) = both_true (is_ascii_hexdigit (get_or xs 1 0)) (is_ascii_hexdigit (get_or xs 2 0)) (λ no. whole 0 (here, no)) in
    let some = inside xs 2 (get_or xs 2 0) refl (hex_some _ low).0 in
    (omega arith, high, low)

-- the first piece of a text
pub escape_split : (xs : List ℕ) → get_or xs 0 0 ≡ 37 → 3 ≤ length xs
    → xs ≡ spelled (escape (get_or xs 1 0) (get_or xs 2 0)) ++ take (length xs - 3) (drop 3 xs)
escape_split [] here long = absurd (omega arith)
escape_split (a ∷ []) here long = absurd (omega arith)
escape_split (a ∷ b ∷ []) here long = absurd (omega arith)
escape_split (a ∷ b ∷ c ∷ xs) here long = ap₂ (λ x r. x ∷ b ∷ c ∷ r) here (sym (take_rest (a ∷ b ∷ c ∷ xs) 3))

pub plain_split : (xs : List ℕ) → 0 < length xs → xs ≡ spelled (plain (get_or xs 0 0)) ++ take (length xs - 1) (drop 1 xs)
plain_split [] some = absurd (omega arith)
plain_split (a ∷ xs) some = ap (λ r. a ∷ r) (sym (take_rest (a ∷ xs) 1))

pub first_slashless : (xs : List ℕ) → 0 < length xs → IsSlashless xs → get_or xs 0 0 ≢ 47
first_slashless [] some h = absurd (omega arith)
first_slashless (a ∷ xs) some h = h.0

no_digit : (b : ℕ) → (b ≡ 0) ⊎ (b ≡ 47) → IsTrue (is_ascii_hexdigit b) → ⊥
no_digit b (inl e) h = let some : 0 < b = (hex_some b h).0 in omega arith
no_digit b (inr e) h = (hex_some b h).1 e

-- escapes are whole before a slash and before the end
get_or_at_seam : (xs ys : List ℕ) → get_or (xs ++ ys) (length xs) 0 ≡ get_or ys 0 0
get_or_at_seam [] ys = refl
get_or_at_seam (x ∷ xs) ys = get_or_at_seam xs ys

pub whole-front : (xs ys : List ℕ) → HasWholeEscapes (xs ++ ys) → (get_or ys 0 0 ≡ 0) ⊎ (get_or ys 0 0 ≡ 47) → HasWholeEscapes xs
whole-front xs ys whole stop k (here, none) =
    let within = inside xs k 37 here (omega arith) in
    let seam : (at : ℕ) → length xs ≡ at → IsTrue (is_ascii_hexdigit (get_or (xs ++ ys) at 0)) → ⊥ = λ at same hex.
    let is : get_or (xs ++ ys) at 0 ≡ get_or ys 0 0 = rw (← same) (get_or_at_seam xs ys) in
    let at_front : IsTrue (is_ascii_hexdigit (get_or ys 0 0)) = rw is at hex in
    no_digit (get_or ys 0 0) stop at_front in
    whole k (
      get_or_append_left xs ys 0 k within ∙ here,
      λ (high, low).
          elim (cases_lt (k + 2) (length xs)) [
            | inl more ↦ none (rw (get_or_append_left xs ys 0 (k + 1) (omega arith)) at high, rw (get_or_append_left xs ys 0 (k + 2) more) at low)
            | inr less ↦ elim (cases_lt (k + 1) (length xs)) [
              | inl one ↦ seam (k + 2) (omega arith) low
              | inr all ↦ seam (k + 1) (omega arith) high
            ]
          ],
    )

-- what `write_segment` has done
pub record Wrote (segment old rest new : List ℕ) : Type 0 where
  pub pieces : List Piece
  pub are : AreSegment pieces
  pub text_is : segment ≡ segment_text pieces ++ rest
  pub out_is : new ≡ old ++ segment_written pieces
  pub whole : HasWholeEscapes rest
  pub slashless : IsSlashless rest

pub wrote_none : (segment old : List ℕ) → HasWholeEscapes segment → IsSlashless segment → Wrote segment old segment old
wrote_none segment old whole slashless = record {
  pieces = [];
  are = tt;
  text_is = λ _. segment;
  out_is = sym (append-nil old);
  whole = whole;
  slashless = slashless;
}

pub wrote_more : (segment old rest out after new : List ℕ) (piece : Piece) → Wrote segment old rest out → IsPiece piece
    → rest ≡ spelled piece ++ after → new ≡ out ++ written piece → Wrote segment old after new
wrote_more segment old rest out after new piece w is split added = record {
  pieces = w.pieces ++ piece ∷ [];
  are = all-append IsPiece w.pieces (piece ∷ []) w.are (is, tt);
  text_is =
      w.text_is ∙ ap (λ t. segment_text w.pieces ++ t) split ∙ sym (append_assoc (segment_text w.pieces) (spelled piece) after)
      ∙ ap (λ t. t ++ after) (sym (flat_map-append spelled w.pieces (piece ∷ []) ∙ ap (λ t. segment_text w.pieces ++ t) (append-nil (spelled piece))));
  out_is =
      added ∙ ap (λ t. t ++ written piece) w.out_is ∙ append_assoc old (segment_written w.pieces) (written piece)
      ∙ ap (λ t. old ++ t) (sym (flat_map-append written w.pieces (piece ∷ []) ∙ ap (λ t. segment_written w.pieces ++ t) (append-nil (written piece))));
  whole = whole-tail (spelled piece) after (subst HasWholeEscapes split w.whole);
  slashless = all-tail _ (spelled piece) after (subst IsSlashless split w.slashless);
}
