-- Lists cut at their commas, and the codings that several of them give together.
use Rattle.std.proofs.Common.{◌≡◌, ◌≢◌, ℕ, ◌<◌, ◌≤◌, inl, inr, ◌⊎◌, List, [], ◌∷◌, ◌++◌, length, map, All, Bool, false, IsTrue, ◌↔◌, refl, sym, ap, ◌∙◌, subst, append_assoc, length-append, arith}
use Rattle.std.specs.List.{slice_split}
use Rattle.std.proofs.lemmas.List.{append-nil, length-map}
use Rattle.std.proofs.lemmas.List.Splits.{slice_split_none, slice_split_at, length-slice_split}
use Rattle.std.proofs.lemmas.Grind.{flat_map-append}
use Rattle.std.proofs.lemmas.Bool.{false≢true}
use Rattle.http_wire.specs.Fields.{is_comma, trimmed, elements}
use Rattle.http_wire.specs.Framing.{codings, IsChunked, EndInChunked, AreChunkedAlone}

-- a text without a comma is its one element
pub elements_none : (text : List ℕ) → All (λ b. is_comma b ≡ false) text → elements text ≡ trimmed text ∷ []
elements_none text h = ap (map trimmed) (slice_split_none is_comma text h)

-- the first element ends at the first comma
pub elements_cut : (text a b : List ℕ) → text ≡ a ++ 44 ∷ b → All (λ x. is_comma x ≡ false) a → elements text ≡ trimmed a ∷ elements b
elements_cut text a b e h = ap elements e ∙ ap (map trimmed) (slice_split_at is_comma a 44 b h refl)

pub shorter : (text a b : List ℕ) → text ≡ a ++ 44 ∷ b → length b < length text
shorter text a b e = let whole = ap length e in omega (arith, whole, length-append a (44 ∷ b))

-- one element more at the front
pub more_front : (text first : List ℕ) (front : List (List ℕ)) (left rest : List ℕ)
    → elements text ≡ front ++ elements left → elements left ≡ first ∷ elements rest
    → elements text ≡ (front ++ first ∷ []) ++ elements rest
more_front text first front left rest e f = e ∙ ap (λ x. front ++ x) f ∙ sym (append_assoc front (first ∷ []) (elements rest))

some_element : (text : List ℕ) → 1 ≤ length (elements text)
some_element text = omega (arith, length-map (slice_split is_comma text) trimmed, length-slice_split is_comma text)

codings_two : (v w : List ℕ) (more : List (List ℕ)) → 2 ≤ length (codings (v ∷ w ∷ more))
codings_two v w more =
    omega (arith, some_element v, some_element w, length-append (elements v) (elements w ++ codings more), length-append (elements w) (codings more))

one_is_short : (xs : List (List ℕ)) (x : List ℕ) → 2 ≤ length xs → xs ≡ x ∷ [] → ⊥
one_is_short xs x l e = let short = ap length e in omega (arith, l, short)

-- codings that are one come from one value
pub one_value : (values : List (List ℕ)) (e : List ℕ) → ((v : List ℕ) → values ≢ v ∷ []) → codings values ≢ e ∷ []
one_value [] e never q = cc
one_value (v ∷ []) e never q = never v refl
one_value (v ∷ w ∷ more) e never q = one_is_short (codings (v ∷ w ∷ more)) e (codings_two v w more) q

codings_of_one : (values : List (List ℕ)) (v : List ℕ) → values ≡ v ∷ [] → codings values ≡ elements v
codings_of_one values v e = ap codings e ∙ append-nil (elements v)

-- a value with a comma has more than one coding
pub more_codings : (values : List (List ℕ)) (v first rest : List ℕ) → values ≡ v ∷ [] → elements v ≡ first ∷ elements rest
    → (e : List ℕ) → codings values ≢ e ∷ []
more_codings values v first rest one cut e q =
    let n = ap length (codings_of_one values v one ∙ cut) in
    one_is_short (codings values) e (omega (arith, n, some_element rest)) q

pub not_alone : (values : List (List ℕ)) → ((e : List ℕ) → codings values ≢ e ∷ []) → (IsTrue false ↔ AreChunkedAlone (codings values))
not_alone values never = (λ f. absurd (false≢true f), λ a. absurd (never a.0 a.1))

one_same : (a b : List ℕ) → a ∷ [] ≡ b ∷ [] → a ≡ b
one_same a b e = cc

pub alone : (values : List (List ℕ)) (v e : List ℕ) (r : Bool) → values ≡ v ∷ [] → elements v ≡ e ∷ [] → (IsTrue r ↔ IsChunked e)
    → (IsTrue r ↔ AreChunkedAlone (codings values))
alone values v e r one only h =
    let all : codings values ≡ e ∷ [] = codings_of_one values v one ∙ only in
    (λ t. (e, all, h.0 t), λ a. h.1 (subst IsChunked (one_same a.0 e (sym a.1 ∙ all)) a.2))

not_nil : (ys : List (List ℕ)) (y : List ℕ) → [] ≡ ys ++ y ∷ [] → ⊥
not_nil [] y e = cc
not_nil (b ∷ ys) y e = cc

tail_same : (a b : List ℕ) (xs ys : List (List ℕ)) → a ∷ xs ≡ b ∷ ys → xs ≡ ys
tail_same a b xs ys e = cc

last_same : (xs ys : List (List ℕ)) (x y : List ℕ) → xs ++ x ∷ [] ≡ ys ++ y ∷ [] → x ≡ y
last_same [] [] x y e = one_same x y e
last_same [] (b ∷ ys) x y e = absurd (not_nil ys y (tail_same x b [] (ys ++ y ∷ []) e))
last_same (a ∷ xs) [] x y e = absurd (not_nil xs x (sym (tail_same a y (xs ++ x ∷ []) [] e)))
last_same (a ∷ xs) (b ∷ ys) x y e = last_same xs ys x y (tail_same a b (xs ++ x ∷ []) (ys ++ y ∷ []) e)

-- the last coding is the last element of the last value
pub ends : (values front : List (List ℕ)) (v : List ℕ) (before : List (List ℕ)) (e : List ℕ) (r : Bool)
    → values ≡ front ++ v ∷ [] → elements v ≡ before ++ e ∷ [] → (IsTrue r ↔ IsChunked e)
    → (IsTrue r ↔ ((values ≡ []) ⊎ EndInChunked (codings values)))
ends values front v before e r last cut h =
    let all : codings values ≡ (codings front ++ before) ++ e ∷ [] =
    ap codings last ∙ flat_map-append elements front (v ∷ []) ∙ ap (λ x. codings front ++ x) (append-nil (elements v) ∙ cut)
    ∙ sym (append_assoc (codings front) before (e ∷ [])) in (
      λ t. inr (codings front ++ before, e, all, h.0 t),
      λ s. elim s [
        | inl none ↦ absurd (not_nil front v (sym none ∙ last))
        | inr end ↦ h.1 (subst IsChunked (last_same end.0 (codings front ++ before) end.1 e (sym end.2 ∙ all)) end.3)
      ],
    )
