-- A text cut at its first colon.
use Rattle.std.proofs.Common.{◌≡◌, ◌≢◌, ℕ, ◌==◌, inl, inr, List, [], ◌∷◌, ◌++◌, length, get_or, All, Bool, false, refl, sym, ap, ◌∙◌, arith}
use Rattle.std.proofs.lemmas.List.{append_cancel_left}
use Rattle.std.proofs.lemmas.List.Splits.{slice_split_none, slice_split_at, length-slice_split}
use Rattle.std.proofs.lemmas.Bool.Decides.{eqb_tells}
use Rattle.std.specs.List.{slice_split}

-- is this byte a colon
abbrev pub is_colon : ℕ → Bool
is_colon b = b == 58

no_colon : (b : ℕ) → b ≢ 58 → is_colon b ≡ false
no_colon b h = elim (eqb_tells b 58) [ inl yes_ ↦ absurd (h yes_.1) | inr no_ ↦ no_.0 ]

no_colons : (text : List ℕ) → All (λ b. b ≢ 58) text → All (λ b. is_colon b ≡ false) text
no_colons text h = λ k d l. no_colon (get_or text k d) (h k d l)

head_same : (a b : List ℕ) (cs bs : List (List ℕ)) → a ∷ cs ≡ b ∷ bs → a ≡ b
head_same a b cs bs e = cc

cons_same : (b d : List ℕ) (x : ℕ) → x ∷ b ≡ x ∷ d → b ≡ d
cons_same b d x e = cc

-- the cut at the first colon is the only one
pub cut_same : (a b c d : List ℕ) → All (λ x. x ≢ 58) a → All (λ x. x ≢ 58) c → a ++ 58 ∷ b ≡ c ++ 58 ∷ d → (a ≡ c) × (b ≡ d)
cut_same a b c d ha hc e =
    let same : a ≡ c = head_same a c (slice_split is_colon b) (slice_split is_colon d)
    (sym (slice_split_at is_colon a 58 b (no_colons a ha) refl) ∙ ap (slice_split is_colon) e ∙ slice_split_at is_colon c 58 d (no_colons c hc) refl) in
    (same, cons_same b d 58 (append_cancel_left c (58 ∷ b) (58 ∷ d) (ap (λ x. x ++ 58 ∷ b) (sym same) ∙ e)))

pub never_empty : (xs : List ℕ) → [] ≡ slice_split is_colon xs → ⊥
never_empty xs q = let h : length (slice_split is_colon xs) ≡ 0 = ap length (sym q) in omega (arith, h, length-slice_split is_colon xs)

-- where there is no colon there is no cut
pub cut_none : (a b text : List ℕ) → All (λ x. x ≢ 58) text → text ≡ a ++ 58 ∷ b → All (λ x. x ≢ 58) a → ⊥
cut_none a b text h e ha =
    let parts : text ∷ [] ≡ a ∷ slice_split is_colon b =
    sym (slice_split_none is_colon text (no_colons text h)) ∙ ap (slice_split is_colon) e ∙ slice_split_at is_colon a 58 b (no_colons a ha) refl in
    let none : [] ≡ slice_split is_colon b = cc in
    never_empty b none
