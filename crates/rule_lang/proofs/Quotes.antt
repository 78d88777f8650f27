-- What stands in double quotes, a part at a time.
use Rattle.std.proofs.Common.{◌≡◌, ◌≢◌, ℕ, ◌+◌, ◌<◌, ◌≤◌, ◌⊎◌, inl, inr, List, [], ◌∷◌, ◌++◌, length, get_or, refl, sym, ap, ◌∙◌, arith, append_assoc, append-nil, length-append, Option, Some, None, eq-eqb, ne_eqb}
use Rattle.std.proofs.lemmas.Bool.{cases_eq}
use Rattle.std.proofs.lemmas.Grind.{flat_map-append}
use Rattle.std.specs.List.{AllByRecursion}
use Rattle.rule_lang.specs.Tokens.{Part, character, pair, part_text, parts_text, IsPart, IsGoodPart}
use Rattle.rule_lang.specs.Scans.{FirstBad, first_bad, closed_by, Quotes}

pub all-append : {X : Type 0} (P : X → Type 0) (xs ys : List X) → AllByRecursion P xs → AllByRecursion P ys → AllByRecursion P (xs ++ ys)
all-append P [] ys h k = k
all-append P (x ∷ xs) ys h k = (h.0, all-append P xs ys h.1 k)

-- the parts that were read
pub record Scanned (body rest : List ℕ) (at : ℕ) (bad : Option ℕ) : Type 0 where
  pub parts : List Part
  pub are : AllByRecursion IsPart parts
  pub split : body ≡ parts_text parts ++ rest
  pub at_is : at ≡ length (parts_text parts)
  pub bad_is : FirstBad parts bad

pub scanned_none : (body : List ℕ) → Scanned body body 0 None
scanned_none body = record { parts = []; are = tt; split = λ _. body; at_is = λ _. 0; bad_is = tt }

parts_snoc : (parts : List Part) (p : Part) → parts_text (parts ++ p ∷ []) ≡ parts_text parts ++ part_text p
parts_snoc parts p = flat_map-append part_text parts (p ∷ []) ∙ ap (λ t. parts_text parts ++ t) (append-nil (part_text p))

-- the first bad escape stays the first
still_bad : (parts : List Part) (at : ℕ) (p : Part) → IsPart p → FirstBad parts (Some at) → FirstBad (parts ++ p ∷ []) (Some at)
still_bad parts at p is (good, (escaped, (others, split, are_good, are_parts, no_quote, no_slash, place))) =
    (good, (escaped, (others ++ p ∷ [], ap (λ x. x ++ p ∷ []) split ∙ append_assoc good (pair escaped ∷ others) (p ∷ []), are_good, all-append IsPart others (p ∷ []) are_parts (is, tt), no_quote, no_slash, place)))

more_character : (parts : List Part) (c : ℕ) (bad : Option ℕ) → c ≢ 34 → c ≢ 92 → FirstBad parts bad → FirstBad (parts ++ character c ∷ []) bad
more_character parts c None no_quote no_slash h = all-append IsGoodPart parts (character c ∷ []) h ((no_quote, no_slash), tt)
more_character parts c (Some at) no_quote no_slash h = still_bad parts at (character c) (no_quote, no_slash) h

-- one more character
pub scanned_character : (body rest after : List ℕ) (at c : ℕ) (bad : Option ℕ) → Scanned body rest at bad → c ≢ 34 → c ≢ 92 → rest ≡ c ∷ after → Scanned body after (at + 1) bad
scanned_character body rest after at c bad s no_quote no_slash is = record {
  parts = s.parts ++ character c ∷ [];
  are = all-append IsPart s.parts (character c ∷ []) s.are ((no_quote, no_slash), tt);
  split = s.split ∙ ap (λ t. parts_text s.parts ++ t) is ∙ sym (append_assoc (parts_text s.parts) (c ∷ []) after) ∙ ap (λ t. t ++ after) (sym (parts_snoc s.parts (character c)));
  at_is = let e = s.at_is in let len = ap length (parts_snoc s.parts (character c)) in omega (arith, length-append (parts_text s.parts) (c ∷ []));
  bad_is = more_character s.parts c bad no_quote no_slash s.bad_is;
}

-- one more escape
more_pair : (parts : List Part) (c at : ℕ) (bad : Option ℕ) → at ≡ length (parts_text parts) → AllByRecursion IsPart parts → FirstBad parts bad → FirstBad (parts ++ pair c ∷ []) (first_bad bad at c)
more_pair parts c at (Some bad) place are h = still_bad parts bad (pair c) tt h
more_pair parts c at None place are h =
    elim (cases_eq c 34) [
      | inl quote ↦ rw (eq-eqb c 34 quote) (all-append IsGoodPart parts (pair c ∷ []) h (inl quote, tt))
      | inr no_quote ↦ elim (cases_eq c 92) [
        | inl slash ↦ rw (ne_eqb c 34 no_quote, eq-eqb c 92 slash) (all-append IsGoodPart parts (pair c ∷ []) h (inr slash, tt))
        | inr no_slash ↦ rw (ne_eqb c 34 no_quote, ne_eqb c 92 no_slash) (parts, (c, ([], refl, h, tt, no_quote, no_slash, place)))
      ]
    ]

pub scanned_pair : (body rest after : List ℕ) (at c : ℕ) (bad : Option ℕ) → Scanned body rest at bad → rest ≡ 92 ∷ c ∷ after → Scanned body after (at + 2) (first_bad bad at c)
scanned_pair body rest after at c bad s is = record {
  parts = s.parts ++ pair c ∷ [];
  are = all-append IsPart s.parts (pair c ∷ []) s.are (tt, tt);
  split = s.split ∙ ap (λ t. parts_text s.parts ++ t) is ∙ sym (append_assoc (parts_text s.parts) (92 ∷ c ∷ []) after) ∙ ap (λ t. t ++ after) (sym (parts_snoc s.parts (pair c)));
  at_is = let e = s.at_is in let len = ap length (parts_snoc s.parts (pair c)) in omega (arith, length-append (parts_text s.parts) (92 ∷ c ∷ []));
  bad_is = more_pair s.parts c at bad s.at_is s.are s.bad_is;
}

-- the value is closed
pub scanned_closed : (body rest : List ℕ) (at : ℕ) (bad : Option ℕ) → Scanned body rest at bad → 0 < length rest → get_or rest 0 0 ≡ 34 → Quotes body (closed_by at bad)
scanned_closed body [] at bad s some here = absurd (omega arith)
scanned_closed body (q ∷ rest) at None s some here = (s.parts, (rest, s.bad_is, s.split ∙ ap (λ c. parts_text s.parts ++ c ∷ rest) here, s.at_is))
scanned_closed body (q ∷ rest) at (Some bad) s some here = (s.parts, (rest, s.bad_is, s.split ∙ ap (λ c. parts_text s.parts ++ c ∷ rest) here))

-- it is not
pub scanned_end : (body rest : List ℕ) (at : ℕ) (bad : Option ℕ) → Scanned body rest at bad → length rest ≤ 0 → (parts : List Part) × ((tail : List ℕ) × AllByRecursion IsPart parts × (body ≡ parts_text parts ++ tail) × ((tail ≡ []) ⊎ (tail ≡ 92 ∷ [])))
scanned_end body [] at bad s none = (s.parts, ([], s.are, s.split, inl refl))
scanned_end body (q ∷ rest) at bad s none = absurd (omega arith)

pub scanned_slash : (body rest : List ℕ) (at : ℕ) (bad : Option ℕ) → Scanned body rest at bad → 0 < length rest → length rest < 2 → get_or rest 0 0 ≡ 92 → (parts : List Part) × ((tail : List ℕ) × AllByRecursion IsPart parts × (body ≡ parts_text parts ++ tail) × ((tail ≡ []) ⊎ (tail ≡ 92 ∷ [])))
scanned_slash body [] at bad s some few here = absurd (omega arith)
scanned_slash body (q ∷ []) at bad s some few here = (s.parts, (q ∷ [], s.are, s.split, inr (ap (λ c. c ∷ []) here)))
scanned_slash body (q ∷ r ∷ rest) at bad s some few here = absurd (omega arith)
