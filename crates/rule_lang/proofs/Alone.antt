-- A text has one list of tokens, or one place at which they stop.
use Rattle.std.proofs.Common.{◌≡◌, ◌≢◌, ℕ, ◌+◌, ◌==◌, ◌⊎◌, inl, inr, Bool, true, false, ◌||◌, if◌then◌else◌, List, [], ◌∷◌, ◌++◌, length, get_or, map, refl, sym, ap, ap₂, ◌∙◌, subst, arith, append_assoc, eqb-true}
use Rattle.std.proofs.lemmas.Bool.{false≢true}
use Rattle.std.proofs.lemmas.List.{append_cancel_left}
use Rattle.std.specs.List.{AllByRecursion}
use Rattle.std.specs.Char.{is_ascii_alphabetic}
use Rattle.rule_lang.specs.declared.token.TokenKind.{TokenKind}
use Rattle.rule_lang.specs.declared.token.TokenKind.TheVariants as kind
use Rattle.rule_lang.specs.Grammar.{IsValueText, part_character}
use Rattle.rule_lang.specs.Tokens.{is_blank, AreBlank, Part, character, pair, parts_text, IsPart, IsGoodPart, IsSpelled, BeginsNone, IsUnclosed, HasBadEscape, IsFaultAt}

-- ---- lists

pub head_same : (x y : ℕ) (xs ys : List ℕ) → x ∷ xs ≡ y ∷ ys → x ≡ y
head_same x y xs ys e = cc

pub tail_same : (x y : ℕ) (xs ys : List ℕ) → x ∷ xs ≡ y ∷ ys → xs ≡ ys
tail_same x y xs ys e = cc

not_nil : (x : ℕ) (xs : List ℕ) → [] ≡ x ∷ xs → ⊥
not_nil x xs e = cc

differs : (b : Bool) → b ≡ true → b ≡ false → ⊥
differs b t f = false≢true (sym f ∙ t)

-- ---- the first byte of a token tells its kind

abbrev front_kind : ℕ → TokenKind
front_kind c =
    if is_ascii_alphabetic c then kind.Name else (if c == 124 then kind.Or else (if c == 38 then kind.And else (if c == 33 then kind.Not
    else (if c == 40 then kind.Open else (if c == 41 then kind.Close else (if c == 44 then kind.Comma else (if c == 96 then kind.Raw else kind.Quoted)))))))

blank_is : (c d : ℕ) (b : Bool) → is_ascii_alphabetic d ≡ false → (b || (c == d)) ≡ true → (b ≡ true → is_ascii_alphabetic c ≡ false) → is_ascii_alphabetic c ≡ false
blank_is c d true letter h other = other refl
blank_is c d false letter h other = subst (λ x. is_ascii_alphabetic x ≡ false) (sym (eqb-true c d h)) letter

pub blank_no_letter : (c : ℕ) → is_blank c ≡ true → is_ascii_alphabetic c ≡ false
blank_no_letter c h = blank_is c 10 (((c == 32) || (c == 9)) || (c == 13)) refl h
    (λ h2. blank_is c 13 ((c == 32) || (c == 9)) refl h2 (λ h3. blank_is c 9 (c == 32) refl h3 (λ h4. subst (λ x. is_ascii_alphabetic x ≡ false) (sym (eqb-true c 32 h4)) refl)))

letter_no_blank : (c : ℕ) → is_ascii_alphabetic c ≡ true → is_blank c ≡ false
letter_no_blank c letter = at_test (is_blank c) refl
  where
    at_test : (e : Bool) → is_blank c ≡ e → is_blank c ≡ false
    at_test true e = absurd (differs (is_ascii_alphabetic c) letter (blank_no_letter c e))
    at_test false e = e

-- a token's first byte
record Front (k : TokenKind) (spelled : List ℕ) : Type 0 where
  first : ℕ
  others : List ℕ
  spelled_is : spelled ≡ first ∷ others
  no_blank : is_blank first ≡ false
  kind_is : front_kind first ≡ k

front_of : (k : TokenKind) (spelled after : List ℕ) → IsSpelled k spelled after → Front k spelled
front_of kind.Or spelled after is = record { first = 124; others = 124 ∷ []; spelled_is = is; no_blank = refl; kind_is = refl }
front_of kind.And spelled after is = record { first = 38; others = 38 ∷ []; spelled_is = is; no_blank = refl; kind_is = refl }
front_of kind.Not spelled after is = record { first = 33; others = []; spelled_is = is; no_blank = refl; kind_is = refl }
front_of kind.Open spelled after is = record { first = 40; others = []; spelled_is = is; no_blank = refl; kind_is = refl }
front_of kind.Close spelled after is = record { first = 41; others = []; spelled_is = is; no_blank = refl; kind_is = refl }
front_of kind.Comma spelled after is = record { first = 44; others = []; spelled_is = is; no_blank = refl; kind_is = refl }
front_of kind.Name [] after is = absurd (omega (arith, is.0))
front_of kind.Name (c ∷ spelled) after is = record { first = c; others = spelled; spelled_is = refl; no_blank = letter_no_blank c is.1.0; kind_is = rw is.1.0 refl }
front_of kind.Raw spelled after (body, plain, is) = record { first = 96; others = body ++ 96 ∷ []; spelled_is = is; no_blank = refl; kind_is = refl }
front_of kind.Quoted spelled after (parts, good, is) = record { first = 34; others = parts_text parts ++ 34 ∷ []; spelled_is = is; no_blank = refl; kind_is = refl }

-- ---- values

until_quote : (a b r s : List ℕ) → AllByRecursion (λ c. c ≢ 96) a → AllByRecursion (λ c. c ≢ 96) b → a ++ 96 ∷ r ≡ b ++ 96 ∷ s → (a ≡ b) × (r ≡ s)
until_quote [] [] r s h k e = (refl, tail_same 96 96 r s e)
until_quote [] (c ∷ b) r s h k e = absurd (k.0 (sym (head_same 96 c r (b ++ 96 ∷ s) e)))
until_quote (c ∷ a) [] r s h k e = absurd (h.0 (head_same c 96 (a ++ 96 ∷ r) s e))
until_quote (c ∷ a) (d ∷ b) r s h k e =
    let (same, rest) = until_quote a b r s h.1 k.1 (tail_same c d (a ++ 96 ∷ r) (b ++ 96 ∷ s) e) in
    (ap₂ ◌∷◌ (head_same c d (a ++ 96 ∷ r) (b ++ 96 ∷ s) e) same, rest)

parts_until : (a b : List Part) (r s : List ℕ) → AllByRecursion IsPart a → AllByRecursion IsPart b → parts_text a ++ 34 ∷ r ≡ parts_text b ++ 34 ∷ s → (a ≡ b) × (r ≡ s)
parts_until [] [] r s h k e = (refl, tail_same 34 34 r s e)
parts_until [] (character d ∷ b) r s h k e = absurd (k.0.0 (sym (head_same 34 d r (parts_text b ++ 34 ∷ s) e)))
parts_until [] (pair d ∷ b) r s h k e = absurd (let x = head_same 34 92 r (d ∷ (parts_text b ++ 34 ∷ s)) e in omega arith)
parts_until (character c ∷ a) [] r s h k e = absurd (h.0.0 (head_same c 34 (parts_text a ++ 34 ∷ r) s e))
parts_until (pair c ∷ a) [] r s h k e = absurd (let x = head_same 92 34 (c ∷ (parts_text a ++ 34 ∷ r)) s e in omega arith)
parts_until (character c ∷ a) (character d ∷ b) r s h k e =
    let (same, rest) = parts_until a b r s h.1 k.1 (tail_same c d (parts_text a ++ 34 ∷ r) (parts_text b ++ 34 ∷ s) e) in
    (ap₂ (λ x l. character x ∷ l) (head_same c d (parts_text a ++ 34 ∷ r) (parts_text b ++ 34 ∷ s) e) same, rest)
parts_until (character c ∷ a) (pair d ∷ b) r s h k e = absurd (h.0.1 (head_same c 92 (parts_text a ++ 34 ∷ r) (d ∷ (parts_text b ++ 34 ∷ s)) e))
parts_until (pair c ∷ a) (character d ∷ b) r s h k e = absurd (k.0.1 (sym (head_same 92 d (c ∷ (parts_text a ++ 34 ∷ r)) (parts_text b ++ 34 ∷ s) e)))
parts_until (pair c ∷ a) (pair d ∷ b) r s h k e =
    let inner = tail_same 92 92 (c ∷ (parts_text a ++ 34 ∷ r)) (d ∷ (parts_text b ++ 34 ∷ s)) e in
    let (same, rest) = parts_until a b r s h.1 k.1 (tail_same c d (parts_text a ++ 34 ∷ r) (parts_text b ++ 34 ∷ s) inner) in
    (ap₂ (λ x l. pair x ∷ l) (head_same c d (parts_text a ++ 34 ∷ r) (parts_text b ++ 34 ∷ s) inner) same, rest)

-- what is not closed is not closed
parts_open : (a b : List Part) (tail s : List ℕ) → AllByRecursion IsPart a → AllByRecursion IsPart b → ((tail ≡ []) ⊎ (tail ≡ 92 ∷ [])) → parts_text a ++ tail ≡ parts_text b ++ 34 ∷ s → ⊥
parts_open [] [] tail s h k (inl none) e = not_nil 34 s (sym none ∙ e)
parts_open [] [] tail s h k (inr slash) e = let x = head_same 92 34 [] s (sym slash ∙ e) in absurd (omega arith)
parts_open [] (character d ∷ b) tail s h k (inl none) e = not_nil d (parts_text b ++ 34 ∷ s) (sym none ∙ e)
parts_open [] (character d ∷ b) tail s h k (inr slash) e = k.0.1 (sym (head_same 92 d [] (parts_text b ++ 34 ∷ s) (sym slash ∙ e)))
parts_open [] (pair d ∷ b) tail s h k (inl none) e = not_nil 92 (d ∷ (parts_text b ++ 34 ∷ s)) (sym none ∙ e)
parts_open [] (pair d ∷ b) tail s h k (inr slash) e = not_nil d (parts_text b ++ 34 ∷ s) (tail_same 92 92 [] (d ∷ (parts_text b ++ 34 ∷ s)) (sym slash ∙ e))
parts_open (character c ∷ a) [] tail s h k t e = h.0.0 (head_same c 34 (parts_text a ++ tail) s e)
parts_open (pair c ∷ a) [] tail s h k t e = let x = head_same 92 34 (c ∷ (parts_text a ++ tail)) s e in absurd (omega arith)
parts_open (character c ∷ a) (character d ∷ b) tail s h k t e = parts_open a b tail s h.1 k.1 t (tail_same c d (parts_text a ++ tail) (parts_text b ++ 34 ∷ s) e)
parts_open (character c ∷ a) (pair d ∷ b) tail s h k t e = h.0.1 (head_same c 92 (parts_text a ++ tail) (d ∷ (parts_text b ++ 34 ∷ s)) e)
parts_open (pair c ∷ a) (character d ∷ b) tail s h k t e = k.0.1 (sym (head_same 92 d (c ∷ (parts_text a ++ tail)) (parts_text b ++ 34 ∷ s) e))
parts_open (pair c ∷ a) (pair d ∷ b) tail s h k t e =
    parts_open a b tail s h.1 k.1 t (tail_same c d (parts_text a ++ tail) (parts_text b ++ 34 ∷ s) (tail_same 92 92 (c ∷ (parts_text a ++ tail)) (d ∷ (parts_text b ++ 34 ∷ s)) e))

good_are_parts : (a : List Part) → AllByRecursion IsGoodPart a → AllByRecursion IsPart a
good_are_parts [] h = tt
good_are_parts (character c ∷ a) h = (h.0, good_are_parts a h.1)
good_are_parts (pair c ∷ a) h = (tt, good_are_parts a h.1)

letters_until : (a b r s : List ℕ) → AllByRecursion (λ c. is_ascii_alphabetic c ≡ true) a → AllByRecursion (λ c. is_ascii_alphabetic c ≡ true) b
    → is_ascii_alphabetic (get_or r 0 0) ≡ false → is_ascii_alphabetic (get_or s 0 0) ≡ false → a ++ r ≡ b ++ s → (a ≡ b) × (r ≡ s)
letters_until [] [] r s h k x y e = (refl, e)
letters_until [] (d ∷ b) r s h k x y e = absurd (differs (is_ascii_alphabetic d) k.0 (sym (ap (λ l. is_ascii_alphabetic (get_or l 0 0)) e) ∙ x))
letters_until (c ∷ a) [] r s h k x y e = absurd (differs (is_ascii_alphabetic c) h.0 (ap (λ l. is_ascii_alphabetic (get_or l 0 0)) e ∙ y))
letters_until (c ∷ a) (d ∷ b) r s h k x y e =
    let (same, rest) = letters_until a b r s h.1 k.1 x y (tail_same c d (a ++ r) (b ++ s) e) in
    (ap₂ ◌∷◌ (head_same c d (a ++ r) (b ++ s) e) same, rest)

-- ---- two spellings of one kind

mark_same : (mark s t r u : List ℕ) → s ≡ mark → t ≡ mark → s ++ r ≡ t ++ u → (s ≡ t) × (r ≡ u)
mark_same mark s t r u is_s is_t e = (is_s ∙ sym is_t, append_cancel_left mark r u (sym (ap (λ x. x ++ r) is_s) ∙ e ∙ ap (λ x. x ++ u) is_t))

quote_inner : (q : ℕ) (a r : List ℕ) → (q ∷ (a ++ q ∷ [])) ++ r ≡ q ∷ (a ++ q ∷ r)
quote_inner q a r = ap (λ x. q ∷ x) (append_assoc a (q ∷ []) r)

same_kind : (k : TokenKind) (s t r u : List ℕ) → IsSpelled k s r → IsSpelled k t u → s ++ r ≡ t ++ u → (s ≡ t) × (r ≡ u)
same_kind kind.Name s t r u x y e = letters_until s t r u x.1 y.1 x.2 y.2 e
same_kind kind.Raw s t r u (a, plain, is) (b, plain2, is2) e =
    let inner = tail_same 96 96 (a ++ 96 ∷ r) (b ++ 96 ∷ u) (sym (quote_inner 96 a r) ∙ sym (ap (λ x. x ++ r) is) ∙ e ∙ ap (λ x. x ++ u) is2 ∙ quote_inner 96 b u) in
    let (same, rest) = until_quote a b r u plain plain2 inner in
    (is ∙ ap (λ x. 96 ∷ (x ++ 96 ∷ [])) same ∙ sym is2, rest)
same_kind kind.Quoted s t r u (a, good, is) (b, good2, is2) e =
    let inner = tail_same 34 34 (parts_text a ++ 34 ∷ r) (parts_text b ++ 34 ∷ u)
    (sym (quote_inner 34 (parts_text a) r) ∙ sym (ap (λ x. x ++ r) is) ∙ e ∙ ap (λ x. x ++ u) is2 ∙ quote_inner 34 (parts_text b) u) in
    let (same, rest) = parts_until a b r u (good_are_parts a good) (good_are_parts b good2) inner in
    (is ∙ ap (λ x. 34 ∷ (parts_text x ++ 34 ∷ [])) same ∙ sym is2, rest)
same_kind kind.Or s t r u x y e = mark_same (124 ∷ 124 ∷ []) s t r u x y e
same_kind kind.And s t r u x y e = mark_same (38 ∷ 38 ∷ []) s t r u x y e
same_kind kind.Not s t r u x y e = mark_same (33 ∷ []) s t r u x y e
same_kind kind.Open s t r u x y e = mark_same (40 ∷ []) s t r u x y e
same_kind kind.Close s t r u x y e = mark_same (41 ∷ []) s t r u x y e
same_kind kind.Comma s t r u x y e = mark_same (44 ∷ []) s t r u x y e

-- ---- two tokens at one front

same_front : (k j : TokenKind) (s t r u : List ℕ) → Front k s → Front j t → s ++ r ≡ t ++ u → k ≡ j
same_front k j s t r u f g e =
    let here : f.first ≡ g.first = head_same f.first g.first (f.others ++ r) (g.others ++ u) (sym (ap (λ x. x ++ r) f.spelled_is) ∙ e ∙ ap (λ x. x ++ u) g.spelled_is) in
    sym f.kind_is ∙ ap front_kind here ∙ g.kind_is

pub same_token : (k j : TokenKind) (s t r u : List ℕ) → IsSpelled k s r → IsSpelled j t u → s ++ r ≡ t ++ u → (k ≡ j) × (s ≡ t) × (r ≡ u)
same_token k j s t r u x y e =
    let same = same_front k j s t r u (front_of k s r x) (front_of j t u y) e in
    let (is, rest) = same_kind j s t r u (subst (λ i. IsSpelled i s r) same x) y e in
    (same, is, rest)

-- ---- blanks before what begins with none

-- a text that begins with no blank
pub IsNoBlank : List ℕ → Type 0
IsNoBlank text = (c : ℕ) × ((rest : List ℕ) × (text ≡ c ∷ rest) × (is_blank c ≡ false))

pub spelled_no_blank : (k : TokenKind) (s r : List ℕ) → IsSpelled k s r → IsNoBlank (s ++ r)
unfolding IsNoBlank
spelled_no_blank k s r is = let f = front_of k s r is in (f.first, (f.others ++ r, ap (λ x. x ++ r) f.spelled_is, f.no_blank))

pub blank_not : (text : List ℕ) → AreBlank text → IsNoBlank text → ⊥
unfolding IsNoBlank
blank_not [] h (c, (rest, is, plain)) = not_nil c rest is
blank_not (b ∷ text) h (c, (rest, is, plain)) = differs (is_blank b) h.0 (ap is_blank (head_same b c text rest is) ∙ plain)

pub same_blanks : (a b x y : List ℕ) → AreBlank a → AreBlank b → IsNoBlank x → IsNoBlank y → a ++ x ≡ b ++ y → (a ≡ b) × (x ≡ y)
unfolding IsNoBlank
same_blanks [] [] x y h k nx ny e = (refl, e)
same_blanks [] (d ∷ b) x y h k (c, (rest, is, plain)) ny e = absurd (differs (is_blank d) k.0 (ap is_blank (head_same d c (b ++ y) rest (sym e ∙ is)) ∙ plain))
same_blanks (c ∷ a) [] x y h k nx (d, (rest, is, plain)) e = absurd (differs (is_blank c) h.0 (ap is_blank (head_same c d (a ++ x) rest (e ∙ is)) ∙ plain))
same_blanks (c ∷ a) (d ∷ b) x y h k nx ny e =
    let (same, rest) = same_blanks a b x y h.1 k.1 nx ny (tail_same c d (a ++ x) (b ++ y) e) in
    (ap₂ ◌∷◌ (head_same c d (a ++ x) (b ++ y) e) same, rest)

-- ---- faults

nth_first : (text : List ℕ) (c : ℕ) (rest : List ℕ) → text ≡ c ∷ rest → get_or text 0 0 ≡ c
nth_first text c rest is = ap (λ l. get_or l 0 0) is

none_not_spelled : (k : TokenKind) (s r : List ℕ) → BeginsNone (s ++ r) → IsSpelled k s r → ⊥
none_not_spelled kind.Or s r n is = n.no_or (ap (λ l. get_or (l ++ r) 0 0) is) (ap (λ l. get_or (l ++ r) 1 0) is)
none_not_spelled kind.And s r n is = n.no_and (ap (λ l. get_or (l ++ r) 0 0) is) (ap (λ l. get_or (l ++ r) 1 0) is)
none_not_spelled kind.Not s r n is = n.no_mark.0 (ap (λ l. get_or (l ++ r) 0 0) is)
none_not_spelled kind.Open s r n is = n.no_mark.1.0 (ap (λ l. get_or (l ++ r) 0 0) is)
none_not_spelled kind.Close s r n is = n.no_mark.1.1.0 (ap (λ l. get_or (l ++ r) 0 0) is)
none_not_spelled kind.Comma s r n is = n.no_mark.1.1.1.0 (ap (λ l. get_or (l ++ r) 0 0) is)
none_not_spelled kind.Raw s r n (body, plain, is) = n.no_mark.1.1.1.1.0 (ap (λ l. get_or (l ++ r) 0 0) is)
none_not_spelled kind.Quoted s r n (parts, good, is) = n.no_mark.1.1.1.1.1.0 (ap (λ l. get_or (l ++ r) 0 0) is)
none_not_spelled kind.Name [] r n is = absurd (omega (arith, is.0))
none_not_spelled kind.Name (c ∷ s) r n is = differs (is_ascii_alphabetic c) is.1.0 n.no_letter

all_past : (a r : List ℕ) → AllByRecursion (λ c. c ≢ 96) (a ++ 96 ∷ r) → ⊥
all_past [] r h = h.0 refl
all_past (c ∷ a) r h = all_past a r h.1

-- a text that begins with a double quote
quoted_front : (k : TokenKind) (s r inner : List ℕ) → IsSpelled k s r → s ++ r ≡ 34 ∷ inner → (parts : List Part) × AllByRecursion IsGoodPart parts × (inner ≡ parts_text parts ++ 34 ∷ r)
quoted_front k s r inner is e =
    let f = front_of k s r is in
    let here : f.first ≡ 34 = head_same f.first 34 (f.others ++ r) inner (sym (ap (λ x. x ++ r) f.spelled_is) ∙ e) in
    let quoted : k ≡ kind.Quoted = sym f.kind_is ∙ ap front_kind here in
    let (parts, good, is2) = (let x : IsSpelled kind.Quoted s r = subst (λ i. IsSpelled i s r) quoted is in x) in
    (parts, good, tail_same 34 34 inner (parts_text parts ++ 34 ∷ r) (sym e ∙ ap (λ x. x ++ r) is2 ∙ quote_inner 34 (parts_text parts) r))

raw_front : (k : TokenKind) (s r inner : List ℕ) → IsSpelled k s r → s ++ r ≡ 96 ∷ inner → (body : List ℕ) × (inner ≡ body ++ 96 ∷ r)
raw_front k s r inner is e =
    let f = front_of k s r is in
    let here : f.first ≡ 96 = head_same f.first 96 (f.others ++ r) inner (sym (ap (λ x. x ++ r) f.spelled_is) ∙ e) in
    let raw : k ≡ kind.Raw = sym f.kind_is ∙ ap front_kind here in
    let (body, plain, is2) = (let x : IsSpelled kind.Raw s r = subst (λ i. IsSpelled i s r) raw is in x) in
    (body, tail_same 96 96 inner (body ++ 96 ∷ r) (sym e ∙ ap (λ x. x ++ r) is2 ∙ quote_inner 96 body r))

all_middle : (a : List Part) (p : Part) (b : List Part) → AllByRecursion IsGoodPart (a ++ p ∷ b) → IsGoodPart p
all_middle [] p b h = h.0
all_middle (q ∷ a) p b h = all_middle a p b h.1

parts_all : (a : List Part) (c : ℕ) (b : List Part) → AllByRecursion IsGoodPart a → AllByRecursion IsPart b → AllByRecursion IsPart (a ++ pair c ∷ b)
parts_all [] c b h k = (tt, k)
parts_all (character d ∷ a) c b h k = (h.0, parts_all a c b h.1 k)
parts_all (pair d ∷ a) c b h k = (tt, parts_all a c b h.1 k)

bad_not_good : (c : ℕ) → (c ≢ 34) × (c ≢ 92) → IsGoodPart (pair c) → ⊥
bad_not_good c bad (inl quote) = bad.0 quote
bad_not_good c bad (inr slash) = bad.1 slash

pub no_blank_of_fault : (text : List ℕ) (place : ℕ) → IsFaultAt text place → IsNoBlank text
unfolding IsNoBlank
no_blank_of_fault [] place (inl (inl none, at)) = absurd (let s = none.some in omega arith)
no_blank_of_fault (c ∷ text) place (inl (inl none, at)) = (c, (text, refl, none.no_blank))
no_blank_of_fault text place (inl (inr (inl (body, plain, is)), at)) = (96, (body, is, refl))
no_blank_of_fault text place (inl (inr (inr (parts, (tail, are, is, last))), at)) = (34, (parts_text parts ++ tail, is, refl))
no_blank_of_fault text place (inr bad) = (34, (parts_text (bad.good ++ pair bad.escaped ∷ bad.others) ++ 34 ∷ bad.more, bad.text_is, refl))

-- a text has one value
pub value_same : (text v w : List ℕ) → IsValueText text v → IsValueText text w → v ≡ w
value_same text v w (inl (plain, is)) (inl (plain2, is2)) = (until_quote v w [] [] plain plain2 (tail_same 96 96 (v ++ 96 ∷ []) (w ++ 96 ∷ []) (sym is ∙ is2))).0
value_same text v w (inl (plain, is)) (inr (parts, good, value, is2)) =
    absurd (let x = head_same 96 34 (v ++ 96 ∷ []) (parts_text parts ++ 34 ∷ []) (sym is ∙ is2) in omega arith)
value_same text v w (inr (parts, good, value, is)) (inl (plain, is2)) =
    absurd (let x = head_same 34 96 (parts_text parts ++ 34 ∷ []) (w ++ 96 ∷ []) (sym is ∙ is2) in omega arith)
value_same text v w (inr (parts, good, value, is)) (inr (others, good2, value2, is2)) =
    let (same, rest) = parts_until parts others [] [] (good_are_parts parts good) (good_are_parts others good2) (tail_same 34 34 (parts_text parts ++ 34 ∷ []) (parts_text others ++ 34 ∷ []) (sym is ∙ is2)) in
    value ∙ ap (λ p. map part_character p) same ∙ sym value2

pub fault_not_spelled : (k : TokenKind) (s r : List ℕ) (place : ℕ) → IsFaultAt (s ++ r) place → IsSpelled k s r → ⊥
fault_not_spelled k s r place (inl (inl none, at)) is = none_not_spelled k s r none is
fault_not_spelled k s r place (inl (inr (inl (body, plain, e)), at)) is =
    let (inner, split) = raw_front k s r body is e in
    all_past inner r (subst (AllByRecursion (λ c. c ≢ 96)) split plain)
fault_not_spelled k s r place (inl (inr (inr (parts, (tail, are, e, last))), at)) is =
    let (others, good, split) = quoted_front k s r (parts_text parts ++ tail) is e in
    parts_open parts others tail r are (good_are_parts others good) last split
fault_not_spelled k s r place (inr bad) is =
    let all = bad.good ++ pair bad.escaped ∷ bad.others in
    let (others, good, split) = quoted_front k s r (parts_text all ++ 34 ∷ bad.more) is bad.text_is in
    let (same, rest) = parts_until all others bad.more r (parts_all bad.good bad.escaped bad.others bad.are_good bad.are_parts) (good_are_parts others good) split in
    bad_not_good bad.escaped bad.is_bad (all_middle bad.good (pair bad.escaped) bad.others (subst (AllByRecursion IsGoodPart) (sym same) good))

first_bad_same : (a b : List Part) (c d : ℕ) (x y : List Part) → AllByRecursion IsGoodPart a → AllByRecursion IsGoodPart b → (c ≢ 34) × (c ≢ 92) → (d ≢ 34) × (d ≢ 92) → a ++ pair c ∷ x ≡ b ++ pair d ∷ y → a ≡ b
first_bad_same [] [] c d x y h k bc bd e = refl
first_bad_same [] (p ∷ b) c d x y h k bc bd e = absurd (bad_not_good c bc (subst IsGoodPart (sym (let z : pair c ≡ p = cc in z)) k.0))
first_bad_same (p ∷ a) [] c d x y h k bc bd e = absurd (bad_not_good d bd (subst IsGoodPart (let z : p ≡ pair d = cc in z) h.0))
first_bad_same (p ∷ a) (q ∷ b) c d x y h k bc bd e =
    let here : p ≡ q = cc in
    let rest : a ++ pair c ∷ x ≡ b ++ pair d ∷ y = cc in
    ap₂ ◌∷◌ here (first_bad_same a b c d x y h.1 k.1 bc bd rest)

none_not_bad : (text : List ℕ) (place : ℕ) → BeginsNone text → HasBadEscape text place → ⊥
none_not_bad text place n bad = n.no_mark.1.1.1.1.1.0 (ap (λ l. get_or l 0 0) bad.text_is)

unclosed_not_bad : (text : List ℕ) (place : ℕ) → IsUnclosed text → HasBadEscape text place → ⊥
unclosed_not_bad text place (inl (body, plain, is)) bad =
    let x = head_same 96 34 body (parts_text (bad.good ++ pair bad.escaped ∷ bad.others) ++ 34 ∷ bad.more) (sym is ∙ bad.text_is) in absurd (omega arith)
unclosed_not_bad text place (inr (parts, (tail, are, is, last))) bad =
    let all = bad.good ++ pair bad.escaped ∷ bad.others in
    parts_open parts all tail bad.more are (parts_all bad.good bad.escaped bad.others bad.are_good bad.are_parts) last
    (tail_same 34 34 (parts_text parts ++ tail) (parts_text all ++ 34 ∷ bad.more) (sym is ∙ bad.text_is))

pub same_fault : (text : List ℕ) (p q : ℕ) → IsFaultAt text p → IsFaultAt text q → p ≡ q
same_fault text p q (inl (a, at)) (inl (b, to)) = at ∙ sym to
same_fault text p q (inl (inl n, at)) (inr bad) = absurd (none_not_bad text q n bad)
same_fault text p q (inl (inr u, at)) (inr bad) = absurd (unclosed_not_bad text q u bad)
same_fault text p q (inr bad) (inl (inl n, to)) = absurd (none_not_bad text p n bad)
same_fault text p q (inr bad) (inl (inr u, to)) = absurd (unclosed_not_bad text p u bad)
same_fault text p q (inr a) (inr b) =
    let left = a.good ++ pair a.escaped ∷ a.others in
    let right = b.good ++ pair b.escaped ∷ b.others in
    let (same, rest) = parts_until left right a.more b.more (parts_all a.good a.escaped a.others a.are_good a.are_parts) (parts_all b.good b.escaped b.others b.are_good b.are_parts)
    (tail_same 34 34 (parts_text left ++ 34 ∷ a.more) (parts_text right ++ 34 ∷ b.more) (sym a.text_is ∙ b.text_is)) in
    a.place_is ∙ ap (λ g. 1 + length (parts_text g)) (first_bad_same a.good b.good a.escaped b.escaped a.others b.others a.are_good b.are_good a.is_bad b.is_bad same) ∙ sym b.place_is
