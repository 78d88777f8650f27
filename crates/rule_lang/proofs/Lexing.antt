-- Tokens one after another.
use Rattle.std.proofs.Common.{◌≡◌, ◌≢◌, ℕ, zero, suc, ◌+◌, ◌-◌, ◌==◌, ◌<◌, ◌≤◌, ◌⊎◌, inl, inr, Bool, true, false, List, [], ◌∷◌, ◌++◌, length, get_or, take, drop, refl, sym, ap, ap₂, ◌∙◌, subst, arith, append_assoc, length-append, take-append-drop, length-take-le, length-drop, drop-cons, drop_at, Some}
use Rattle.std.proofs.Math.Seq.{take-length}
use Rattle.std.proofs.lemmas.Bool.{false≢true}
use Rattle.std.proofs.lemmas.List.{take_rest, take_all}
use Rattle.std.specs.List.{AllByRecursion}
use Rattle.std.specs.Char.{is_ascii_alphabetic}
use Rattle.rule_lang.specs.declared.token.Token.{Token}
use Rattle.rule_lang.specs.declared.token.TokenKind.{TokenKind}
use Rattle.rule_lang.specs.declared.token.TokenKind.TheVariants.{Name, Raw, Quoted}
use Rattle.rule_lang.specs.Tokens.{is_blank, AreBlank, IsSpelled, Lexes, AreTokens, FailsAt, IsFaultAt, IsUnclosed, HasBadEscape, Part, parts_text, IsPart, IsGoodPart}
use Rattle.rule_lang.specs.Scans.{BeginsWith, FirstBad}

-- what holds at each of the first n places holds of the first n
pub all_take : (P : ℕ → Type 0) (s : List ℕ) (n : ℕ) → n ≤ length s → ((k : ℕ) → k < n → P (get_or s k 0)) → AllByRecursion P (take n s)
all_take P s zero within h = tt
all_take P [] (suc n) within h = absurd (omega arith)
all_take P (c ∷ s) (suc n) within h = (h 0 (omega arith), all_take P s n (omega arith) (λ k less. h (suc k) (omega arith)))

true_not_false : (b : Bool) → b ≡ true → b ≡ false → ⊥
true_not_false b yes_ no_ = false≢true (sym no_ ∙ yes_)

-- one more token
pub lexes_more : (at : ℕ) (text : List ℕ) (tokens : List Token) (stop : ℕ) (after : List ℕ) (t : Token) (blanks spelled rest : List ℕ)
    → Lexes at text tokens stop after → AreBlank blanks → IsSpelled t.kind spelled rest → after ≡ blanks ++ (spelled ++ rest)
    → t.start ≡ stop + length blanks → t.end ≡ t.start + length spelled → Lexes at text (tokens ++ t ∷ []) t.end rest
lexes_more at text [] stop after t blanks spelled rest (whole, place) blank is split starts ends =
    (blanks, spelled, rest, blank, is, whole ∙ split, starts ∙ ap (λ n. n + length blanks) place, ends, (refl, refl))
lexes_more at text (u ∷ tokens) stop after t blanks spelled rest (b, s, r, are, kind, cut, from, to, more) blank is split starts ends =
    (b, s, r, are, kind, cut, from, to, lexes_more u.end r tokens stop after t blanks spelled rest more blank is split starts ends)

-- the first byte of a text
pub first_byte : (text : List ℕ) (c : ℕ) → 0 < length text → get_or text 0 0 ≡ c → text ≡ (c ∷ []) ++ drop 1 text
first_byte [] c some h = absurd (omega arith)
first_byte (x ∷ text) c some h = ap (λ y. y ∷ text) h

pub two_bytes : (text : List ℕ) (c : ℕ) → 0 < c → get_or text 0 0 ≡ c → get_or text 1 0 ≡ c → text ≡ (c ∷ c ∷ []) ++ drop 2 text
two_bytes [] c some h k = absurd (omega arith)
two_bytes (x ∷ []) c some h k = absurd (omega arith)
two_bytes (x ∷ y ∷ text) c some h k = ap₂ (λ a b. a ∷ b ∷ text) h k

-- a mark of one byte
pub one_mark : (kind : TokenKind) (c : ℕ) (text : List ℕ) → ((rest : List ℕ) → IsSpelled kind (c ∷ []) rest) → 0 < length text → get_or text 0 0 ≡ c → BeginsWith kind 1 text
one_mark kind c text is some here = (c ∷ [], drop 1 text, first_byte text c some here, refl, is (drop 1 text))

pub two_mark : (kind : TokenKind) (c : ℕ) (text : List ℕ) → ((rest : List ℕ) → IsSpelled kind (c ∷ c ∷ []) rest) → 0 < c → get_or text 0 0 ≡ c → get_or text 1 0 ≡ c → BeginsWith kind 2 text
two_mark kind c text is some here next = (c ∷ c ∷ [], drop 2 text, two_bytes text c some here next, refl, is (drop 2 text))

get_or-drop_front : (text : List ℕ) (n : ℕ) → get_or (drop n text) 0 0 ≡ get_or text n 0
get_or-drop_front text zero = refl
get_or-drop_front [] (suc n) = refl
get_or-drop_front (x ∷ text) (suc n) = get_or-drop_front text n

-- a name
pub name_mark : (text : List ℕ) (n : ℕ) → n ≤ length text → 0 < length text → is_ascii_alphabetic (get_or text 0 0) ≡ true
    → ((k : ℕ) → k < n → is_ascii_alphabetic (get_or text k 0) ≡ true) → is_ascii_alphabetic (get_or text n 0) ≡ false → BeginsWith Name n text
name_mark text zero within some letter all stop = absurd (true_not_false _ letter stop)
name_mark text (suc n) within some letter all stop =
    let len = length-take-le (suc n) text within in (
      take (suc n) text,
      drop (suc n) text,
      sym (take-append-drop (suc n) text),
      sym len,
      (omega arith, all_take (λ c. is_ascii_alphabetic c ≡ true) text (suc n) within all, ap is_ascii_alphabetic (get_or-drop_front text (suc n)) ∙ stop),
    )

-- a value in backquotes: its body is what stands up to the next backquote
pub raw_mark : (text : List ℕ) (at : ℕ) → get_or text 0 0 ≡ 96 → 0 < at → at < length text → get_or text at 0 ≡ 96
    → ((k : ℕ) → 0 < k → k < at → get_or text k 0 ≢ 96) → BeginsWith Raw (at + 1) text
raw_mark [] at here some within close none = absurd (omega arith)
raw_mark (q ∷ text) zero here some within close none = absurd (omega arith)
raw_mark (q ∷ text) (suc at) here some within close none =
    let body = take at text in
    let plain = all_take (λ c. c ≢ 96) text at (omega arith) (λ k less. none (suc k) (omega arith) (omega arith)) in
    let opened : drop at text ≡ 96 ∷ drop (suc at) text = drop-cons text at 0 (omega arith) ∙ ap (λ c. c ∷ drop (suc at) text) close in
    let split : q ∷ text ≡ (96 ∷ body ++ 96 ∷ []) ++ drop (suc at) text =
    ap₂ ◌∷◌ here (sym (take-append-drop at text) ∙ ap (λ r. body ++ r) opened ∙ sym (append_assoc body (96 ∷ []) (drop (suc at) text))) in
    let len = length-take-le at text (omega arith) in
    (96 ∷ body ++ 96 ∷ [], drop (suc at) text, split, omega (arith, length-append body (96 ∷ [])), (body, plain, refl))

pub raw_open : (text : List ℕ) → 0 < length text → get_or text 0 0 ≡ 96 → ((k : ℕ) → 0 < k → k < length text → get_or text k 0 ≢ 96) → IsUnclosed text
raw_open [] some here none = absurd (omega arith)
raw_open (q ∷ text) some here none =
    let all = all_take (λ c. c ≢ 96) text (length text) (omega arith) (λ k less. none (suc k) (omega arith) (omega arith)) in
    inl (text, subst (λ t. AllByRecursion (λ c. c ≢ 96) t) (take-length text) all, ap (λ c. c ∷ text) here)

-- what stands in double quotes, with its quotes
pub quote_mark : (text : List ℕ) (len : ℕ) → 0 < length text → get_or text 0 0 ≡ 34
    → (parts : List Part) × ((more : List ℕ) × AllByRecursion IsGoodPart parts × (take (length text - 1) (drop 1 text) ≡ parts_text parts ++ 34 ∷ more) × (len ≡ length (parts_text parts)))
    → BeginsWith Quoted (len + 2) text
quote_mark [] len some here read = absurd (omega arith)
quote_mark (q ∷ text) len some here (parts, (more, good, split, is)) =
    let whole : q ∷ text ≡ (34 ∷ parts_text parts ++ 34 ∷ []) ++ more =
    ap₂ ◌∷◌ here (sym (take_rest (q ∷ text) 1) ∙ split ∙ sym (append_assoc (parts_text parts) (34 ∷ []) more)) in
    (34 ∷ parts_text parts ++ 34 ∷ [], more, whole, omega (arith, length-append (parts_text parts) (34 ∷ [])), (parts, good, refl))

pub quote_open : (text : List ℕ) → 0 < length text → get_or text 0 0 ≡ 34
    → (parts : List Part) × ((tail : List ℕ) × AllByRecursion IsPart parts × (take (length text - 1) (drop 1 text) ≡ parts_text parts ++ tail) × ((tail ≡ []) ⊎ (tail ≡ 92 ∷ [])))
    → IsUnclosed text
quote_open [] some here read = absurd (omega arith)
quote_open (q ∷ text) some here (parts, (tail, are, split, last)) =
    inr (parts, (tail, are, ap₂ ◌∷◌ here (sym (take_rest (q ∷ text) 1) ∙ split), last))

pub quote_bad : (text : List ℕ) (at : ℕ) → 0 < length text → get_or text 0 0 ≡ 34
    → (parts : List Part) × ((more : List ℕ) × FirstBad parts (Some at) × (take (length text - 1) (drop 1 text) ≡ parts_text parts ++ 34 ∷ more))
    → HasBadEscape text (at + 1)
quote_bad [] at some here read = absurd (omega arith)
quote_bad (q ∷ text) at some here (parts, (more, (good, (escaped, (others, are, are_good, are_parts, no_quote, no_slash, place))), split)) = record {
  good = good;
  escaped = escaped;
  others = others;
  more = more;
  are_good = are_good;
  is_bad = (no_quote, no_slash);
  are_parts = are_parts;
  text_is =
      ap₂ ◌∷◌ here (sym (take_rest (q ∷ text) 1) ∙ split ∙ ap (λ p. parts_text p ++ 34 ∷ more) are);
  place_is = omega arith;
}

-- blanks, and then what follows them
blanks_first : (rest front : List ℕ) (n : ℕ) → front ≡ drop n rest → rest ≡ take n rest ++ front
blanks_first rest front n is = sym (ap (λ t. take n rest ++ t) is ∙ take-append-drop n rest)

pub tokens_end : (text : List ℕ) (tokens : List Token) (at : ℕ) (rest front : List ℕ) (n : ℕ) → Lexes 0 text tokens at rest → n ≤ length rest
    → ((k : ℕ) → k < n → is_blank (get_or rest k 0) ≡ true) → front ≡ drop n rest → length front ≡ 0 → AreTokens text tokens
tokens_end text tokens at rest front n lexes within before is empty =
    let left : length (drop n rest) ≡ 0 = ap length (sym is) ∙ empty in
    let all : take n rest ≡ rest = take_all n rest (omega (arith, length-drop n rest)) in
    record {
      stop = at;
      after = rest;
      lexes = lexes;
      blank = subst AreBlank all (all_take (λ c. is_blank c ≡ true) rest n within before);
    }

pub lexes_next : (text : List ℕ) (tokens : List Token) (at : ℕ) (rest front next : List ℕ) (n len : ℕ) (t : Token) → Lexes 0 text tokens at rest → n ≤ length rest
    → ((k : ℕ) → k < n → is_blank (get_or rest k 0) ≡ true) → front ≡ drop n rest → BeginsWith t.kind len front → next ≡ drop len front
    → t.start ≡ at + n → t.end ≡ at + n + len → Lexes 0 text (tokens ++ t ∷ []) t.end next
lexes_next text tokens at rest front next n len t lexes within before is_front (spelled, more, split, len_is, is) is_next starts ends =
    let blanks_len = length-take-le n rest within in
    let left = is_next ∙ ap (λ f. drop len f) split ∙ drop_at spelled more len (sym len_is) in
    subst (λ r. Lexes 0 text (tokens ++ t ∷ []) t.end r) (sym left)
    (lexes_more 0 text tokens at rest t (take n rest) spelled more lexes (all_take (λ c. is_blank c ≡ true) rest n within before) is
    (blanks_first rest front n is_front ∙ ap (λ f. take n rest ++ f) split) (omega arith) (omega arith))

pub lexes_fail : (text : List ℕ) (tokens : List Token) (at : ℕ) (rest front : List ℕ) (n inner : ℕ) → Lexes 0 text tokens at rest → n ≤ length rest
    → ((k : ℕ) → k < n → is_blank (get_or rest k 0) ≡ true) → front ≡ drop n rest → IsFaultAt front inner → FailsAt text (at + n + inner)
lexes_fail text tokens at rest front n inner lexes within before is_front fault =
    let blanks_len = length-take-le n rest within in
    record {
      tokens = tokens;
      stop = at;
      blanks = take n rest;
      bad = front;
      inner = inner;
      lexes = subst (λ r. Lexes 0 text tokens at r) (blanks_first rest front n is_front) lexes;
      blank = all_take (λ c. is_blank c ≡ true) rest n within before;
      fault = fault;
      place_is = omega arith;
    }

-- a text after two of its bytes, and after one
pub pair_split : (rest after : List ℕ) → 2 ≤ length rest → get_or rest 0 0 ≡ 92 → after ≡ drop 2 rest → rest ≡ 92 ∷ get_or rest 1 0 ∷ after
pair_split [] after some here is = absurd (omega arith)
pair_split (a ∷ []) after some here is = absurd (omega arith)
pair_split (a ∷ b ∷ rest) after some here is = ap₂ (λ x r. x ∷ b ∷ r) here (sym is)

pub one_split : (rest after : List ℕ) → 0 < length rest → after ≡ drop 1 rest → rest ≡ get_or rest 0 0 ∷ after
one_split [] after some is = absurd (omega arith)
one_split (a ∷ rest) after some is = ap (λ r. a ∷ r) (sym is)

pub not_empty : (n : ℕ) → (n == 0) ≡ false → 0 < n
not_empty zero h = absurd (false≢true (sym h))
not_empty (suc n) h = omega arith
