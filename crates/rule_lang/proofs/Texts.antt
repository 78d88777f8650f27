-- A text whose tokens are a form is a text of its rule.
use Rattle.std.proofs.Common.{◌≡◌, ℕ, ◌+◌, inl, inr, true, List, [], ◌∷◌, ◌++◌, length, refl, sym, ap, ap₂, ◌∙◌, subst, arith, append_assoc, append-nil, length-append}
use Rattle.std.specs.List.{AllByRecursion}
use Rattle.rule_lang.specs.declared.token.Token.{Token}
use Rattle.rule_lang.specs.declared.token.TokenKind.{TokenKind}
use Rattle.rule_lang.specs.declared.token.TokenKind.TheVariants as kind
use Rattle.rule_lang.specs.declared.matcher.Matcher.{Matcher}
use Rattle.rule_lang.specs.declared.matcher.Matcher.TheVariants.{Header, HeaderRegexp, Host, HostRegexp, Method, Path, PathPrefix, PathRegexp, Query, QueryRegexp, ClientIp}
use Rattle.rule_lang.specs.declared.print.Level.{Level}
use Rattle.rule_lang.specs.declared.print.Level.TheVariants as level
use Rattle.rule_lang.specs.Tokens.{AreBlank, IsSpelled, Lexes, AreTokens}
use Rattle.rule_lang.specs.Matchers.{IsNamed, TakesCount}
use Rattle.rule_lang.specs.Trees.{Tree, call, negation, both, either}
use Rattle.rule_lang.specs.Prints.{and_is_bare, or_is_bare}
use Rattle.rule_lang.specs.Grammar.{IsValueText, IsValue, AreTwoValues, AreValues, Calls, Reads, reads_call, reads_not, reads_group, reads_and, reads_or, reads_after_blank, reads_before_blank, IsRuleText}
use Rattle.rule_lang.specs.Forms.{CallTokens, Form, called, negated, grouped, joined, chosen, AreSeparated, IsCall, Parses, parses_call, parses_not, parses_group, parses_and, parses_or, IsRule, form_calls}
use Rattle.rule_lang.specs.Calls.{token_text, HasValue, HasOne, HasBoth}
use Rattle.rule_lang.specs.Values.{Stands, IsRightCall, call_tree}
use Rattle.rule_lang.specs.Builds.{form_tree}
use Rattle.rule_lang.specs.Reading.{Means}
use Rattle.rule_lang.proofs.Valuing.{token_text_is}

-- ---- places

-- the rest of a whole text from a place on
pub record Placed (whole text : List ℕ) (place : ℕ) : Type 0 where
  pub front : List ℕ
  pub whole_is : whole ≡ front ++ text
  pub place_is : place ≡ length front

pub placed_more : (whole text own rest : List ℕ) (place stop : ℕ) → text ≡ own ++ rest → stop ≡ place + length own → Placed whole text place → Placed whole rest stop
placed_more whole text own rest place stop is further p = record {
  front = p.front ++ own;
  whole_is = p.whole_is ∙ ap (λ t. p.front ++ t) is ∙ sym (append_assoc p.front own rest);
  place_is = let e = p.place_is in omega (arith, length-append p.front own);
}

-- a token and what follows it
pub record Lexed (whole text : List ℕ) (k : TokenKind) (t : Token) (tokens : List Token) (place stop : ℕ) (after : List ℕ) : Type 0 where
  pub blanks : List ℕ
  pub spelled : List ℕ
  pub rest : List ℕ
  pub blank : AreBlank blanks
  pub is_spelled : IsSpelled k spelled rest
  pub text_is : text ≡ (blanks ++ spelled) ++ rest
  pub further : t.end ≡ place + length (blanks ++ spelled)
  pub lexes : Lexes t.end rest tokens stop after
  pub placed : Placed whole rest t.end
  pub stands : Stands whole t
  pub spelled_is : token_text whole t ≡ spelled

pub lexed : (whole text : List ℕ) (k : TokenKind) (t : Token) (tokens : List Token) (place stop : ℕ) (after : List ℕ) → t.kind ≡ k → Placed whole text place
    → Lexes place text (t ∷ tokens) stop after → Lexed whole text k t tokens place stop after
lexed whole text k t tokens place stop after is p (blanks, spelled, rest, blank, is_spelled, split, starts, ends, more) =
    let e = p.place_is in
    let here : Stands whole t = record {
      before = p.front ++ blanks;
      spelled = spelled;
      after = rest;
      is_spelled = is_spelled;
      text_is = p.whole_is ∙ ap (λ x. p.front ++ x) split ∙ sym (append_assoc p.front blanks (spelled ++ rest));
      starts = omega (arith, length-append p.front blanks);
      ends = ends;
    } in
    record {
      blanks = blanks;
      spelled = spelled;
      rest = rest;
      blank = blank;
      is_spelled = subst (λ x. IsSpelled x spelled rest) is is_spelled;
      text_is = split ∙ sym (append_assoc blanks spelled rest);
      further = omega (arith, length-append blanks spelled);
      lexes = more;
      placed = placed_more whole text (blanks ++ spelled) rest place t.end (split ∙ sym (append_assoc blanks spelled rest)) (omega (arith, length-append blanks spelled)) p;
      stands = here;
      spelled_is = token_text_is whole t here;
    }

pub lexes_split : (xs ys : List Token) (place stop : ℕ) (text after : List ℕ) → Lexes place text (xs ++ ys) stop after
    → (mid : ℕ) × ((rest : List ℕ) × Lexes place text xs mid rest × Lexes mid rest ys stop after)
lexes_split [] ys place stop text after l = (place, (text, (refl, refl), l))
lexes_split (t ∷ xs) ys place stop text after (blanks, spelled, rest, blank, is, split, starts, ends, more) =
    let (mid, (left, l, r)) = lexes_split xs ys t.end stop rest after more in
    (mid, (left, (blanks, spelled, rest, blank, is, split, starts, ends, l), r))

-- all tokens stand in the text
lexes_stand : (whole : List ℕ) (tokens : List Token) (place stop : ℕ) (text after : List ℕ) → Placed whole text place → Lexes place text tokens stop after → AllByRecursion (Stands whole) tokens
lexes_stand whole [] place stop text after p l = tt
lexes_stand whole (t ∷ tokens) place stop text after p l =
    let x = lexed whole text t.kind t tokens place stop after refl p l in
    (x.stands, lexes_stand whole tokens t.end stop x.rest after x.placed x.lexes)

pub placed_start : (text : List ℕ) → Placed text text 0
placed_start text = record { front = []; whole_is = λ _. text; place_is = λ _. 0 }

pub tokens_stand : (text : List ℕ) (tokens : List Token) → AreTokens text tokens → AllByRecursion (Stands text) tokens
tokens_stand text tokens are = lexes_stand text tokens 0 are.stop text are.after (placed_start text) are.lexes

-- ---- blanks round a rule

blanks_before : (at : Level) (blanks own : List ℕ) (r : Tree) → AreBlank blanks → Reads at own r → Reads at (blanks ++ own) r
blanks_before at [] own r blank p = p
blanks_before at (b ∷ blanks) own r blank p = reads_after_blank at b (blanks ++ own) r blank.0 (blanks_before at blanks own r blank.1 p)

blanks_after : (at : Level) (blanks own : List ℕ) (r : Tree) → AreBlank blanks → Reads at own r → Reads at (own ++ blanks) r
blanks_after at [] own r blank p = subst (λ t. Reads at t r) (sym (append-nil own)) p
blanks_after at (b ∷ blanks) own r blank p =
    subst (λ t. Reads at t r) (append_assoc own (b ∷ []) blanks) (blanks_after at blanks (own ++ b ∷ []) r blank.1 (reads_before_blank at b own r blank.0 p))

-- ---- the values of a call

one_value_text : (blanks spelled more value : List ℕ) → AreBlank blanks → AreBlank more → IsValueText spelled value → IsValue ((blanks ++ spelled) ++ more) value
one_value_text blanks spelled more value before after is = record {
  before = blanks;
  middle = spelled;
  after = more;
  blank_before = before;
  blank_after = after;
  is_value = is;
  text_is = append_assoc blanks spelled more;
}

one_values : (whole : List ℕ) (m : Matcher) (t : Token) (text key value : List ℕ) → TakesCount m 1 → HasOne whole m t key value
    → ((v : List ℕ) → HasValue whole t v → IsValue text v) → AreValues m text key value
one_values whole Query t text key value count has is = inr (is key has.0, has.1)
one_values whole Host t text key value count has is = (is value has.0, has.1)
one_values whole HostRegexp t text key value count has is = (is value has.0, has.1)
one_values whole Method t text key value count has is = (is value has.0, has.1)
one_values whole Path t text key value count has is = (is value has.0, has.1)
one_values whole PathPrefix t text key value count has is = (is value has.0, has.1)
one_values whole PathRegexp t text key value count has is = (is value has.0, has.1)
one_values whole ClientIp t text key value count has is = (is value has.0, has.1)
one_values whole Header t text key value count has is = absurd (omega arith)
one_values whole HeaderRegexp t text key value count has is = absurd (omega arith)
one_values whole QueryRegexp t text key value count has is = absurd (omega arith)

two_values : (m : Matcher) (text key value : List ℕ) → TakesCount m 2 → AreTwoValues text key value → AreValues m text key value
two_values Query text key value count two = inl two
two_values Header text key value count two = two
two_values HeaderRegexp text key value count two = two
two_values QueryRegexp text key value count two = two
two_values Host text key value count two = absurd (omega arith)
two_values HostRegexp text key value count two = absurd (omega arith)
two_values Method text key value count two = absurd (omega arith)
two_values Path text key value count two = absurd (omega arith)
two_values PathPrefix text key value count two = absurd (omega arith)
two_values PathRegexp text key value count two = absurd (omega arith)
two_values ClientIp text key value count two = absurd (omega arith)

-- the text of the values, with blanks after it
abbrev ValuesText : List ℕ → List ℕ → ℕ → ℕ → Matcher → List ℕ → List ℕ → Type 0
ValuesText text after place stop m key value =
    (own : List ℕ) × (text ≡ own ++ after) × (stop ≡ place + length own) × ((more : List ℕ) → AreBlank more → AreValues m (own ++ more) key value)

-- one part after another
two_parts : (text x rest own after : List ℕ) → text ≡ x ++ rest → rest ≡ own ++ after → text ≡ (x ++ own) ++ after
two_parts text x rest own after a b = a ∙ ap (λ r. x ++ r) b ∙ sym (append_assoc x own after)

two_lengths : (place mid stop : ℕ) (x own : List ℕ) → mid ≡ place + length x → stop ≡ mid + length own → stop ≡ place + length (x ++ own)
two_lengths place mid stop x own a b = omega (arith, length-append x own)

ends_text : (text x rest after : List ℕ) → text ≡ x ++ rest → rest ≡ after → text ≡ x ++ after
ends_text text x rest after a b = a ∙ ap (λ r. x ++ r) b

comma_text : (x y c z more : List ℕ) → c ≡ 44 ∷ [] → (x ++ ((y ++ c) ++ z)) ++ more ≡ (x ++ y) ++ 44 ∷ (z ++ more)
comma_text x y c z more is = ap (λ k. (x ++ ((y ++ k) ++ z)) ++ more) is ∙ simp append_assoc

call_values : (whole : List ℕ) (m : Matcher) (values between : List Token) (place stop : ℕ) (text after key value : List ℕ) → Placed whole text place → AreSeparated between values
    → TakesCount m (length values) → HasBoth whole m values key value → Lexes place text between stop after → ValuesText text after place stop m key value
call_values whole m [] between place stop text after key value p separated count has l = absurd has
call_values whole m (t ∷ []) between place stop text after key value p (others, split, is_value, none) count has l =
    let all : Lexes place text (t ∷ []) stop after = subst (λ ts. Lexes place text ts stop after) (split ∙ ap (λ r. t ∷ r) none) l in
    let x = lexed whole text t.kind t [] place stop after refl p all in (
      x.blanks ++ x.spelled,
      ends_text text (x.blanks ++ x.spelled) x.rest after x.text_is x.lexes.0,
      x.lexes.1 ∙ x.further,
      λ more blank. one_values whole m t ((x.blanks ++ x.spelled) ++ more) key value count has
          (λ v h. one_value_text x.blanks x.spelled more v x.blank blank (subst (λ s. IsValueText s v) x.spelled_is h)),
    )
call_values whole m (t ∷ u ∷ []) between place stop text after key value p (others, split, is_value, (comma, (rest, cut, is_comma, is_second, none))) count has l =
    let all : Lexes place text (t ∷ comma ∷ u ∷ []) stop after =
    subst (λ ts. Lexes place text ts stop after) (split ∙ ap (λ r. t ∷ r) (cut ∙ ap (λ r. comma ∷ u ∷ r) none)) l in
    let x = lexed whole text t.kind t (comma ∷ u ∷ []) place stop after refl p all in
    let y = lexed whole x.rest kind.Comma comma (u ∷ []) t.end stop after is_comma x.placed x.lexes in
    let z = lexed whole y.rest u.kind u [] comma.end stop after refl y.placed y.lexes in
    let last = x.blanks ++ x.spelled in
    let mid = y.blanks ++ y.spelled in
    let end_ = z.blanks ++ z.spelled in
    let end_text = ends_text y.rest end_ z.rest after z.text_is z.lexes.0 in
    let end_stop : stop ≡ comma.end + length end_ = z.lexes.1 ∙ z.further in
    let two : (more : List ℕ) → AreBlank more → AreTwoValues ((last ++ (mid ++ end_)) ++ more) key value =
    λ more blank. record {
      left = last ++ y.blanks;
      right = end_ ++ more;
      is_key = one_value_text x.blanks x.spelled y.blanks key x.blank y.blank (subst (λ s. IsValueText s key) x.spelled_is has.0);
      is_value = one_value_text z.blanks z.spelled more value z.blank blank (subst (λ s. IsValueText s value) z.spelled_is has.1);
      text_is = comma_text last y.blanks y.spelled end_ more y.is_spelled;
    } in (
      last ++ (mid ++ end_),
      two_parts text last x.rest (mid ++ end_) after x.text_is (two_parts x.rest mid y.rest end_ after y.text_is end_text),
      two_lengths place t.end stop last (mid ++ end_) x.further (two_lengths t.end comma.end stop mid end_ y.further end_stop),
      λ more blank. two_values m ((last ++ (mid ++ end_)) ++ more) key value count (two more blank),
    )
call_values whole m (t ∷ u ∷ v ∷ values) between place stop text after key value p separated count has l = absurd has

-- ---- a form

-- a text of the rule, and what follows it
abbrev OwnText : Level → List ℕ → List ℕ → ℕ → ℕ → Tree → Type 0
OwnText at text after place stop r = (own : List ℕ) × (text ≡ own ++ after) × (stop ≡ place + length own) × Reads at own r

not_text : (b c own : List ℕ) → c ≡ 33 ∷ [] → b ++ 33 ∷ own ≡ (b ++ c) ++ own
not_text b c own is = sym (ap (λ k. (b ++ k) ++ own) is ∙ append_assoc b (33 ∷ []) own)

group_text : (b c own y d : List ℕ) → c ≡ 40 ∷ [] → d ≡ 41 ∷ [] → b ++ 40 ∷ ((own ++ y) ++ 41 ∷ []) ≡ (b ++ c) ++ (own ++ (y ++ d))
group_text b c own y d is_open is_close = sym (ap₂ (λ k m. (b ++ k) ++ (own ++ (y ++ m))) is_open is_close ∙ simp append_assoc)

and_text : (left y c right : List ℕ) → c ≡ 38 ∷ 38 ∷ [] → (left ++ y) ++ 38 ∷ 38 ∷ right ≡ left ++ ((y ++ c) ++ right)
and_text left y c right is = sym (ap (λ k. left ++ ((y ++ k) ++ right)) is ∙ simp append_assoc)

or_text : (left y c right : List ℕ) → c ≡ 124 ∷ 124 ∷ [] → (left ++ y) ++ 124 ∷ 124 ∷ right ≡ left ++ ((y ++ c) ++ right)
or_text left y c right is = sym (ap (λ k. left ++ ((y ++ k) ++ right)) is ∙ simp append_assoc)

call_text : (b name y c values z d : List ℕ) → c ≡ 40 ∷ [] → d ≡ 41 ∷ []
    → b ++ (name ++ (y ++ 40 ∷ ((values ++ z) ++ 41 ∷ []))) ≡ (b ++ name) ++ ((y ++ c) ++ (values ++ (z ++ d)))
call_text b name y c values z d is_open is_close = sym (ap₂ (λ k m. (b ++ name) ++ ((y ++ k) ++ (values ++ (z ++ m)))) is_open is_close ∙ simp append_assoc)

call_reads : (at : Level) (tokens : List Token) (c : CallTokens) (whole : List ℕ) (place stop : ℕ) (text after : List ℕ) → IsCall tokens c → Placed whole text place
    → Lexes place text tokens stop after → IsRightCall whole c → OwnText at text after place stop (call_tree whole c)
call_reads at tokens c whole place stop text after is p l (m, (key, value, means, tree)) =
    let all : Lexes place text (c.name ∷ is.opening ∷ (is.between ++ is.closing ∷ [])) stop after = subst (λ ts. Lexes place text ts stop after) is.tokens_are l in
    let x = lexed whole text kind.Name c.name (is.opening ∷ (is.between ++ is.closing ∷ [])) place stop after is.is_name p all in
    let y = lexed whole x.rest kind.Open is.opening (is.between ++ is.closing ∷ []) c.name.end stop after is.is_open x.placed x.lexes in
    let (mid, (inner, left, right)) = lexes_split is.between (is.closing ∷ []) is.opening.end stop y.rest after y.lexes in
    let (values, inner_is, further, are) = call_values whole m c.values is.between is.opening.end mid y.rest inner key value y.placed is.separated means.takes_count means.has left in
    let z = lexed whole inner kind.Close is.closing [] mid stop after is.is_close (placed_more whole y.rest values inner is.opening.end mid inner_is further y.placed) right in
    let xs = x.blanks ++ x.spelled in
    let ys = y.blanks ++ y.spelled in
    let zs = z.blanks ++ z.spelled in
    let z_text = ends_text inner zs z.rest after z.text_is z.lexes.0 in
    let z_stop : stop ≡ mid + length zs = z.lexes.1 ∙ z.further in
    let named : Calls (x.spelled ++ (y.blanks ++ 40 ∷ ((values ++ z.blanks) ++ 41 ∷ []))) m key value = record {
      name = x.spelled;
      before = y.blanks;
      values = values ++ z.blanks;
      is_named = subst (λ n. IsNamed n m) x.spelled_is means.is_named;
      blank = y.blank;
      are_values = are z.blanks z.blank;
      takes_key = means.takes_key;
      takes_value = means.takes_value;
      text_is = refl;
    } in
    let reads = blanks_before at x.blanks (x.spelled ++ (y.blanks ++ 40 ∷ ((values ++ z.blanks) ++ 41 ∷ []))) (call m key value) x.blank (reads_call at _ m key value named) in (
      xs ++ (ys ++ (values ++ zs)),
      two_parts text xs x.rest (ys ++ (values ++ zs)) after x.text_is
          (two_parts x.rest ys y.rest (values ++ zs) after y.text_is (two_parts y.rest values inner zs after inner_is z_text)),
      two_lengths place c.name.end stop xs (ys ++ (values ++ zs)) x.further
          (two_lengths c.name.end is.opening.end stop ys (values ++ zs) y.further (two_lengths is.opening.end mid stop values zs further z_stop)),
      subst (Reads at (xs ++ (ys ++ (values ++ zs)))) (sym tree)
          (subst (λ t. Reads at t (call m key value)) (call_text x.blanks x.spelled y.blanks y.spelled values z.blanks z.spelled y.is_spelled z.is_spelled) reads),
    )

not_reads : (at : Level) (b c own : List ℕ) (r : Tree) → c ≡ 33 ∷ [] → AreBlank b → Reads level.Unary own r → Reads at ((b ++ c) ++ own) (negation r)
not_reads at b c own r is blank reads = subst (λ t. Reads at t (negation r)) (not_text b c own is) (blanks_before at b (33 ∷ own) (negation r) blank (reads_not at own r reads))

group_reads : (at : Level) (b c own y d : List ℕ) (r : Tree) → c ≡ 40 ∷ [] → d ≡ 41 ∷ [] → AreBlank b → AreBlank y → Reads level.Or own r → Reads at ((b ++ c) ++ (own ++ (y ++ d))) r
group_reads at b c own y d r is_open is_close before after reads =
    subst (λ t. Reads at t r) (group_text b c own y d is_open is_close)
    (blanks_before at b (40 ∷ ((own ++ y) ++ 41 ∷ [])) r before (reads_group at (own ++ y) r (blanks_after level.Or y own r after reads)))

and_reads : (at : Level) (left y c right : List ℕ) (r s : Tree) → and_is_bare at ≡ true → c ≡ 38 ∷ 38 ∷ [] → AreBlank y → Reads level.And left r → Reads level.Unary right s
    → Reads at (left ++ ((y ++ c) ++ right)) (both r s)
and_reads at left y c right r s bare is blank p q =
    subst (λ t. Reads at t (both r s)) (and_text left y c right is) (reads_and at (left ++ y) right r s bare (blanks_after level.And y left r blank p) q)

or_reads : (at : Level) (left y c right : List ℕ) (r s : Tree) → or_is_bare at ≡ true → c ≡ 124 ∷ 124 ∷ [] → AreBlank y → Reads level.Or left r → Reads level.And right s
    → Reads at (left ++ ((y ++ c) ++ right)) (either r s)
or_reads at left y c right r s bare is blank p q =
    subst (λ t. Reads at t (either r s)) (or_text left y c right is) (reads_or at (left ++ y) right r s bare (blanks_after level.Or y left r blank p) q)

pub all_left : {X : Type 0} (P : X → Type 0) (xs ys : List X) → AllByRecursion P (xs ++ ys) → AllByRecursion P xs
all_left P [] ys h = tt
all_left P (x ∷ xs) ys h = (h.0, all_left P xs ys h.1)

pub all_right : {X : Type 0} (P : X → Type 0) (xs ys : List X) → AllByRecursion P (xs ++ ys) → AllByRecursion P ys
all_right P [] ys h = h
all_right P (x ∷ xs) ys h = all_right P xs ys h.1

pub parse_reads : (at : Level) (tokens : List Token) (f : Form) (whole : List ℕ) (place stop : ℕ) (text after : List ℕ) → Parses at tokens f → Placed whole text place
    → Lexes place text tokens stop after → AllByRecursion (IsRightCall whole) (form_calls f) → OwnText at text after place stop (form_tree whole f)
parse_reads at tokens f whole place stop text after (parses_call _ _ c is) p l right = call_reads at tokens c whole place stop text after is p l right.0
parse_reads at tokens f whole place stop text after (parses_not _ mark inner g is q) p l right =
    let x = lexed whole text kind.Not mark inner place stop after is p l in
    let (own, split, further, reads) = parse_reads level.Unary inner g whole mark.end stop x.rest after q x.placed x.lexes right in
    let xs = x.blanks ++ x.spelled in (
      xs ++ own,
      two_parts text xs x.rest own after x.text_is split,
      two_lengths place mark.end stop xs own x.further further,
      not_reads at x.blanks x.spelled own (form_tree whole g) x.is_spelled x.blank reads,
    )
parse_reads at tokens f whole place stop text after (parses_group _ opening closing inner g is_open is_close q) p l right =
    let x = lexed whole text kind.Open opening (inner ++ closing ∷ []) place stop after is_open p l in
    let (mid, (rest, first, second)) = lexes_split inner (closing ∷ []) opening.end stop x.rest after x.lexes in
    let (own, split, further, reads) = parse_reads level.Or inner g whole opening.end mid x.rest rest q x.placed first right in
    let y = lexed whole rest kind.Close closing [] mid stop after is_close (placed_more whole x.rest own rest opening.end mid split further x.placed) second in
    let xs = x.blanks ++ x.spelled in
    let ys = y.blanks ++ y.spelled in
    let y_text = ends_text rest ys y.rest after y.text_is y.lexes.0 in
    let y_stop : stop ≡ mid + length ys = y.lexes.1 ∙ y.further in (
      xs ++ (own ++ ys),
      two_parts text xs x.rest (own ++ ys) after x.text_is (two_parts x.rest own rest ys after split y_text),
      two_lengths place opening.end stop xs (own ++ ys) x.further (two_lengths opening.end mid stop own ys further y_stop),
      group_reads at x.blanks x.spelled own y.blanks y.spelled (form_tree whole g) x.is_spelled y.is_spelled x.blank y.blank reads,
    )
parse_reads at tokens f whole place stop text after (parses_and _ left right_tokens mark g h bare is q r) p l right =
    let (mid, (rest, first, second)) = lexes_split left (mark ∷ right_tokens) place stop text after l in
    let (own, split, further, reads) = parse_reads level.And left g whole place mid text rest q p first (all_left (IsRightCall whole) (form_calls g) (form_calls h) right) in
    let y = lexed whole rest kind.And mark right_tokens mid stop after is (placed_more whole text own rest place mid split further p) second in
    let (own2, split2, further2, reads2) = parse_reads level.Unary right_tokens h whole mark.end stop y.rest after r y.placed y.lexes (all_right (IsRightCall whole) (form_calls g) (form_calls h) right) in
    let ys = y.blanks ++ y.spelled in (
      own ++ (ys ++ own2),
      two_parts text own rest (ys ++ own2) after split (two_parts rest ys y.rest own2 after y.text_is split2),
      two_lengths place mid stop own (ys ++ own2) further (two_lengths mid mark.end stop ys own2 y.further further2),
      and_reads at own y.blanks y.spelled own2 (form_tree whole g) (form_tree whole h) bare y.is_spelled y.blank reads reads2,
    )
parse_reads at tokens f whole place stop text after (parses_or _ left right_tokens mark g h bare is q r) p l right =
    let (mid, (rest, first, second)) = lexes_split left (mark ∷ right_tokens) place stop text after l in
    let (own, split, further, reads) = parse_reads level.Or left g whole place mid text rest q p first (all_left (IsRightCall whole) (form_calls g) (form_calls h) right) in
    let y = lexed whole rest kind.Or mark right_tokens mid stop after is (placed_more whole text own rest place mid split further p) second in
    let (own2, split2, further2, reads2) = parse_reads level.And right_tokens h whole mark.end stop y.rest after r y.placed y.lexes (all_right (IsRightCall whole) (form_calls g) (form_calls h) right) in
    let ys = y.blanks ++ y.spelled in (
      own ++ (ys ++ own2),
      two_parts text own rest (ys ++ own2) after split (two_parts rest ys y.rest own2 after y.text_is split2),
      two_lengths place mid stop own (ys ++ own2) further (two_lengths mid mark.end stop ys own2 y.further further2),
      or_reads at own y.blanks y.spelled own2 (form_tree whole g) (form_tree whole h) bare y.is_spelled y.blank reads reads2,
    )

-- the whole text
pub whole_reads : (text : List ℕ) (tokens : List Token) (f : Form) → AreTokens text tokens → IsRule tokens f → AllByRecursion (IsRightCall text) (form_calls f) → IsRuleText text (form_tree text f)
whole_reads text tokens f are rule right =
    let (own, split, further, reads) = parse_reads level.Or tokens f text 0 are.stop text are.after rule (placed_start text) are.lexes right in
    subst (λ t. Reads level.Or t (form_tree text f)) (sym split) (blanks_after level.Or are.after own (form_tree text f) are.blank reads)

pub right_means : (text : List ℕ) (f : Form) → AllByRecursion (IsRightCall text) (form_calls f) → Means text f (form_tree text f)
right_means text (called c) ((m, (key, value, means, tree)), rest) = subst (Means text (called c)) (sym tree) means
right_means text (negated f) h = right_means text f h
right_means text (grouped f) h = right_means text f h
right_means text (joined f g) h =
    (right_means text f (all_left (IsRightCall text) (form_calls f) (form_calls g) h), right_means text g (all_right (IsRightCall text) (form_calls f) (form_calls g) h))
right_means text (chosen f g) h =
    (right_means text f (all_left (IsRightCall text) (form_calls f) (form_calls g) h), right_means text g (all_right (IsRightCall text) (form_calls f) (form_calls g) h))
