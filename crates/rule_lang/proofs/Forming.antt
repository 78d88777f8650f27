-- A text of a rule has a form, and the form means that rule.
use Rattle.std.proofs.Common.{rules, ◌≡◌, ℕ, ◌+◌, ◌<◌, ◌≤◌, max, ◌⊎◌, inl, inr, true, false, List, [], ◌∷◌, ◌++◌, length, get_or, refl, sym, ap, ap₂, ◌∙◌, subst, arith, append_assoc, append-nil, length-append}
use Rattle.std.proofs.lemmas.Bool.Decides.{nat_tests}
use Rattle.std.proofs.lemmas.Slice.Eq.{bytes_eq-Decides}
use Rattle.std.specs.List.{AllByRecursion}
use Rattle.std.specs.Char.{is_ascii_alphabetic, to_ascii_lowercase}
use Rattle.std.specs.Str.{str_to_ascii_lowercase}
use Rattle.rule_lang.specs.declared.token.Token.{Token}
use Rattle.rule_lang.specs.declared.token.TokenKind.{TokenKind}
use Rattle.rule_lang.specs.declared.token.TokenKind.TheVariants as kind
use Rattle.rule_lang.specs.declared.matcher.Matcher.{Matcher}
use Rattle.rule_lang.specs.declared.matcher.Matcher.TheVariants.{Header, HeaderRegexp, Host, HostRegexp, Method, Path, PathPrefix, PathRegexp, Query, QueryRegexp, ClientIp}
use Rattle.rule_lang.specs.declared.print.Level.{Level}
use Rattle.rule_lang.specs.declared.print.Level.TheVariants as level
use Rattle.rule_lang.specs.Prints.{and_is_bare, or_is_bare}
use Rattle.rule_lang.specs.Tokens.{is_blank, AreBlank, IsSpelled, Lexes, AreTokens}
use Rattle.rule_lang.specs.Matchers.{IsNamed, name_of_matcher, TakesCount}
use Rattle.rule_lang.specs.Trees.{Tree, call, negation, both, either}
use Rattle.rule_lang.specs.Grammar.{IsValueText, IsValue, AreTwoValues, AreValues, Calls, Reads, reads_call, reads_not, reads_group, reads_and, reads_or, reads_after_blank, reads_before_blank, IsRuleText}
use Rattle.rule_lang.specs.Forms.{CallTokens, Form, called, negated, grouped, joined, chosen, IsValueToken, AreSeparated, Parses, parses_call, parses_not, parses_group, parses_and, parses_or, form_depth}
use Rattle.rule_lang.specs.Calls.{token_text, HasValue, HasOne, HasBoth}
use Rattle.rule_lang.specs.Reading.{HasForm, Means}
use Rattle.rule_lang.proofs.Quotes.{all-append}
use Rattle.rule_lang.proofs.Valuing.{token_text_is}
use Rattle.rule_lang.proofs.Texts.{Placed, placed_more, placed_start}
use Rattle.rule_lang.proofs.Alone.{blank_no_letter, head_same, tail_same}

-- ---- tokens one after another

lexes_append : (xs ys : List Token) (place mid stop : ℕ) (text rest after : List ℕ) → Lexes place text xs mid rest → Lexes mid rest ys stop after → Lexes place text (xs ++ ys) stop after
lexes_append [] ys place mid stop text rest after (same, at) m = subst (λ t. Lexes place t ys stop after) (sym same) (subst (λ p. Lexes p rest ys stop after) at m)
lexes_append (t ∷ xs) ys place mid stop text rest after (blanks, spelled, r, blank, is, split, starts, ends, more) m =
    (blanks, spelled, r, blank, is, split, starts, ends, lexes_append xs ys t.end mid stop r rest after more m)

abbrev token_at : TokenKind → ℕ → ℕ → Token
token_at k s e = record { kind = k; start = s; end = e }

-- a token behind blanks, and the others behind it
lexes_one : (k : TokenKind) (blanks spelled rest : List ℕ) (place : ℕ) (ts : List Token) (stop : ℕ) (after : List ℕ) → AreBlank blanks → IsSpelled k spelled rest
    → Lexes (place + length blanks + length spelled) rest ts stop after
    → Lexes place (blanks ++ (spelled ++ rest)) (token_at k (place + length blanks) (place + length blanks + length spelled) ∷ ts) stop after
lexes_one k blanks spelled rest place ts stop after blank is more = (blanks, spelled, rest, blank, is, refl, refl, refl, more)

-- what such a token spells
token_spells : (whole rest : List ℕ) (k : TokenKind) (blanks spelled : List ℕ) (place : ℕ) → Placed whole (blanks ++ (spelled ++ rest)) place → IsSpelled k spelled rest
    → token_text whole (token_at k (place + length blanks) (place + length blanks + length spelled)) ≡ spelled
token_spells whole rest k blanks spelled place p is =
    let e = p.place_is in
    token_text_is whole (token_at k (place + length blanks) (place + length blanks + length spelled)) (record {
      before = p.front ++ blanks;
      spelled = spelled;
      after = rest;
      is_spelled = is;
      text_is = p.whole_is ∙ sym (append_assoc p.front blanks (spelled ++ rest));
      starts = omega (arith, length-append p.front blanks);
      ends = refl;
    })

-- ---- names are letters

lower_letter : (c d : ℕ) → to_ascii_lowercase c ≡ d → 97 ≤ d → d ≤ 122 → is_ascii_alphabetic c ≡ true
lower_letter c d e low high = grind (arith, nat_tests)

abbrev AreLower : List ℕ → Type 0
AreLower text = AllByRecursion (λ c. (97 ≤ c) × (c ≤ 122)) text

lower_letters : (name lower : List ℕ) → str_to_ascii_lowercase name ≡ lower → AreLower lower → AllByRecursion (λ c. is_ascii_alphabetic c ≡ true) name
lower_letters [] lower e h = tt
lower_letters (c ∷ name) [] e h = absurd (let x : ⊥ = cc in x)
lower_letters (c ∷ name) (d ∷ lower) e h =
    (lower_letter c d (head_same (to_ascii_lowercase c) d (str_to_ascii_lowercase name) lower e) h.0.0 h.0.1, lower_letters name lower (tail_same (to_ascii_lowercase c) d (str_to_ascii_lowercase name) lower e) h.1)

names_lower : (m : Matcher) → AreLower (str_to_ascii_lowercase (name_of_matcher m)) × (0 < length (str_to_ascii_lowercase (name_of_matcher m)))
names_lower Header = search rules depth 40
names_lower _ = search rules depth 40

named_letters : (name : List ℕ) (m : Matcher) → IsNamed name m → (0 < length name) × AllByRecursion (λ c. is_ascii_alphabetic c ≡ true) name
named_letters name m h =
    let lower = (bytes_eq-Decides (str_to_ascii_lowercase name) (str_to_ascii_lowercase (name_of_matcher m))).0 h in
    let (low, some) = names_lower m in
    (some_name name (subst (λ l. 0 < length l) (sym lower) some), lower_letters name (str_to_ascii_lowercase (name_of_matcher m)) lower low)
  where
    some_name : (name : List ℕ) → 0 < length (str_to_ascii_lowercase name) → 0 < length name
    some_name [] h = h
    some_name (c ∷ name) h = omega arith

-- ---- a value

record ValueAt (text value : List ℕ) (place : ℕ) : Type 0 where
  token : Token
  after : List ℕ
  blank : AreBlank after
  is_value : IsValueToken token
  stop_is : token.end + length after ≡ place + length text
  lexes : (more : List ℕ) → Lexes place (text ++ more) (token ∷ []) token.end (after ++ more)
  has : (whole more : List ℕ) → Placed whole (text ++ more) place → HasValue whole token value

value_kind : (text value : List ℕ) → IsValueText text value → (k : TokenKind) × ((rest : List ℕ) → IsSpelled k text rest) × ((k ≡ kind.Raw) ⊎ (k ≡ kind.Quoted))
value_kind text value (inl (plain, is)) = (kind.Raw, λ rest. (value, plain, is), inl refl)
value_kind text value (inr (parts, good, value_is, is)) = (kind.Quoted, λ rest. (parts, good, is), inr refl)

value_at : (text value : List ℕ) (place : ℕ) → IsValue text value → ValueAt text value place
value_at text value place v =
    let (k, spelled, is_value) = value_kind v.middle value v.is_value in
    let t : Token = token_at k (place + length v.before) (place + length v.before + length v.middle) in
    let split : (more : List ℕ) → text ++ more ≡ v.before ++ (v.middle ++ (v.after ++ more)) =
    λ more. ap (λ x. x ++ more) v.text_is ∙ append_assoc v.before (v.middle ++ v.after) more ∙ ap (λ x. v.before ++ x) (append_assoc v.middle v.after more) in
    let len = ap length v.text_is in
    record {
      token = t;
      after = v.after;
      blank = v.blank_after;
      is_value = is_value;
      stop_is = omega (arith, length-append v.before (v.middle ++ v.after), length-append v.middle v.after);
      lexes = λ more. subst (λ x. Lexes place x (t ∷ []) t.end (v.after ++ more)) (sym (split more))
          (lexes_one k v.before v.middle (v.after ++ more) place [] t.end (v.after ++ more) v.blank_before (spelled (v.after ++ more)) (refl, refl));
      has = λ whole more p. subst (λ x. IsValueText x value) (sym (token_spells whole (v.after ++ more) k v.before v.middle place
          (subst (λ x. Placed whole x place) (split more) p) (spelled (v.after ++ more)))) v.is_value;
    }

-- the values of a call
record ValuesAt (m : Matcher) (text key value : List ℕ) (place : ℕ) : Type 0 where
  between : List Token
  values : List Token
  stop : ℕ
  after : List ℕ
  blank : AreBlank after
  separated : AreSeparated between values
  count : TakesCount m (length values)
  stop_is : stop + length after ≡ place + length text
  lexes : (more : List ℕ) → Lexes place (text ++ more) between stop (after ++ more)
  has : (whole more : List ℕ) → Placed whole (text ++ more) place → HasBoth whole m values key value

one_at : (m : Matcher) (text key value v : List ℕ) (place : ℕ) → IsValue text v → TakesCount m 1 → ((whole : List ℕ) (t : Token) → HasValue whole t v → HasOne whole m t key value) → ValuesAt m text key value place
one_at m text key value v place is count one =
    let x = value_at text v place is in
    record {
      between = x.token ∷ [];
      values = x.token ∷ [];
      stop = x.token.end;
      after = x.after;
      blank = x.blank;
      separated = ([], refl, x.is_value, refl);
      count = count;
      stop_is = x.stop_is;
      lexes = x.lexes;
      has = λ whole more p. one whole x.token (x.has whole more p);
    }

two_at : (m : Matcher) (text key value : List ℕ) (place : ℕ) → AreTwoValues text key value → TakesCount m 2 → ValuesAt m text key value place
two_at m text key value place two count =
    let x = value_at two.left key place two.is_key in
    let comma : Token = token_at kind.Comma (x.token.end + length x.after) (x.token.end + length x.after + 1) in
    let y = value_at two.right value comma.end two.is_value in
    let split : (more : List ℕ) → text ++ more ≡ two.left ++ 44 ∷ (two.right ++ more) = λ more. ap (λ t. t ++ more) two.text_is ∙ append_assoc two.left (44 ∷ two.right) more in
    let len = ap length two.text_is in
    let first_stop = x.stop_is in
    let last_stop = y.stop_is in
    record {
      between = x.token ∷ comma ∷ y.token ∷ [];
      values = x.token ∷ y.token ∷ [];
      stop = y.token.end;
      after = y.after;
      blank = y.blank;
      separated = (comma ∷ y.token ∷ [], refl, x.is_value, (comma, ([], refl, refl, y.is_value, refl)));
      count = count;
      stop_is = omega (arith, length-append two.left (44 ∷ two.right));
      lexes = λ more. subst (λ t. Lexes place t (x.token ∷ comma ∷ y.token ∷ []) y.token.end (y.after ++ more)) (sym (split more))
          (lexes_append (x.token ∷ []) (comma ∷ y.token ∷ []) place x.token.end y.token.end (two.left ++ 44 ∷ (two.right ++ more)) (x.after ++ 44 ∷ (two.right ++ more)) (y.after ++ more)
          (x.lexes (44 ∷ (two.right ++ more)))
          (lexes_one kind.Comma x.after (44 ∷ []) (two.right ++ more) x.token.end (y.token ∷ []) y.token.end (y.after ++ more) x.blank refl (y.lexes more)));
      has = λ whole more p.
          let q : Placed whole (two.left ++ 44 ∷ (two.right ++ more)) place = subst (λ t. Placed whole t place) (split more) p in (
            x.has whole (44 ∷ (two.right ++ more)) q,
            y.has whole more (placed_more whole (two.left ++ 44 ∷ (two.right ++ more)) (two.left ++ 44 ∷ []) (two.right ++ more) place comma.end
                (sym (append_assoc two.left (44 ∷ []) (two.right ++ more))) (omega (arith, length-append two.left (44 ∷ []))) q),
          );
    }

values_at : (m : Matcher) (text key value : List ℕ) (place : ℕ) → AreValues m text key value → ValuesAt m text key value place
values_at Header text key value place v = two_at Header text key value place v refl
values_at HeaderRegexp text key value place v = two_at HeaderRegexp text key value place v refl
values_at QueryRegexp text key value place v = two_at QueryRegexp text key value place v refl
values_at Query text key value place (inl two) = two_at Query text key value place two (inr refl)
values_at Query text key value place (inr (one, none)) = one_at Query text key value key place one (inl refl) (λ whole t h. (h, none))
values_at Host text key value place (one, none) = one_at Host text key value value place one refl (λ whole t h. (h, none))
values_at HostRegexp text key value place (one, none) = one_at HostRegexp text key value value place one refl (λ whole t h. (h, none))
values_at Method text key value place (one, none) = one_at Method text key value value place one refl (λ whole t h. (h, none))
values_at Path text key value place (one, none) = one_at Path text key value value place one refl (λ whole t h. (h, none))
values_at PathPrefix text key value place (one, none) = one_at PathPrefix text key value value place one refl (λ whole t h. (h, none))
values_at PathRegexp text key value place (one, none) = one_at PathRegexp text key value value place one refl (λ whole t h. (h, none))
values_at ClientIp text key value place (one, none) = one_at ClientIp text key value value place one refl (λ whole t h. (h, none))

-- ---- a form of a text, wherever it stands and whatever follows

pub record FormAt (at : Level) (own : List ℕ) (r : Tree) (depth place : ℕ) : Type 0 where
  pub tokens : List Token
  pub form : Form
  pub stop : ℕ
  pub after : List ℕ
  pub blank : AreBlank after
  pub parses : Parses at tokens form
  pub depth_is : form_depth form ≡ depth
  pub stop_is : stop + length after ≡ place + length own
  pub lexes : (more : List ℕ) → Lexes place (own ++ more) tokens stop (after ++ more)
  pub means : (whole more : List ℕ) → Placed whole (own ++ more) place → Means whole form r

abbrev pub FormOf : Level → List ℕ → Tree → ℕ → Type 0
FormOf at own r depth = (place : ℕ) → FormAt at own r depth place

call_split : (own name before values more : List ℕ) → own ≡ name ++ (before ++ 40 ∷ (values ++ 41 ∷ [])) → own ++ more ≡ name ++ (before ++ 40 ∷ (values ++ 41 ∷ more))
call_split own name before values more is = ap (λ x. x ++ more) is ∙ simp append_assoc

after_name : (before rest : List ℕ) → AreBlank before → is_ascii_alphabetic (get_or (before ++ 40 ∷ rest) 0 0) ≡ false
after_name [] rest h = refl
after_name (b ∷ before) rest h = blank_no_letter b h.0

pub form_call : (at : Level) (own : List ℕ) (m : Matcher) (key value : List ℕ) → Calls own m key value → FormOf at own (call m key value) 0
form_call at own m key value c = λ place.
    let (some, letters) = named_letters c.name m c.is_named in
    let name : Token = token_at kind.Name (place + 0) (place + 0 + length c.name) in
    let opening : Token = token_at kind.Open (name.end + length c.before) (name.end + length c.before + 1) in
    let v = values_at m c.values key value opening.end c.are_values in
    let closing : Token = token_at kind.Close (v.stop + length v.after) (v.stop + length v.after + 1) in
    let whole_call : CallTokens = record { name = name; values = v.values } in
    let tail : List ℕ → List ℕ = λ more. c.values ++ 41 ∷ more in
    let named : (more : List ℕ) → IsSpelled kind.Name c.name (c.before ++ 40 ∷ (c.values ++ 41 ∷ more)) = λ more. (some, letters, after_name c.before (c.values ++ 41 ∷ more) c.blank) in
    let len = ap length c.text_is in
    let v_stop = v.stop_is in
    record {
      tokens = name ∷ opening ∷ (v.between ++ closing ∷ []);
      form = called whole_call;
      stop = closing.end;
      after = [];
      blank = tt;
      parses = parses_call at _ whole_call (record { opening = opening; between = v.between; closing = closing; is_name = refl; is_open = refl; separated = v.separated; is_close = refl; tokens_are = refl });
      depth_is = refl;
      stop_is = omega (arith, length-append c.name (c.before ++ 40 ∷ (c.values ++ 41 ∷ [])), length-append c.before (40 ∷ (c.values ++ 41 ∷ [])), length-append c.values (41 ∷ []));
      lexes = λ more. subst (λ t. Lexes place t (name ∷ opening ∷ (v.between ++ closing ∷ [])) closing.end more) (sym (call_split own c.name c.before c.values more c.text_is))
          (lexes_one kind.Name [] c.name (c.before ++ 40 ∷ (c.values ++ 41 ∷ more)) place (opening ∷ (v.between ++ closing ∷ [])) closing.end more tt (named more)
          (lexes_one kind.Open c.before (40 ∷ []) (c.values ++ 41 ∷ more) name.end (v.between ++ closing ∷ []) closing.end more c.blank refl
          (lexes_append v.between (closing ∷ []) opening.end v.stop closing.end (c.values ++ 41 ∷ more) (v.after ++ 41 ∷ more) more (v.lexes (41 ∷ more))
          (lexes_one kind.Close v.after (41 ∷ []) more v.stop [] closing.end more v.blank refl (refl, refl)))));
      means = λ whole more p.
          let q : Placed whole (c.name ++ (c.before ++ 40 ∷ (c.values ++ 41 ∷ more))) place = subst (λ t. Placed whole t place) (call_split own c.name c.before c.values more c.text_is) p in
          record {
            is_named = subst (λ n. IsNamed n m) (sym (token_spells whole (c.before ++ 40 ∷ (c.values ++ 41 ∷ more)) kind.Name [] c.name place q (named more))) c.is_named;
            takes_count = v.count;
            has = v.has whole (41 ∷ more) (placed_more whole (c.name ++ (c.before ++ 40 ∷ (c.values ++ 41 ∷ more))) (c.name ++ (c.before ++ 40 ∷ [])) (c.values ++ 41 ∷ more) place opening.end
                (sym (append_assoc c.name (c.before ++ 40 ∷ []) (c.values ++ 41 ∷ more) ∙ ap (λ x. c.name ++ x) (append_assoc c.before (40 ∷ []) (c.values ++ 41 ∷ more))))
                (omega (arith, length-append c.name (c.before ++ 40 ∷ []), length-append c.before (40 ∷ []))) q);
            takes_key = c.takes_key;
            takes_value = c.takes_value;
          };
    }

pub form_not : (at : Level) (own : List ℕ) (r : Tree) (d : ℕ) → FormOf level.Unary own r d → FormOf at (33 ∷ own) (negation r) (1 + d)
form_not at own r d h = λ place.
    let mark : Token = token_at kind.Not (place + 0) (place + 0 + 1) in
    let x = h mark.end in
    let x_stop = x.stop_is in
    let x_depth = x.depth_is in
    record {
      tokens = mark ∷ x.tokens;
      form = negated x.form;
      stop = x.stop;
      after = x.after;
      blank = x.blank;
      parses = parses_not at mark x.tokens x.form refl x.parses;
      depth_is = omega arith;
      stop_is = omega arith;
      lexes = λ more. lexes_one kind.Not [] (33 ∷ []) (own ++ more) place x.tokens x.stop (x.after ++ more) tt refl (x.lexes more);
      means = λ whole more p. x.means whole more (placed_more whole (33 ∷ (own ++ more)) (33 ∷ []) (own ++ more) place mark.end refl (omega arith) p);
    }

pub form_group : (at : Level) (own : List ℕ) (r : Tree) (d : ℕ) → FormOf level.Or own r d → FormOf at (40 ∷ (own ++ 41 ∷ [])) r (1 + d)
form_group at own r d h = λ place.
    let opening : Token = token_at kind.Open (place + 0) (place + 0 + 1) in
    let x = h opening.end in
    let closing : Token = token_at kind.Close (x.stop + length x.after) (x.stop + length x.after + 1) in
    let x_stop = x.stop_is in
    let x_depth = x.depth_is in
    let split : (more : List ℕ) → (own ++ 41 ∷ []) ++ more ≡ own ++ 41 ∷ more = λ more. append_assoc own (41 ∷ []) more in
    record {
      tokens = opening ∷ (x.tokens ++ closing ∷ []);
      form = grouped x.form;
      stop = closing.end;
      after = [];
      blank = tt;
      parses = parses_group at opening closing x.tokens x.form refl refl x.parses;
      depth_is = omega arith;
      stop_is = omega (arith, length-append own (41 ∷ []));
      lexes = λ more. lexes_one kind.Open [] (40 ∷ []) ((own ++ 41 ∷ []) ++ more) place (x.tokens ++ closing ∷ []) closing.end more tt refl
          (subst (λ t. Lexes opening.end t (x.tokens ++ closing ∷ []) closing.end more) (sym (split more))
          (lexes_append x.tokens (closing ∷ []) opening.end x.stop closing.end (own ++ 41 ∷ more) (x.after ++ 41 ∷ more) more (x.lexes (41 ∷ more))
          (lexes_one kind.Close x.after (41 ∷ []) more x.stop [] closing.end more x.blank refl (refl, refl))));
      means = λ whole more p. x.means whole (41 ∷ more)
          (subst (λ t. Placed whole t opening.end) (split more) (placed_more whole (40 ∷ ((own ++ 41 ∷ []) ++ more)) (40 ∷ []) ((own ++ 41 ∷ []) ++ more) place opening.end refl (omega arith) p));
    }

pub form_and : (at : Level) (left right : List ℕ) (r s : Tree) (d e : ℕ) → and_is_bare at ≡ true → FormOf level.And left r d → FormOf level.Unary right s e → FormOf at (left ++ 38 ∷ 38 ∷ right) (both r s) (max d e)
form_and at left right r s d e bare h k = λ place.
    let x = h place in
    let mark : Token = token_at kind.And (x.stop + length x.after) (x.stop + length x.after + 2) in
    let y = k mark.end in
    let x_stop = x.stop_is in
    let y_stop = y.stop_is in
    let split : (more : List ℕ) → (left ++ 38 ∷ 38 ∷ right) ++ more ≡ left ++ 38 ∷ 38 ∷ (right ++ more) = λ more. append_assoc left (38 ∷ 38 ∷ right) more in
    record {
      tokens = x.tokens ++ mark ∷ y.tokens;
      form = joined x.form y.form;
      stop = y.stop;
      after = y.after;
      blank = y.blank;
      parses = parses_and at x.tokens y.tokens mark x.form y.form bare refl x.parses y.parses;
      depth_is = ap₂ max x.depth_is y.depth_is;
      stop_is = omega (arith, length-append left (38 ∷ 38 ∷ right));
      lexes = λ more. subst (λ t. Lexes place t (x.tokens ++ mark ∷ y.tokens) y.stop (y.after ++ more)) (sym (split more))
          (lexes_append x.tokens (mark ∷ y.tokens) place x.stop y.stop (left ++ 38 ∷ 38 ∷ (right ++ more)) (x.after ++ 38 ∷ 38 ∷ (right ++ more)) (y.after ++ more) (x.lexes (38 ∷ 38 ∷ (right ++ more)))
          (lexes_one kind.And x.after (38 ∷ 38 ∷ []) (right ++ more) x.stop y.tokens y.stop (y.after ++ more) x.blank refl (y.lexes more)));
      means = λ whole more p.
          let q : Placed whole (left ++ 38 ∷ 38 ∷ (right ++ more)) place = subst (λ t. Placed whole t place) (split more) p in (
            x.means whole (38 ∷ 38 ∷ (right ++ more)) q,
            y.means whole more (placed_more whole (left ++ 38 ∷ 38 ∷ (right ++ more)) (left ++ 38 ∷ 38 ∷ []) (right ++ more) place mark.end
                (sym (append_assoc left (38 ∷ 38 ∷ []) (right ++ more))) (omega (arith, length-append left (38 ∷ 38 ∷ []))) q),
          );
    }

pub form_or : (at : Level) (left right : List ℕ) (r s : Tree) (d e : ℕ) → or_is_bare at ≡ true → FormOf level.Or left r d → FormOf level.And right s e → FormOf at (left ++ 124 ∷ 124 ∷ right) (either r s) (max d e)
form_or at left right r s d e bare h k = λ place.
    let x = h place in
    let mark : Token = token_at kind.Or (x.stop + length x.after) (x.stop + length x.after + 2) in
    let y = k mark.end in
    let x_stop = x.stop_is in
    let y_stop = y.stop_is in
    let split : (more : List ℕ) → (left ++ 124 ∷ 124 ∷ right) ++ more ≡ left ++ 124 ∷ 124 ∷ (right ++ more) = λ more. append_assoc left (124 ∷ 124 ∷ right) more in
    record {
      tokens = x.tokens ++ mark ∷ y.tokens;
      form = chosen x.form y.form;
      stop = y.stop;
      after = y.after;
      blank = y.blank;
      parses = parses_or at x.tokens y.tokens mark x.form y.form bare refl x.parses y.parses;
      depth_is = ap₂ max x.depth_is y.depth_is;
      stop_is = omega (arith, length-append left (124 ∷ 124 ∷ right));
      lexes = λ more. subst (λ t. Lexes place t (x.tokens ++ mark ∷ y.tokens) y.stop (y.after ++ more)) (sym (split more))
          (lexes_append x.tokens (mark ∷ y.tokens) place x.stop y.stop (left ++ 124 ∷ 124 ∷ (right ++ more)) (x.after ++ 124 ∷ 124 ∷ (right ++ more)) (y.after ++ more) (x.lexes (124 ∷ 124 ∷ (right ++ more)))
          (lexes_one kind.Or x.after (124 ∷ 124 ∷ []) (right ++ more) x.stop y.tokens y.stop (y.after ++ more) x.blank refl (y.lexes more)));
      means = λ whole more p.
          let q : Placed whole (left ++ 124 ∷ 124 ∷ (right ++ more)) place = subst (λ t. Placed whole t place) (split more) p in (
            x.means whole (124 ∷ 124 ∷ (right ++ more)) q,
            y.means whole more (placed_more whole (left ++ 124 ∷ 124 ∷ (right ++ more)) (left ++ 124 ∷ 124 ∷ []) (right ++ more) place mark.end
                (sym (append_assoc left (124 ∷ 124 ∷ []) (right ++ more))) (omega (arith, length-append left (124 ∷ 124 ∷ []))) q),
          );
    }

-- ---- blanks round it

append_some : (xs : List Token) (y : Token) (ys : List Token) → xs ++ y ∷ ys ≡ [] → ⊥
append_some [] y ys e = cc
append_some (x ∷ xs) y ys e = cc

no_tokens : (at : Level) (tokens : List Token) (f : Form) → Parses at tokens f → tokens ≡ [] → ⊥
no_tokens at tokens f (parses_call _ _ c is) none = append_some [] c.name (is.opening ∷ (is.between ++ is.closing ∷ [])) (sym is.tokens_are ∙ none)
no_tokens at tokens f (parses_not _ mark inner g is p) none = append_some [] mark inner none
no_tokens at tokens f (parses_group _ opening closing inner g is_open is_close p) none = append_some [] opening (inner ++ closing ∷ []) none
no_tokens at tokens f (parses_and _ left right mark g h bare is p q) none = append_some left mark right none
no_tokens at tokens f (parses_or _ left right mark g h bare is p q) none = append_some left mark right none

lexes_behind : (b : ℕ) (tokens : List Token) (place next stop : ℕ) (text after : List ℕ) → (tokens ≡ [] → ⊥) → is_blank b ≡ true → next ≡ place + 1 → Lexes next text tokens stop after → Lexes place (b ∷ text) tokens stop after
lexes_behind b [] place next stop text after some is at l = absurd (some refl)
lexes_behind b (t ∷ tokens) place next stop text after some is at (blanks, spelled, rest, blank, is_spelled, split, starts, ends, more) =
    (b ∷ blanks, spelled, rest, (is, blank), is_spelled, ap (λ x. b ∷ x) split, omega arith, ends, more)

pub form_after_blank : (at : Level) (b : ℕ) (own : List ℕ) (r : Tree) (d : ℕ) → is_blank b ≡ true → FormOf at own r d → FormOf at (b ∷ own) r d
form_after_blank at b own r d is h = λ place.
    let x = h (place + 1) in
    let x_stop = x.stop_is in
    record {
      tokens = x.tokens;
      form = x.form;
      stop = x.stop;
      after = x.after;
      blank = x.blank;
      parses = x.parses;
      depth_is = x.depth_is;
      stop_is = omega arith;
      lexes = λ more. lexes_behind b x.tokens place (place + 1) x.stop (own ++ more) (x.after ++ more) (no_tokens at x.tokens x.form x.parses) is refl (x.lexes more);
      means = λ whole more p. x.means whole more (placed_more whole (b ∷ (own ++ more)) (b ∷ []) (own ++ more) place (place + 1) refl (omega arith) p);
    }

pub form_before_blank : (at : Level) (b : ℕ) (own : List ℕ) (r : Tree) (d : ℕ) → is_blank b ≡ true → FormOf at own r d → FormOf at (own ++ b ∷ []) r d
form_before_blank at b own r d is h = λ place.
    let x = h place in
    let x_stop = x.stop_is in
    record {
      tokens = x.tokens;
      form = x.form;
      stop = x.stop;
      after = x.after ++ b ∷ [];
      blank = all-append (λ c. is_blank c ≡ true) x.after (b ∷ []) x.blank (is, tt);
      parses = x.parses;
      depth_is = x.depth_is;
      stop_is = omega (arith, length-append x.after (b ∷ []), length-append own (b ∷ []));
      lexes = λ more. subst (λ t. Lexes place t x.tokens x.stop ((x.after ++ b ∷ []) ++ more)) (sym (append_assoc own (b ∷ []) more))
          (subst (λ a. Lexes place (own ++ b ∷ more) x.tokens x.stop a) (sym (append_assoc x.after (b ∷ []) more)) (x.lexes (b ∷ more)));
      means = λ whole more p. x.means whole (b ∷ more) (subst (λ t. Placed whole t place) (append_assoc own (b ∷ []) more) p);
    }

-- ---- each text of the grammar has one

pub reads_form : (at : Level) (own : List ℕ) (r : Tree) → Reads at own r → (d : ℕ) × FormOf at own r d
reads_form at own r (reads_call _ _ m key value c) = (0, form_call at own m key value c)
reads_form at own r (reads_not _ text s p) = let (d, f) = reads_form level.Unary text s p in (1 + d, form_not at text s d f)
reads_form at own r (reads_group _ text s p) = let (d, f) = reads_form level.Or text s p in (1 + d, form_group at text s d f)
reads_form at own r (reads_and _ left right a b bare p q) =
    let (d, f) = reads_form level.And left a p in
    let (e, g) = reads_form level.Unary right b q in
    (max d e, form_and at left right a b d e bare f g)
reads_form at own r (reads_or _ left right a b bare p q) =
    let (d, f) = reads_form level.Or left a p in
    let (e, g) = reads_form level.And right b q in
    (max d e, form_or at left right a b d e bare f g)
reads_form at own r (reads_after_blank _ b text s is p) = let (d, f) = reads_form at text s p in (d, form_after_blank at b text s d is f)
reads_form at own r (reads_before_blank _ b text s is p) = let (d, f) = reads_form at text s p in (d, form_before_blank at b text s d is f)

-- the form of a whole text
pub whole_form : (text : List ℕ) (r : Tree) (d : ℕ) → FormOf level.Or text r d → (f : Form) × HasForm text f × Means text f r × (form_depth f ≡ d)
whole_form text r d h =
    let x = h 0 in
    let same : text ++ [] ≡ text = append-nil text in
    let are : AreTokens text x.tokens = record {
      stop = x.stop;
      after = x.after;
      lexes = subst (λ t. Lexes 0 t x.tokens x.stop x.after) same (subst (λ a. Lexes 0 (text ++ []) x.tokens x.stop a) (append-nil x.after) (x.lexes []));
      blank = x.blank;
    } in
    (x.form, (x.tokens, are, x.parses), x.means text [] (subst (λ t. Placed text t 0) (sym same) (placed_start text)), x.depth_is)

pub rule_text_form : (text : List ℕ) (r : Tree) → IsRuleText text r → (f : Form) × HasForm text f × Means text f r
rule_text_form text r p =
    let (d, f) = reads_form level.Or text r p in
    let (form, has, means, depth) = whole_form text r d f in
    (form, has, means)
