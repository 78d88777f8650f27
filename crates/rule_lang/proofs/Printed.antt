-- The print of a rule is a text of that rule.
use Rattle.std.proofs.Common.{◌≡◌, ◌≢◌, ℕ, inl, inr, true, false, ◌||◌, ◌==◌, List, [], ◌∷◌, ◌++◌, map, flat_map, refl, sym, ap, ap₂, ◌∙◌, subst, append_assoc, append-nil, eq-eqb, ne_eqb}
use Rattle.std.proofs.lemmas.Bool.{cond_both, cases_eq, false≢true}
use Rattle.std.specs.List.{AllByRecursion, list_any}
use Rattle.rule_lang.specs.declared.matcher.Matcher.{Matcher}
use Rattle.rule_lang.specs.declared.matcher.Matcher.TheVariants.{Header, HeaderRegexp, Host, HostRegexp, Method, Path, PathPrefix, PathRegexp, Query, QueryRegexp, ClientIp}
use Rattle.rule_lang.specs.declared.print.Level.{Level}
use Rattle.rule_lang.specs.declared.print.Level.TheVariants as level
use Rattle.rule_lang.specs.Tokens.{Part, character, pair, part_text, parts_text, IsGoodPart}
use Rattle.rule_lang.specs.Matchers.{IsNamed, name_of_matcher, TakesKey, TakesValue}
use Rattle.rule_lang.specs.Prints.{escaped, value_print, pair_print, values_print, call_print, bracketed, and_is_bare, or_is_bare, print_at}
use Rattle.rule_lang.specs.Grammar.{part_character, IsValueText, IsValue, AreTwoValues, AreValues, Calls, Reads, reads_call, reads_not, reads_group, reads_and, reads_or, reads_after_blank, reads_before_blank, HasItsKey, IsReadable}
use Rattle.rule_lang.specs.Trees.{Tree, call, negation, both, either}

-- ---- values

no_backquote : (value : List ℕ) → list_any (λ b. b == 96) value ≡ false → AllByRecursion (λ c. c ≢ 96) value
no_backquote [] h = tt
no_backquote (c ∷ value) h =
    elim (cases_eq c 96) [
      | inl is ↦ absurd (false≢true (sym h ∙ ap (λ b. b || list_any (λ x. x == 96) value) (eq-eqb c 96 is)))
      | inr other ↦ (other, no_backquote value (sym (ap (λ b. b || list_any (λ x. x == 96) value) (ne_eqb c 96 other)) ∙ h))
    ]

-- a byte in double quotes is a part
escaped_part : (b : ℕ) → (p : Part) × IsGoodPart p × (b ≡ part_character p) × (escaped b ≡ part_text p)
escaped_part b =
    elim (cases_eq b 34) [
      | inl quote ↦ (pair b, inl quote, refl, rw (eq-eqb b 34 quote) refl)
      | inr no_quote ↦ elim (cases_eq b 92) [
        | inl slash ↦ (pair b, inr slash, refl, rw (ne_eqb b 34 no_quote, eq-eqb b 92 slash) refl)
        | inr no_slash ↦ (character b, (no_quote, no_slash), refl, rw (ne_eqb b 34 no_quote, ne_eqb b 92 no_slash) refl)
      ]
    ]

escaped_parts : (value : List ℕ) → (parts : List Part) × AllByRecursion IsGoodPart parts × (value ≡ map part_character parts) × (flat_map escaped value ≡ parts_text parts)
escaped_parts [] = ([], tt, refl, refl)
escaped_parts (b ∷ value) =
    let (p, good, is, text) = escaped_part b in
    let (parts, are, value_is, text_is) = escaped_parts value in
    (p ∷ parts, (good, are), ap₂ ◌∷◌ is value_is, ap₂ ◌++◌ text text_is)

value_text : (value : List ℕ) → IsValueText (value_print value) value
value_text value =
    cond_both (list_any (λ b. b == 96) value) _ _ (λ text. IsValueText text value)
    (λ _.
    let (parts, are, value_is, text_is) = escaped_parts value in
    inr (parts, are, value_is, ap (λ t. 34 ∷ t ++ 34 ∷ []) text_is))
    (λ none. inl (no_backquote value none, refl))

one_value : (value : List ℕ) → IsValue (value_print value) value
one_value value = record {
  before = [];
  middle = value_print value;
  after = [];
  blank_before = tt;
  blank_after = tt;
  is_value = value_text value;
  text_is = sym (append-nil (value_print value));
}

spaced_value : (value : List ℕ) → IsValue (32 ∷ value_print value) value
spaced_value value = record {
  before = 32 ∷ [];
  middle = value_print value;
  after = [];
  blank_before = (refl, tt);
  blank_after = tt;
  is_value = value_text value;
  text_is = ap (λ t. 32 ∷ t) (sym (append-nil (value_print value)));
}

two_values : (key value : List ℕ) → AreTwoValues (pair_print key value) key value
two_values key value = record {
  left = value_print key;
  right = 32 ∷ value_print value;
  is_key = one_value key;
  is_value = spaced_value value;
  text_is = append_assoc (value_print key) (44 ∷ 32 ∷ []) (value_print value);
}

-- ---- calls

call_values : (matcher : Matcher) (key value : List ℕ) → HasItsKey matcher key → AreValues matcher (values_print matcher key value) key value
call_values Header key value h = two_values key value
call_values HeaderRegexp key value h = two_values key value
call_values QueryRegexp key value h = two_values key value
call_values Query key [] h = inr (one_value key, refl)
call_values Query key (b ∷ value) h = inl (two_values key (b ∷ value))
call_values Host key value h = (one_value value, h)
call_values HostRegexp key value h = (one_value value, h)
call_values Method key value h = (one_value value, h)
call_values Path key value h = (one_value value, h)
call_values PathPrefix key value h = (one_value value, h)
call_values PathRegexp key value h = (one_value value, h)
call_values ClientIp key value h = (one_value value, h)

own_name : (matcher : Matcher) → IsNamed (name_of_matcher matcher) matcher
own_name Header = refl
own_name HeaderRegexp = refl
own_name Host = refl
own_name HostRegexp = refl
own_name Method = refl
own_name Path = refl
own_name PathPrefix = refl
own_name PathRegexp = refl
own_name Query = refl
own_name QueryRegexp = refl
own_name ClientIp = refl

call_is : (name values : List ℕ) → name ++ 40 ∷ [] ++ values ++ 41 ∷ [] ≡ name ++ ([] ++ 40 ∷ (values ++ 41 ∷ []))
call_is name values = append_assoc (name ++ 40 ∷ []) values (41 ∷ []) ∙ append_assoc name (40 ∷ []) (values ++ 41 ∷ [])

pub printed_call : (matcher : Matcher) (key value : List ℕ) → HasItsKey matcher key → TakesKey matcher key → TakesValue matcher value → Calls (call_print matcher key value) matcher key value
printed_call matcher key value has takes_key takes_value = record {
  name = name_of_matcher matcher;
  before = [];
  values = values_print matcher key value;
  is_named = own_name matcher;
  blank = tt;
  are_values = call_values matcher key value has;
  takes_key = takes_key;
  takes_value = takes_value;
  text_is = call_is (name_of_matcher matcher) (values_print matcher key value);
}

-- ---- operators

abbrev ReadsAs : Level → Tree → List ℕ → Type 0
ReadsAs at rule text = Reads at text rule

pub operator : (a b : List ℕ) (x y : ℕ) → a ++ 32 ∷ [] ++ x ∷ y ∷ 32 ∷ b ≡ a ++ 32 ∷ x ∷ y ∷ 32 ∷ [] ++ b
operator a b x y = append_assoc a (32 ∷ []) (x ∷ y ∷ 32 ∷ b) ∙ sym (append_assoc a (32 ∷ x ∷ y ∷ 32 ∷ []) b)

bare_and : (at : Level) (a b : Tree) (left right : List ℕ) → and_is_bare at ≡ true → Reads level.And left a → Reads level.Unary right b
    → Reads at (left ++ 32 ∷ 38 ∷ 38 ∷ 32 ∷ [] ++ right) (both a b)
bare_and at a b left right bare l r =
    subst (ReadsAs at (both a b)) (operator left right 38 38)
    (reads_and at (left ++ 32 ∷ []) (32 ∷ right) a b bare (reads_before_blank level.And 32 left a refl l) (reads_after_blank level.Unary 32 right b refl r))

bare_or : (at : Level) (a b : Tree) (left right : List ℕ) → or_is_bare at ≡ true → Reads level.Or left a → Reads level.And right b
    → Reads at (left ++ 32 ∷ 124 ∷ 124 ∷ 32 ∷ [] ++ right) (either a b)
bare_or at a b left right bare l r =
    subst (ReadsAs at (either a b)) (operator left right 124 124)
    (reads_or at (left ++ 32 ∷ []) (32 ∷ right) a b bare (reads_before_blank level.Or 32 left a refl l) (reads_after_blank level.And 32 right b refl r))

printed_and : (at : Level) (a b : Tree) (text : List ℕ) → ((to : Level) → and_is_bare to ≡ true → Reads to text (both a b)) → Reads at (bracketed (and_is_bare at) text) (both a b)
printed_and level.Or a b text h = subst (ReadsAs level.Or (both a b)) (sym (append-nil text)) (h level.Or refl)
printed_and level.And a b text h = subst (ReadsAs level.And (both a b)) (sym (append-nil text)) (h level.And refl)
printed_and level.Unary a b text h = reads_group level.Unary text (both a b) (h level.Or refl)

printed_or : (at : Level) (a b : Tree) (text : List ℕ) → Reads level.Or text (either a b) → Reads at (bracketed (or_is_bare at) text) (either a b)
printed_or level.Or a b text h = subst (ReadsAs level.Or (either a b)) (sym (append-nil text)) h
printed_or level.And a b text h = reads_group level.And text (either a b) h
printed_or level.Unary a b text h = reads_group level.Unary text (either a b) h

pub printed : (at : Level) (rule : Tree) → IsReadable rule → Reads at (print_at at rule) rule
printed at (call matcher key value) h = reads_call at (call_print matcher key value) matcher key value (printed_call matcher key value h.0 h.1 h.2)
printed at (negation rule) h = reads_not at (print_at level.Unary rule) rule (printed level.Unary rule h)
printed at (both a b) h =
    printed_and at a b (print_at level.And a ++ 32 ∷ 38 ∷ 38 ∷ 32 ∷ [] ++ print_at level.Unary b)
    (λ to bare. bare_and to a b (print_at level.And a) (print_at level.Unary b) bare (printed level.And a h.0) (printed level.Unary b h.1))
printed at (either a b) h =
    printed_or at a b (print_at level.Or a ++ 32 ∷ 124 ∷ 124 ∷ 32 ∷ [] ++ print_at level.And b)
    (bare_or level.Or a b (print_at level.Or a) (print_at level.And b) refl (printed level.Or a h.0) (printed level.And b h.1))
