-- The grammar of a rule's text:
--   rule = and *( "||" and )    and = unary *( "&&" unary )
--   unary = "!" unary / "(" rule ")" / call    call = name "(" value [ "," value ] ")"
-- Both operators associate to the left, and blanks may stand round each token.
use Rattle.std.specs.Prelude.{◌≡◌, ◌≢◌, ℕ, ◌⊎◌, true, List, [], ◌∷◌, ◌++◌, map}
use Rattle.std.specs.List.{AllByRecursion}
use Rattle.rule_lang.specs.declared.matcher.Matcher.{Matcher}
use Rattle.rule_lang.specs.declared.matcher.Matcher.TheVariants.{Header, HeaderRegexp, Query, QueryRegexp}
use Rattle.rule_lang.specs.declared.print.Level.{Level}
use Rattle.rule_lang.specs.declared.print.Level.TheVariants as level
use Rattle.rule_lang.specs.Tokens.{is_blank, AreBlank, Part, character, pair, parts_text, IsGoodPart}
use Rattle.rule_lang.specs.Matchers.{IsNamed, TakesKey, TakesValue}
use Rattle.rule_lang.specs.Prints.{and_is_bare, or_is_bare}
use Rattle.rule_lang.specs.Trees.{Tree, call, negation, both, either}

-- the character that a part of a text in double quotes stands for
abbrev pub part_character : Part → ℕ
part_character (character c) = c
part_character (pair c) = c

-- the text is this value in backquotes or in double quotes
abbrev pub IsValueText : List ℕ → List ℕ → Type 0
IsValueText text value =
    (AllByRecursion (λ c. c ≢ 96) value × (text ≡ 96 ∷ value ++ 96 ∷ []))
    ⊎ ((parts : List Part) × AllByRecursion IsGoodPart parts × (value ≡ map part_character parts)
    × (text ≡ 34 ∷ parts_text parts ++ 34 ∷ []))

-- a value with blanks round it
pub record IsValue (text value : List ℕ) : Type 0 where
  pub before : List ℕ
  pub middle : List ℕ
  pub after : List ℕ
  pub blank_before : AreBlank before
  pub blank_after : AreBlank after
  pub is_value : IsValueText middle value
  pub text_is : text ≡ before ++ (middle ++ after)

-- two values with a comma between them
pub record AreTwoValues (text key value : List ℕ) : Type 0 where
  pub left : List ℕ
  pub right : List ℕ
  pub is_key : IsValue left key
  pub is_value : IsValue right value
  pub text_is : text ≡ left ++ 44 ∷ right

-- the values of a call: a matcher of one value has an empty key, and `Query` may leave an empty value out
abbrev pub AreValues : Matcher → List ℕ → List ℕ → List ℕ → Type 0
AreValues Header text key value = AreTwoValues text key value
AreValues HeaderRegexp text key value = AreTwoValues text key value
AreValues QueryRegexp text key value = AreTwoValues text key value
AreValues Query text key value = AreTwoValues text key value ⊎ (IsValue text key × (value ≡ []))
AreValues _ text key value = IsValue text value × (key ≡ [])

-- the text calls a matcher with values that it takes
pub record Calls (text : List ℕ) (matcher : Matcher) (key value : List ℕ) : Type 0 where
  pub name : List ℕ
  pub before : List ℕ
  pub values : List ℕ
  pub is_named : IsNamed name matcher
  pub blank : AreBlank before
  pub are_values : AreValues matcher values key value
  pub takes_key : TakesKey matcher key
  pub takes_value : TakesValue matcher value
  pub text_is : text ≡ name ++ (before ++ 40 ∷ (values ++ 41 ∷ []))

-- the text is this rule, where an operand of this level may stand
pub data Reads : Level → List ℕ → Tree → Type 0 where
  reads_call : (at : Level) (text : List ℕ) (matcher : Matcher) (key value : List ℕ) → Calls text matcher key value
      → Reads at text (call matcher key value)
  reads_not : (at : Level) (text : List ℕ) (rule : Tree) → Reads level.Unary text rule → Reads at (33 ∷ text) (negation rule)
  reads_group : (at : Level) (text : List ℕ) (rule : Tree) → Reads level.Or text rule → Reads at (40 ∷ (text ++ 41 ∷ [])) rule
  reads_and : (at : Level) (left right : List ℕ) (a b : Tree) → and_is_bare at ≡ true → Reads level.And left a → Reads level.Unary right b
      → Reads at (left ++ 38 ∷ 38 ∷ right) (both a b)
  reads_or : (at : Level) (left right : List ℕ) (a b : Tree) → or_is_bare at ≡ true → Reads level.Or left a → Reads level.And right b
      → Reads at (left ++ 124 ∷ 124 ∷ right) (either a b)
  reads_after_blank : (at : Level) (blank : ℕ) (text : List ℕ) (rule : Tree) → is_blank blank ≡ true → Reads at text rule → Reads at (blank ∷ text) rule
  reads_before_blank : (at : Level) (blank : ℕ) (text : List ℕ) (rule : Tree) → is_blank blank ≡ true → Reads at text rule → Reads at (text ++ blank ∷ []) rule

-- the text is this rule
abbrev pub IsRuleText : List ℕ → Tree → Type 0
IsRuleText text rule = Reads level.Or text rule

-- a matcher of one value has no key
abbrev pub HasItsKey : Matcher → List ℕ → Type 0
HasItsKey Header key = Unit {0}
HasItsKey HeaderRegexp key = Unit {0}
HasItsKey QueryRegexp key = Unit {0}
HasItsKey Query key = Unit {0}
HasItsKey _ key = key ≡ []

-- a rule that a text can be: each call has values that its matcher takes
abbrev pub IsReadable : Tree → Type 0
IsReadable (call matcher key value) = HasItsKey matcher key × TakesKey matcher key × TakesValue matcher value
IsReadable (negation rule) = IsReadable rule
IsReadable (both a b) = IsReadable a × IsReadable b
IsReadable (either a b) = IsReadable a × IsReadable b
