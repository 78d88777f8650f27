-- What a call of a rule's text means, and what is wrong with one.
use Rattle.std.specs.Prelude.{◌≡◌, ℕ, ◌-◌, ◌⊎◌, List, [], ◌∷◌, length, take, drop}
use Rattle.rule_lang.specs.declared.token.Token.{Token}
use Rattle.rule_lang.specs.declared.matcher.Matcher.{Matcher}
use Rattle.rule_lang.specs.declared.matcher.Matcher.TheVariants.{Query}
use Rattle.rule_lang.specs.declared.call.CallFault.{CallFault}
use Rattle.rule_lang.specs.declared.call.CallFault.TheVariants as fault
use Rattle.rule_lang.specs.Matchers.{IsNamed, TakesCount, TakesKey, TakesValue}
use Rattle.rule_lang.specs.Grammar.{IsValueText}
use Rattle.rule_lang.specs.Forms.{CallTokens}

-- what a token spells
abbrev pub token_text : List ℕ → Token → List ℕ
token_text text t = take (t.end - t.start) (drop t.start text)

-- the value that it spells
abbrev pub HasValue : List ℕ → Token → List ℕ → Type 0
HasValue text t value = IsValueText (token_text text t) value

-- the only value: of `Query` it is the key, of every other matcher the value
abbrev pub HasOne : List ℕ → Matcher → Token → List ℕ → List ℕ → Type 0
HasOne text Query t key value = HasValue text t key × (value ≡ [])
HasOne text _ t key value = HasValue text t value × (key ≡ [])

-- the key and the value that its tokens spell
abbrev pub HasBoth : List ℕ → Matcher → List Token → List ℕ → List ℕ → Type 0
HasBoth text m [] key value = ⊥
HasBoth text m (t ∷ []) key value = HasOne text m t key value
HasBoth text m (t ∷ u ∷ []) key value = HasValue text t key × HasValue text u value
HasBoth text m (t ∷ u ∷ v ∷ more) key value = ⊥

-- a call of this matcher with this key and this value, which it takes
pub record CallMeans (text : List ℕ) (c : CallTokens) (m : Matcher) (key value : List ℕ) : Type 0 where
  pub is_named : IsNamed (token_text text c.name) m
  pub takes_count : TakesCount m (length c.values)
  pub has : HasBoth text m c.values key value
  pub takes_key : TakesKey m key
  pub takes_value : TakesValue m value

abbrev pub IsGoodCall : List ℕ → CallTokens → Type 0
IsGoodCall text c = (m : Matcher) × ((key value : List ℕ) × CallMeans text c m key value)

-- the key is refused, or it is taken and the value is refused
abbrev pub IsRefusal : Matcher → List ℕ → List ℕ → ℕ → ℕ → CallFault → Type 0
IsRefusal m key value key_at value_at (fault.Value at) =
    ((at ≡ key_at) × (¬ (TakesKey m key))) ⊎ ((at ≡ value_at) × TakesKey m key × (¬ (TakesValue m value)))
IsRefusal m key value key_at value_at _ = ⊥

-- where its first and its last value stand
abbrev pub first_start : List Token → ℕ
first_start [] = 0
first_start (t ∷ tokens) = t.start

abbrev pub last_start : List Token → ℕ
last_start [] = 0
last_start (t ∷ []) = t.start
last_start (t ∷ u ∷ tokens) = last_start (u ∷ tokens)

-- a call with a key or a value that its matcher refuses, the first of them at this place
pub record HasBadValue (text : List ℕ) (c : CallTokens) (at : ℕ) : Type 0 where
  pub matcher : Matcher
  pub key : List ℕ
  pub value : List ℕ
  pub is_named : IsNamed (token_text text c.name) matcher
  pub takes_count : TakesCount matcher (length c.values)
  pub has : HasBoth text matcher c.values key value
  pub refused : IsRefusal matcher key value (first_start c.values) (last_start c.values) (fault.Value at)

-- what is wrong with a call: its name names no matcher; the matcher takes another number of values; a value is refused
abbrev pub IsCallFault : List ℕ → CallTokens → CallFault → Type 0
IsCallFault text c (fault.UnknownMatcher at) = (at ≡ c.name.start) × ((m : Matcher) → ¬ (IsNamed (token_text text c.name) m))
IsCallFault text c (fault.Arity at) =
    (at ≡ c.name.start) × ((m : Matcher) × IsNamed (token_text text c.name) m × (¬ (TakesCount m (length c.values))))
IsCallFault text c (fault.Value at) = HasBadValue text c at
IsCallFault text c fault.Memory = Unit {0}
