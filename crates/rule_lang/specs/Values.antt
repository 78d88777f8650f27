-- The tokens of a text where they stand, and the values that they spell.
use Rattle.std.specs.Prelude.{◌≡◌, ℕ, ◌+◌, ◌-◌, ◌==◌, Bool, true, false, if◌then◌else◌, Option, Some, None, List, [], ◌∷◌, ◌++◌, length, take, drop, map}
use Rattle.rule_lang.specs.declared.token.Token.{Token}
use Rattle.rule_lang.specs.declared.token.TokenKind.{TokenKind}
use Rattle.rule_lang.specs.declared.token.TokenKind.TheVariants as kind
use Rattle.rule_lang.specs.declared.matcher.Matcher.{Matcher}
use Rattle.rule_lang.specs.declared.matcher.Matcher.TheVariants.{Host, Query}
use Rattle.rule_lang.specs.Tokens.{IsSpelled}
use Rattle.rule_lang.specs.Matchers.{first_named, TakesCount, TakesKey, TakesValue}
use Rattle.rule_lang.specs.Forms.{CallTokens, IsValueToken}
use Rattle.rule_lang.specs.Trees.{Tree, call}
use Rattle.rule_lang.specs.declared.rule.Leaf.{Leaf}
use Rattle.rule_lang.specs.declared.call.CallFault.{CallFault}
use Rattle.rule_lang.specs.declared.call.CallFault.TheVariants as fault
use Rattle.rule_lang.specs.Calls.{token_text, CallMeans, HasBoth, IsRefusal, first_start, last_start}

-- the token stands in the text
pub record Stands (text : List ℕ) (t : Token) : Type 0 where
  pub before : List ℕ
  pub spelled : List ℕ
  pub after : List ℕ
  pub is_spelled : IsSpelled t.kind spelled after
  pub text_is : text ≡ before ++ (spelled ++ after)
  pub starts : t.start ≡ length before
  pub ends : t.end ≡ t.start + length spelled

-- a backslash goes, and the character after it stays
abbrev pub unescaped : Bool → List ℕ → List ℕ
unescaped pending [] = []
unescaped true (c ∷ text) = c ∷ unescaped false text
unescaped false (c ∷ text) = if c == 92 then unescaped true text else c ∷ unescaped false text

abbrev pub unquoted : TokenKind → List ℕ → List ℕ
unquoted kind.Quoted body = unescaped false body
unquoted _ body = body

-- the value that a token spells
abbrev pub body_of : List ℕ → Token → List ℕ
body_of text t = take (t.end - 1 - (t.start + 1)) (drop (t.start + 1) text)

abbrev pub token_value : List ℕ → Token → List ℕ
token_value text t = unquoted t.kind (body_of text t)

-- the call that the tokens make, where they make one
abbrev pub one_tree : Matcher → List ℕ → Tree
one_tree Query value = call Query value []
one_tree m value = call m [] value

abbrev pub tree_at : Option Matcher → List (List ℕ) → Tree
tree_at None values = call Host [] []
tree_at (Some m) [] = call m [] []
tree_at (Some m) (v ∷ []) = one_tree m v
tree_at (Some m) (k ∷ v ∷ more) = call m k v

abbrev pub call_tree : List ℕ → CallTokens → Tree
call_tree text c = tree_at (first_named (token_text text c.name)) (map (token_value text) c.values)

-- a call that is right, and its tree
abbrev pub IsRightCall : List ℕ → CallTokens → Type 0
IsRightCall text c = (m : Matcher) × ((key value : List ℕ) × CallMeans text c m key value × (call_tree text c ≡ call m key value))

abbrev pub StandsAsValue : List ℕ → Token → Type 0
StandsAsValue text t = Stands text t × IsValueToken t

abbrev pub tokens_call : Token → List Token → CallTokens
tokens_call name values = record { name = name; values = values }

-- the leaf of a matcher and the tokens of its values
pub record IsLeafOf (text : List ℕ) (m : Matcher) (values : List Token) (l : Leaf) : Type 0 where
  pub takes_count : TakesCount m (length values)
  pub same : l.matcher ≡ m
  pub has : HasBoth text m values l.key l.value
  pub takes_key : TakesKey m l.key
  pub takes_value : TakesValue m l.value
  pub tree : call l.matcher l.key l.value ≡ tree_at (Some m) (map (token_value text) values)

-- why they make none
abbrev pub IsRefusalOf : List ℕ → Matcher → List Token → CallFault → Type 0
IsRefusalOf text m values fault.Memory = Unit {0}
IsRefusalOf text m values f =
    (key value : List ℕ) × HasBoth text m values key value × IsRefusal m key value (first_start values) (last_start values) f

abbrev pub IsFaultOf : List ℕ → ℕ → Matcher → List Token → CallFault → Type 0
IsFaultOf text name m values (fault.Arity at) = (at ≡ name) × (¬ (TakesCount m (length values)))
IsFaultOf text name m values f = TakesCount m (length values) × IsRefusalOf text m values f
