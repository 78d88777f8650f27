-- The calls of a rule from the left, and what kind of call each is.
use Rattle.std.specs.Prelude.{ℕ, Bool, true, false, ◌&&◌, List, [], ◌∷◌, ◌++◌, count_by}
use Rattle.rule_lang.specs.declared.matcher.Matcher.{Matcher}
use Rattle.rule_lang.specs.declared.matcher.Matcher.TheVariants.{Header, HeaderRegexp, Host, HostRegexp, Method, Path, PathPrefix, PathRegexp, Query, QueryRegexp, ClientIp}
use Rattle.rule_lang.specs.Trees.{Tree, call, negation, both, either}

-- a call with its values
pub record Call : Type 0 where
  pub matcher : Matcher
  pub key : List ℕ
  pub value : List ℕ

-- the calls of a rule from the left
abbrev pub calls_of : Tree → List Call
calls_of (call matcher key value) = record { matcher = matcher; key = key; value = value } ∷ []
calls_of (negation r) = calls_of r
calls_of (both r s) = calls_of r ++ calls_of s
calls_of (either r s) = calls_of r ++ calls_of s

-- the value is a pattern
abbrev pub has_pattern : Matcher → Bool
has_pattern Header = false
has_pattern HeaderRegexp = true
has_pattern Host = false
has_pattern HostRegexp = true
has_pattern Method = false
has_pattern Path = false
has_pattern PathPrefix = false
has_pattern PathRegexp = true
has_pattern Query = false
has_pattern QueryRegexp = true
has_pattern ClientIp = false

-- the matcher is plain: it asks no pattern and not the query
abbrev pub is_plain_matcher : Matcher → Bool
is_plain_matcher Header = true
is_plain_matcher HeaderRegexp = false
is_plain_matcher Host = true
is_plain_matcher HostRegexp = false
is_plain_matcher Method = true
is_plain_matcher Path = true
is_plain_matcher PathPrefix = true
is_plain_matcher PathRegexp = false
is_plain_matcher Query = false
is_plain_matcher QueryRegexp = false
is_plain_matcher ClientIp = true

-- how many calls of the rule have a pattern
abbrev pub pattern_count : Tree → ℕ
pattern_count rule = count_by (λ (c : Call). has_pattern c.matcher) (calls_of rule)

-- no call of the rule asks a pattern or the query
abbrev pub is_plain : Tree → Bool
is_plain (call matcher key value) = is_plain_matcher matcher
is_plain (negation r) = is_plain r
is_plain (both r s) = is_plain r && is_plain s
is_plain (either r s) = is_plain r && is_plain s
