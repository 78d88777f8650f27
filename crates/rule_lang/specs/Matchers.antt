-- The matchers of rules: their names, how many values they take, and which.
use Rattle.std.specs.Prelude.{◌≡◌, ◌≢◌, ℕ, ◌<◌, ◌≤◌, ◌⊎◌, Bool, true, ◌||◌, List, [], ◌∷◌, length, codes, find, Option, IsTrue, ◌==◌}
use Rattle.std.specs.List.{AllByRecursion, list_any}
use Rattle.std.specs.Str.{str_eq_ignore_ascii_case}
use Rattle.std.specs.Char.{is_ascii_alphanumeric}
use Rattle.rule_lang.specs.declared.matcher.Matcher.{Matcher}
use Rattle.rule_lang.specs.declared.matcher.Matcher.TheVariants.{Header, HeaderRegexp, Host, HostRegexp, Method, Path, PathPrefix, PathRegexp, Query, QueryRegexp, ClientIp}

-- the name of a matcher
abbrev pub name_of_matcher : Matcher → List ℕ
name_of_matcher Header = codes "Header"
name_of_matcher HeaderRegexp = codes "HeaderRegexp"
name_of_matcher Host = codes "Host"
name_of_matcher HostRegexp = codes "HostRegexp"
name_of_matcher Method = codes "Method"
name_of_matcher Path = codes "Path"
name_of_matcher PathPrefix = codes "PathPrefix"
name_of_matcher PathRegexp = codes "PathRegexp"
name_of_matcher Query = codes "Query"
name_of_matcher QueryRegexp = codes "QueryRegexp"
name_of_matcher ClientIp = codes "ClientIP"

-- the name names this matcher, without ASCII case
abbrev pub IsNamed : List ℕ → Matcher → Type 0
IsNamed name m = IsTrue (str_eq_ignore_ascii_case name (name_of_matcher m))

-- all of them, and the first that a name names
abbrev pub matchers : List Matcher
matchers = Header ∷ HeaderRegexp ∷ Host ∷ HostRegexp ∷ Method ∷ Path ∷ PathPrefix ∷ PathRegexp ∷ Query ∷ QueryRegexp ∷ ClientIp ∷ []

abbrev pub first_named : List ℕ → Option Matcher
first_named name = find (λ m. str_eq_ignore_ascii_case name (name_of_matcher m)) matchers

-- how many values it takes
abbrev pub TakesCount : Matcher → ℕ → Type 0
TakesCount Header n = n ≡ 2
TakesCount HeaderRegexp n = n ≡ 2
TakesCount Host n = n ≡ 1
TakesCount HostRegexp n = n ≡ 1
TakesCount Method n = n ≡ 1
TakesCount Path n = n ≡ 1
TakesCount PathPrefix n = n ≡ 1
TakesCount PathRegexp n = n ≡ 1
TakesCount Query n = (n ≡ 1) ⊎ (n ≡ 2)
TakesCount QueryRegexp n = n ≡ 2
TakesCount ClientIp n = n ≡ 1

-- a byte of a token (RFC 9110 section 5.6.2)
abbrev pub is_token_byte : ℕ → Bool
is_token_byte b = is_ascii_alphanumeric b || list_any (λ c. c == b) (codes "!#$%&'*+-.^_`|~")

-- a token: what a field's name or a method is
abbrev pub IsToken : List ℕ → Type 0
IsToken text = (0 < length text) × AllByRecursion (λ b. is_token_byte b ≡ true) text

-- CR, LF and NUL, which no field value has
abbrev pub AreLineBytes : List ℕ → Type 0
AreLineBytes text = AllByRecursion (λ b. (b ≢ 0) × (b ≢ 10) × (b ≢ 13)) text

-- 1 to 253 visible ASCII characters
abbrev pub IsHostText : List ℕ → Type 0
IsHostText text = (1 ≤ length text) × (length text ≤ 253) × AllByRecursion (λ b. (33 ≤ b) × (b ≤ 126)) text

-- the text begins with a slash
abbrev pub IsRooted : List ℕ → Type 0
IsRooted text = (rest : List ℕ) × (text ≡ 47 ∷ rest)

-- the first of two values that a matcher takes
abbrev pub TakesKey : Matcher → List ℕ → Type 0
TakesKey Header key = IsToken key
TakesKey HeaderRegexp key = IsToken key
TakesKey Query key = 0 < length key
TakesKey QueryRegexp key = 0 < length key
TakesKey _ key = Unit {0}

-- the value that it takes: of a pattern, at most 512 bytes
abbrev pub TakesValue : Matcher → List ℕ → Type 0
TakesValue Header value = AreLineBytes value
TakesValue HeaderRegexp value = length value ≤ 512
TakesValue Host value = IsHostText value
TakesValue HostRegexp value = length value ≤ 512
TakesValue Method value = IsToken value
TakesValue Path value = IsRooted value
TakesValue PathPrefix value = IsRooted value
TakesValue PathRegexp value = length value ≤ 512
TakesValue Query value = Unit {0}
TakesValue QueryRegexp value = length value ≤ 512
TakesValue ClientIp value = (1 ≤ length value) × (length value ≤ 64)
