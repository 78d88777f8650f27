-- Why a rule isn't compiled: its first call from the left that is at fault.
use Rattle.std.specs.Prelude.{◌≡◌, ℕ, ◌-◌, ◌^◌, min, true, List, ◌∷◌, ◌++◌, length}
use Rattle.std.specs.List.{AllByRecursion}
use Rattle.rule_lang.specs.declared.matcher.Matcher.{Matcher}
use Rattle.rule_lang.specs.declared.matcher.Matcher.TheVariants.{Header, HeaderRegexp, Host, HostRegexp, Method, Path, PathPrefix, PathRegexp, Query, QueryRegexp, ClientIp}
use Rattle.ip_net.specs.declared.ip.Ip.{Ip}
use Rattle.rule_lang.specs.declared.rule.Leaf.{Leaf}
use Rattle.ip_net.specs.Texts.{WritesNet}
use Rattle.px_base.specs.Bytes.{one_more}
use Rattle.rule_eval.specs.Patterns.{IsPatternText}
use Rattle.rule_eval.specs.Calls.{Call, has_pattern}
use Rattle.rule_eval.specs.declared.compiling.CompileFault.{CompileFault}
use Rattle.rule_eval.specs.declared.compiling.CompileFault.TheVariants.{Address, Syntax, TooBig, Memory}

-- the text writes a network
abbrev pub IsNetwork : List ℕ → Type 0
IsNetwork text = (ip : Ip) × ((bits : ℕ) × WritesNet text ip bits)

-- nothing but memory and size stands in the way of the call: `ClientIP` has a network, and
-- what has a pattern has one that the grammar reads
abbrev pub IsSoundBy : Matcher → List ℕ → Type 0
IsSoundBy Header value = Unit {0}
IsSoundBy HeaderRegexp value = IsPatternText value
IsSoundBy Host value = Unit {0}
IsSoundBy HostRegexp value = IsPatternText value
IsSoundBy Method value = Unit {0}
IsSoundBy Path value = Unit {0}
IsSoundBy PathPrefix value = Unit {0}
IsSoundBy PathRegexp value = IsPatternText value
IsSoundBy Query value = Unit {0}
IsSoundBy QueryRegexp value = IsPatternText value
IsSoundBy ClientIp value = IsNetwork value

abbrev pub IsSound : Call → Type 0
IsSound c = IsSoundBy c.matcher c.value

abbrev pub AreSound : List Call → Type 0
AreSound calls = AllByRecursion IsSound calls

-- the number of the call after these, from 0; it stays at 2 ^ 32 - 1 once it is there
abbrev pub number_after : List Call → ℕ
number_after calls = min (length calls) (2 ^ 32 - 1)

-- a call of `ClientIP` whose text writes no network
abbrev pub IsBadAddress : Call → Type 0
IsBadAddress c = (c.matcher ≡ ClientIp) × ¬ (IsNetwork c.value)

-- a call with a pattern that the grammar doesn't read
abbrev pub IsBadPattern : Call → Type 0
IsBadPattern c = (has_pattern c.matcher ≡ true) × ¬ (IsPatternText c.value)

-- a call with a pattern that it reads
abbrev pub IsGoodPattern : Call → Type 0
IsGoodPattern c = (has_pattern c.matcher ≡ true) × IsPatternText c.value

-- the call with this number is so, and all calls to its left are sound
pub record IsFirst (Fault : Call → Type 0) (calls : List Call) (number : ℕ) : Type 0 where
  pub before : List Call
  pub at : Call
  pub after : List Call
  pub calls_are : calls ≡ before ++ at ∷ after
  pub sound : AreSound before
  pub fault : Fault at
  pub number_is : number ≡ number_after before

-- what a fault says of the calls, where the count of size refusals was `old` and is `new`: no pattern to the left of the call
-- was refused for its size
abbrev pub Tells : List Call → ℕ → ℕ → CompileFault → Type 0
Tells calls old new (Address n) = IsFirst IsBadAddress calls n × (new ≡ old)
Tells calls old new (Syntax n) = IsFirst IsBadPattern calls n × (new ≡ old)
Tells calls old new (TooBig n) = IsFirst IsGoodPattern calls n × (new ≡ one_more old)
Tells calls old new Memory = Unit {0}

-- the call of a leaf
abbrev pub call_of : Leaf → Call
call_of l = record { matcher = l.matcher; key = l.key; value = l.value }

-- what a fault says of the call with this number
abbrev pub Blames : Call → ℕ → ℕ → ℕ → CompileFault → Type 0
Blames c at old new (Address n) = (n ≡ at) × IsBadAddress c × (new ≡ old)
Blames c at old new (Syntax n) = (n ≡ at) × IsBadPattern c × (new ≡ old)
Blames c at old new (TooBig n) = (n ≡ at) × IsGoodPattern c × (new ≡ one_more old)
Blames c at old new Memory = Unit {0}

-- what it says of the pattern there
abbrev pub BlamesText : List ℕ → ℕ → ℕ → ℕ → CompileFault → Type 0
BlamesText text at old new (Address n) = ⊥
BlamesText text at old new (Syntax n) = (n ≡ at) × (¬ (IsPatternText text)) × (new ≡ old)
BlamesText text at old new (TooBig n) = (n ≡ at) × IsPatternText text × (new ≡ one_more old)
BlamesText text at old new Memory = Unit {0}

-- what it says of the network there
abbrev pub BlamesAddress : List ℕ → ℕ → CompileFault → Type 0
BlamesAddress text at (Address n) = (n ≡ at) × ¬ (IsNetwork text)
BlamesAddress text at (Syntax n) = ⊥
BlamesAddress text at (TooBig n) = ⊥
BlamesAddress text at Memory = Unit {0}
