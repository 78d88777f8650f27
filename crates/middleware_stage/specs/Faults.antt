-- Why one middleware, which is no chain, can't be used.
use Rattle.std.specs.Prelude.{◌≡◌, ℕ, ◌<◌, ◌≤◌, ◌⊎◌, Bool, true, false, List, length, Any, IsUtf8, Option, Some, None}
use Rattle.dyn_config.specs.declared.middleware.MiddlewareDef.{MiddlewareDef}
use Rattle.dyn_config.specs.declared.middleware.MiddlewareDef.TheVariants.{AddPrefix, StripPrefix, ReplacePath, ReplacePathRegex, Headers, IpAllowList, Chain, Buffering, RedirectScheme, RedirectRegex, Unsupported}
use Rattle.px_base.specs.Bytes.{one_more}
use Rattle.rule_eval.specs.Faults.{IsNetwork}
use Rattle.rule_eval.specs.Patterns.{IsPatternText}
use Rattle.middleware_stage.specs.Lawful.{has_lawful_lines}
use Rattle.middleware_stage.specs.declared.stage.StageFault.{StageFault}
use Rattle.middleware_stage.specs.declared.stage.StageFault.TheVariants as fault

abbrev pub is_chain : MiddlewareDef → Bool
is_chain (Chain _) = true
is_chain (AddPrefix _) = false
is_chain (StripPrefix _ _) = false
is_chain (ReplacePath _) = false
is_chain (ReplacePathRegex _ _) = false
is_chain (Headers _ _ _) = false
is_chain (IpAllowList _ _) = false
is_chain (Buffering _ _) = false
is_chain (RedirectScheme _ _ _) = false
is_chain (RedirectRegex _ _ _) = false
is_chain Unsupported = false

-- an option, or the whole kind, isn't supported
abbrev pub is_unsupported : MiddlewareDef → Bool
is_unsupported (StripPrefix _ unsupported) = unsupported
is_unsupported (Headers _ _ unsupported) = unsupported
is_unsupported (IpAllowList _ unsupported) = unsupported
is_unsupported (Buffering _ unsupported) = unsupported
is_unsupported Unsupported = true
is_unsupported (AddPrefix _) = false
is_unsupported (ReplacePath _) = false
is_unsupported (ReplacePathRegex _ _) = false
is_unsupported (Chain _) = false
is_unsupported (RedirectScheme _ _ _) = false
is_unsupported (RedirectRegex _ _ _) = false

-- the pattern has more than 512 bytes, or the template that each of its matches is replaced by isn't UTF-8
abbrev pub IsBadRewrite : List ℕ → List ℕ → Type 0
IsBadRewrite regex replacement = (512 < length regex) ⊎ (¬ (IsUtf8 replacement))

-- a value isn't one that the middleware can have
abbrev pub HasBadValue : MiddlewareDef → Type 0
HasBadValue (ReplacePathRegex regex replacement) = IsBadRewrite regex replacement
HasBadValue (RedirectRegex regex replacement _) = IsBadRewrite regex replacement
HasBadValue (Headers request response unsupported) = has_lawful_lines (Headers request response unsupported) ≡ false
HasBadValue (IpAllowList ranges _) = Any (λ range. ¬ (IsNetwork range)) ranges
HasBadValue (AddPrefix _) = ⊥
HasBadValue (StripPrefix _ _) = ⊥
HasBadValue (ReplacePath _) = ⊥
HasBadValue (Chain _) = ⊥
HasBadValue (Buffering _ _) = ⊥
HasBadValue (RedirectScheme _ _ _) = ⊥
HasBadValue Unsupported = ⊥

-- the pattern of a middleware, where it has one
abbrev pub pattern_of : MiddlewareDef → Option (List ℕ)
pattern_of (ReplacePathRegex regex _) = Some regex
pattern_of (RedirectRegex regex _ _) = Some regex
pattern_of (AddPrefix _) = None
pattern_of (StripPrefix _ _) = None
pattern_of (ReplacePath _) = None
pattern_of (Headers _ _ _) = None
pattern_of (IpAllowList _ _) = None
pattern_of (Chain _) = None
pattern_of (Buffering _ _) = None
pattern_of (RedirectScheme _ _ _) = None
pattern_of Unsupported = None

abbrev pub count_some : Option (List ℕ) → ℕ
count_some None = 0
count_some (Some _) = 1

abbrev pub pattern_count : MiddlewareDef → ℕ
pattern_count def = count_some (pattern_of def)

-- nothing but its pattern stands in the way of the middleware, of which `spare` may be built
pub record IsFit (def : MiddlewareDef) (spare : ℕ) : Type 0 where
  pub supported : is_unsupported def ≡ false
  pub valued : ¬ (HasBadValue def)
  pub spared : pattern_count def ≤ spare

abbrev pub IsReadBy : Option (List ℕ) → Type 0
IsReadBy None = Unit {0}
IsReadBy (Some regex) = IsPatternText regex

-- the grammar of patterns reads the one that it has
abbrev pub HasReadable : MiddlewareDef → Type 0
HasReadable def = IsReadBy (pattern_of def)

-- the middleware can be used, where as many patterns may be built
pub record IsUsable (def : MiddlewareDef) (spare : ℕ) : Type 0 where
  pub fit : IsFit def spare
  pub read : HasReadable def

-- why it can't be used, the first of these
abbrev pub Blames : MiddlewareDef → ℕ → StageFault → Type 0
Blames def spare fault.Unsupported = is_unsupported def ≡ true
Blames def spare fault.Value = (is_unsupported def ≡ false) × HasBadValue def
Blames def spare fault.TooManyPatterns = (is_unsupported def ≡ false) × ¬ (HasBadValue def) × (spare < pattern_count def)
Blames def spare fault.Syntax = IsFit def spare × ¬ (HasReadable def)
Blames def spare fault.TooBig = IsUsable def spare × (pattern_count def ≡ 1)

-- the shop's count of size refusals before and after: one more where its pattern was refused for its size, and else the same
abbrev pub Counts : ℕ → ℕ → StageFault → Type 0
Counts old new fault.Unsupported = new ≡ old
Counts old new fault.Value = new ≡ old
Counts old new fault.TooManyPatterns = new ≡ old
Counts old new fault.Syntax = new ≡ old
Counts old new fault.TooBig = new ≡ one_more old
