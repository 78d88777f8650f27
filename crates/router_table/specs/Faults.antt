-- Why a router is disabled: the first reason, in the order of the variants of `RouterFault`.
use Rattle.std.specs.Prelude.{◌≡◌, ◌≢◌, ℕ, ◌<◌, ◌≤◌, ℤ, pos, ◌<ℤ◌, ◌≤ℤ◌, ◌⊎◌, true, false, List, [], Option, Some, None, IsUtf8}
use Rattle.std.specs.List.{list_all}
use Rattle.rule_lang.specs.Trees.{Tree}
use Rattle.rule_lang.specs.Reading.{IsReadAs, IsRuleFault}
use Rattle.rule_lang.specs.declared.read.RuleFault.{RuleFault}
use Rattle.rule_lang.specs.declared.read.RuleFault.TheVariants as rule_fault
use Rattle.rule_eval.specs.Calls.{Call, calls_of, pattern_count}
use Rattle.rule_eval.specs.Faults.{AreSound, IsFirst, IsBadAddress, IsBadPattern, IsGoodPattern}
use Rattle.rule_eval.specs.declared.compiling.CompileFault.{CompileFault}
use Rattle.rule_eval.specs.declared.compiling.CompileFault.TheVariants as compile_fault
use Rattle.dyn_config.specs.declared.router.RouterDef.{RouterDef}
use Rattle.router_table.specs.Settings.{Setting, RouterEntry, is_declared, is_listed, is_usable, chain_length, service_of, chain_of}
use Rattle.router_table.specs.declared.fault.RouterFault.{RouterFault}
use Rattle.router_table.specs.declared.fault.RouterFault.TheVariants as fault

-- the bytes are a text of this rule
abbrev pub IsRuleOf : List ℕ → Tree → Type 0
IsRuleOf bytes rule = IsUtf8 bytes × IsReadAs bytes rule

-- the bytes are a text with this fault; bytes that are no UTF-8, which no provider gives, have the fault `Lex` at their start
abbrev pub IsTextFault : List ℕ → RuleFault → Type 0
IsTextFault bytes f =
    (f ≢ rule_fault.Memory) × ((IsUtf8 bytes × IsRuleFault bytes f) ⊎ ((¬ (IsUtf8 bytes)) × (f ≡ rule_fault.Lex 0)))

-- the router asks for nothing that isn't supported
pub record IsSupported (d : RouterDef) : Type 0 where
  pub no_tls : d.tls ≡ false
  pub no_other : d.unsupported ≡ false

-- the greatest priority that a router may have: 2^63 - 1 - 1000
abbrev pub greatest_priority : ℤ
greatest_priority = pos 9223372036854774807

-- it has this rule, and a priority that it may have
pub record HasRule (d : RouterDef) (rule : Tree) : Type 0 where
  pub supported : IsSupported d
  pub read : IsRuleOf d.rule rule
  pub priority : d.priority ≤ℤ greatest_priority

-- its rule's patterns are no more than are left
pub record HasPatterns (left : ℕ) (d : RouterDef) (rule : Tree) : Type 0 where
  pub has_rule : HasRule d rule
  pub fits : pattern_count rule ≤ left

-- its rule is compiled, since the shop refused none of its patterns for its size
pub record IsCompiled (left : ℕ) (refused : Option ℕ) (d : RouterDef) (rule : Tree) : Type 0 where
  pub patterns : HasPatterns left d rule
  pub sound : AreSound (calls_of rule)
  pub none_refused : refused ≡ None

-- it names a service, which is declared and usable
pub record IsServed (s : Setting) (e : RouterEntry) : Type 0 where
  pub named : e.def.service ≢ []
  pub declared : is_declared s.services (service_of e) ≡ true
  pub usable : is_listed s.usable_services (service_of e) ≡ true

-- its middlewares are declared and usable, and at most 64, those of chains counted
pub record IsChained (s : Setting) (e : RouterEntry) : Type 0 where
  pub declared : list_all (is_declared s.middlewares) (chain_of e) ≡ true
  pub usable : list_all (is_usable s.usable_middlewares) (chain_of e) ≡ true
  pub short : chain_length s.usable_middlewares (chain_of e) ≤ 64

-- no reason stands against the router
pub record IsSound (s : Setting) (left : ℕ) (refused : Option ℕ) (e : RouterEntry) (rule : Tree) : Type 0 where
  pub compiled : IsCompiled left refused e.def rule
  pub served : IsServed s e
  pub chained : IsChained s e

-- the first call at fault, where the shop refused the pattern of the call `refused` for its size
abbrev pub IsCompileFault : Option ℕ → List Call → CompileFault → Type 0
IsCompileFault refused calls (compile_fault.Address n) = (refused ≡ None) × IsFirst IsBadAddress calls n
IsCompileFault refused calls (compile_fault.Syntax n) = (refused ≡ None) × IsFirst IsBadPattern calls n
IsCompileFault refused calls (compile_fault.TooBig n) = (refused ≡ Some n) × IsFirst IsGoodPattern calls n
IsCompileFault refused calls compile_fault.Memory = ⊥

-- of the options, the rule and the priority
abbrev pub IsReadFault : RouterDef → RouterFault → Type 0
IsReadFault d fault.Tls = d.tls ≡ true
IsReadFault d fault.Unsupported = (d.tls ≡ false) × (d.unsupported ≡ true)
IsReadFault d (fault.Rule f) = IsSupported d × IsTextFault d.rule f
IsReadFault d fault.Priority = IsSupported d × ((rule : Tree) × IsRuleOf d.rule rule) × (greatest_priority <ℤ d.priority)
IsReadFault d _ = ⊥

-- of the rule's patterns and networks
abbrev pub IsPatternFault : ℕ → Option ℕ → Tree → RouterFault → Type 0
IsPatternFault left refused rule fault.TooManyPatterns = left < pattern_count rule
IsPatternFault left refused rule (fault.Compile f) = (pattern_count rule ≤ left) × IsCompileFault refused (calls_of rule) f
IsPatternFault left refused rule _ = ⊥

-- of the service
abbrev pub IsServiceFault : Setting → RouterEntry → RouterFault → Type 0
IsServiceFault s e fault.NoService = e.def.service ≡ []
IsServiceFault s e fault.MissingService = (e.def.service ≢ []) × (is_declared s.services (service_of e) ≡ false)
IsServiceFault s e fault.BadService =
    (e.def.service ≢ []) × (is_declared s.services (service_of e) ≡ true) × (is_listed s.usable_services (service_of e) ≡ false)
IsServiceFault s e _ = ⊥

-- of the middlewares
abbrev pub IsChainFault : Setting → RouterEntry → RouterFault → Type 0
IsChainFault s e fault.MissingMiddleware = list_all (is_declared s.middlewares) (chain_of e) ≡ false
IsChainFault s e fault.BadMiddleware =
    (list_all (is_declared s.middlewares) (chain_of e) ≡ true) × (list_all (is_usable s.usable_middlewares) (chain_of e) ≡ false)
IsChainFault s e fault.ChainTooLong =
    (list_all (is_declared s.middlewares) (chain_of e) ≡ true) × (list_all (is_usable s.usable_middlewares) (chain_of e) ≡ true)
    × (64 < chain_length s.usable_middlewares (chain_of e))
IsChainFault s e _ = ⊥

-- the first reason against the router, where `left` patterns may be built: one of its options, rule and priority; else one of
-- its rule's patterns; else one of its service; else one of its middlewares
abbrev pub IsFault : Setting → ℕ → Option ℕ → RouterEntry → RouterFault → Type 0
IsFault s left refused e f =
    IsReadFault e.def f
    ⊎ ((rule : Tree) × HasRule e.def rule × IsPatternFault left refused rule f)
    ⊎ ((rule : Tree) × IsCompiled left refused e.def rule × IsServiceFault s e f)
    ⊎ ((rule : Tree) × IsCompiled left refused e.def rule × IsServed s e × IsChainFault s e f)
