-- What single functions answer.
use Rattle.std.specs.Prelude.{◌≡◌, ◌≢◌, ℕ, ◌-◌, ◌⊎◌, nat_le, Bool, true, false, if◌then◌else◌, ⊤}
use Rattle.rule_lang.specs.Trees.{Tree}
use Rattle.rule_eval.specs.Calls.{pattern_count}
use Rattle.rule_lang.specs.declared.read.RuleFault.{RuleFault}
use Rattle.rule_lang.specs.declared.read.RuleFault.TheVariants as rule_fault
use Rattle.rule_eval.specs.declared.compiling.CompileFault.TheVariants as compile_fault
use Rattle.router_table.specs.declared.fault.RouterFault.{RouterFault}
use Rattle.router_table.specs.declared.fault.RouterFault.TheVariants as fault
use Rattle.router_table.specs.declared.row.RouterState.{RouterState}
use Rattle.router_table.specs.declared.row.RouterState.TheVariants.{Enabled, Disabled}
use Rattle.router_table.specs.declared.fault.Refusal.{Refusal}
use Rattle.router_table.specs.declared.fault.Refusal.TheVariants.{Fault, Memory}
use Rattle.router_table.specs.declared.setting.Setting.{Setting}
use Rattle.rule_eval.specs.Rules.{compiled_rule}
use Rattle.router_table.specs.Settings.{Setting as Meant, RouterEntry, setting_of, service_of, chain_of}
use Rattle.router_table.specs.Faults.{IsServed, IsChained, IsServiceFault, IsChainFault}

-- P of the fault, where the refusal is one
abbrev pub IfFault : (RouterFault → Type 0) → Refusal → Type 0
IfFault P (Fault f) = P f
IfFault P Memory = ⊤

abbrev pub meant : Setting → Meant
meant s = setting_of s.merged.now s.services.now s.middlewares.now

-- how many patterns are left after a rule that may use its own
abbrev pub left_after : ℕ → Tree → ℕ
left_after left rule = if nat_le (pattern_count rule) left then left - pattern_count rule else left

abbrev pub is_too_big : RouterFault → Bool
is_too_big (fault.Compile (compile_fault.TooBig n)) = true
is_too_big _ = false

-- a fault of a rule, or that memory ran out
abbrev pub IsRefusalOf : RuleFault → Refusal → Type 0
IsRefusalOf f (Fault g) = (g ≡ fault.Rule f) × (f ≢ rule_fault.Memory)
IsRefusalOf f Memory = ⊤

-- the state of a router with this rule whose service and middlewares are usable
abbrev pub IsEnabled : Meant → RouterEntry → Tree → RouterState → Type 0
IsEnabled s e rule (Enabled service chain search) =
    IsServed s e × IsChained s e × (service ≡ service_of e) × (chain ≡ chain_of e)
    × (search.entry_points ≡ e.def.entry_points) × (compiled_rule search.rule ≡ rule)
IsEnabled s e rule (Disabled f) = ⊥

-- the first reason of the service and the middlewares
abbrev pub IsReferenceFault : Meant → RouterEntry → RouterFault → Type 0
IsReferenceFault s e f = IsServiceFault s e f ⊎ (IsServed s e × IsChainFault s e f)
