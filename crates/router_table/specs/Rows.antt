-- The rows of a table.
use Rattle.std.specs.Prelude.{◌≡◌, ℕ, zero, ◌+◌, ◌-◌, ◌^◌, ◌≤◌, ◌⊎◌, min, ℤ, pos, Bool, true, false, List, [], ◌∷◌, length, count_by, Option, Some, None, ⊤}
use Rattle.rule_lang.specs.Trees.{Tree}
use Rattle.rule_eval.specs.Calls.{pattern_count}
use Rattle.rule_eval.specs.Rules.{compiled_rule}
use Rattle.rule_eval.specs.declared.compiling.CompileFault.{CompileFault}
use Rattle.rule_eval.specs.declared.compiling.CompileFault.TheVariants as compile_fault
use Rattle.dyn_config.specs.declared.router.RouterDef.{RouterDef}
use Rattle.router_table.specs.Settings.{Setting, RouterEntry, service_of, chain_of}
use Rattle.router_table.specs.Faults.{HasPatterns, IsFault, IsSound}
use Rattle.router_table.specs.declared.fault.RouterFault.{RouterFault}
use Rattle.router_table.specs.declared.fault.RouterFault.TheVariants as fault
use Rattle.router_table.specs.declared.row.RouterState.{RouterState}
use Rattle.router_table.specs.declared.row.RouterState.TheVariants.{Enabled, Disabled}
use Rattle.router_table.specs.declared.row.Row.{Row}

-- the call whose pattern the shop refused for its size
abbrev pub refused_call : CompileFault → Option ℕ
refused_call (compile_fault.TooBig n) = Some n
refused_call _ = None

-- the same, where a router is disabled for that
abbrev pub refused_by : RouterFault → Option ℕ
refused_by (fault.Compile f) = refused_call f
refused_by _ = None

-- a router is disabled so
abbrev pub refused_in : RouterState → Option ℕ
refused_in (Enabled service chain search) = None
refused_in (Disabled f) = refused_by f

-- the priority of a row: the router's own, or where that is 0 the length of its rule in bytes
abbrev pub ranked : ℤ → ℕ → ℤ
ranked (pos zero) len = pos len
ranked own len = own

abbrev pub priority_of : RouterDef → ℤ
priority_of d = ranked d.priority (length d.rule)

-- no reason stands against the router, or this is the first that does
abbrev pub IsState : Setting → ℕ → RouterEntry → RouterState → Type 0
IsState s left e (Enabled service chain search) =
    IsSound s left None e (compiled_rule search.rule) × (service ≡ service_of e) × (chain ≡ chain_of e)
    × (search.entry_points ≡ e.def.entry_points)
IsState s left e (Disabled f) = IsFault s left (refused_by f) e f

-- the row of a router before which `left` patterns were left
pub record IsRow (s : Setting) (left : ℕ) (e : RouterEntry) (row : Row) : Type 0 where
  pub name : row.name ≡ e.name
  pub priority : row.priority ≡ priority_of e.def
  pub state : IsState s left e row.state

-- how many patterns are left after a router: its own are used where they fit and no earlier reason stands against it, also
-- where a later one does
abbrev pub Leaves : ℕ → RouterDef → ℕ → Type 0
Leaves left d after =
    ((rule : Tree) × HasPatterns left d rule × (after ≡ left - pattern_count rule))
    ⊎ (((rule : Tree) → ¬ (HasPatterns left d rule)) × (after ≡ left))

-- the rows of routers, in order
abbrev pub AreRows : Setting → ℕ → List RouterEntry → List Row → Type 0
AreRows s left [] [] = ⊤
AreRows s left [] (row ∷ rows) = ⊥
AreRows s left (e ∷ es) [] = ⊥
AreRows s left (e ∷ es) (row ∷ rows) = IsRow s left e row × ((after : ℕ) × Leaves left e.def after × AreRows s after es rows)

-- the router is disabled since the shop refused one of its patterns for its size
abbrev pub is_refused : RouterState → Bool
is_refused (Disabled (fault.Compile (compile_fault.TooBig n))) = true
is_refused _ = false

-- the shop, which counted `old` refusals before and `new` after, refused a pattern for each router that is disabled for that
abbrev pub Refuses : ℕ → ℕ → List Row → Type 0
Refuses old new rows = min (old + count_by (λ (row : Row). is_refused row.state) rows) (2 ^ 64 - 1) ≤ new
