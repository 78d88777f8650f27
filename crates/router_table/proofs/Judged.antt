-- The first reason against a router, put together from the answers of single functions.
use Rattle.std.proofs.Common.{◌≡◌, ◌≢◌, ℕ, ◌≤◌, ◌-◌, inl, inr, true, false, Bool, None, List, Ok, Err, refl, sym, ap, ◌∙◌, subst, nat_le, cond}
use Rattle.std.proofs.lemmas.Bool.{false≢true, leb-true, le-leb}
use Rattle.rule_lang.specs.Trees.{Tree}
use Rattle.rule_lang.specs.Reading.{WantsMemory}
use Rattle.rule_lang.specs.declared.read.RuleFault.{RuleFault}
use Rattle.rule_lang.specs.declared.read.RuleFault.TheVariants as rule_fault
use Rattle.rule_lang.proofs.Apart.{outcome_same}
use Rattle.rule_eval.specs.Calls.{pattern_count}
use Rattle.dyn_config.specs.declared.router.RouterDef.{RouterDef}
use Rattle.router_table.specs.Settings.{Setting, RouterEntry}
use Rattle.router_table.specs.Faults.{IsRuleOf, IsTextFault, HasRule, IsCompiled, IsServed, IsReadFault, IsPatternFault, IsServiceFault, IsChainFault}
use Rattle.router_table.specs.Rows.{IsState, Leaves, refused_by, is_refused}
use Rattle.router_table.specs.Steps.{IfFault, IsRefusalOf, IsEnabled, IsReferenceFault, left_after}
use Rattle.router_table.specs.declared.fault.Refusal.{Refusal}
use Rattle.router_table.specs.declared.fault.Refusal.TheVariants as refusal
use Rattle.router_table.specs.declared.fault.RouterFault.{RouterFault}
use Rattle.router_table.specs.declared.fault.RouterFault.TheVariants as fault
use Rattle.router_table.specs.declared.row.RouterState.{RouterState}
use Rattle.router_table.specs.declared.row.RouterState.TheVariants.{Enabled, Disabled}

ok_no_memory : (rule : Tree) → ¬ (WantsMemory (Ok rule))
ok_no_memory rule e = cc

err_no_memory : (f : RuleFault) → f ≢ rule_fault.Memory → ¬ (WantsMemory (Err f))
err_no_memory f apart e = let same : f ≡ rule_fault.Memory = cc in apart same

-- a text has one rule
pub same_rule : (bytes : List ℕ) (r q : Tree) → IsRuleOf bytes r → IsRuleOf bytes q → r ≡ q
same_rule bytes r q a b =
    let e : Ok r ≡ Ok q = outcome_same bytes (Ok r) (Ok q) a.1 b.1 (ok_no_memory r) (ok_no_memory q) in cc

rule_or_fault : (rule : Tree) (f : RuleFault) → Ok rule ≡ Err f → ⊥
rule_or_fault rule f e = cc

-- a text with a fault has none
pub fault_no_rule : (bytes : List ℕ) (f : RuleFault) (rule : Tree) → IsTextFault bytes f → ¬ (IsRuleOf bytes rule)
fault_no_rule bytes f rule (apart, inl told) r =
    rule_or_fault rule f (outcome_same bytes (Ok rule) (Err f) r.1 told.1 (ok_no_memory rule) (err_no_memory f apart))
fault_no_rule bytes f rule (apart, inr told) r = told.0 r.0

-- a router without a rule uses no patterns
pub leaves_all : (left : ℕ) (d : RouterDef) → ((rule : Tree) → ¬ (HasRule d rule)) → Leaves left d left
leaves_all left d never = inr ((λ rule p. never rule p.has_rule), refl)

left_where : (b : Bool) (left count : ℕ) (rule : Tree) (d : RouterDef) → nat_le count left ≡ b → count ≡ pattern_count rule → HasRule d rule → Leaves left d (cond b (left - count) left)
left_where true left count rule d fits same has =
    let P : ℕ → Type 0 = λ n. n ≤ left in
    inl (rule, record { has_rule = has; fits = subst P same (leb-true count left fits) }, ap (λ n. left - n) same)
left_where false left count rule d over same has =
    inr (
      (λ other p.
          let one : other ≡ rule = same_rule d.rule other rule p.has_rule.read has.read in
          let P : ℕ → Type 0 = λ n. n ≤ left in
          let here : count ≤ left = subst P (ap pattern_count one ∙ sym same) p.fits in
          false≢true (sym over ∙ le-leb count left here)),
      refl,
    )

-- one with a rule uses its own where they fit
pub leaves_after : (left : ℕ) (d : RouterDef) (rule : Tree) → HasRule d rule → Leaves left d (left_after left rule)
leaves_after left d rule has = left_where (nat_le (pattern_count rule) left) left (pattern_count rule) rule d refl refl has

-- the reason is one of the options, the rule and the priority
pub read_state : (s : Setting) (left : ℕ) (e : RouterEntry) (f : RouterFault) → IsReadFault e.def f → IsState s left e (Disabled f)
read_state s left e f told = inl told

-- it is one of the rule's patterns
pub pattern_state : (s : Setting) (left : ℕ) (e : RouterEntry) (rule : Tree) (f : RouterFault) → HasRule e.def rule
    → IsPatternFault left (refused_by f) rule f → IsState s left e (Disabled f)
pattern_state s left e rule f has told = inr (inl (rule, has, told))

-- it is one of the service
pub service_state : (s : Setting) (left : ℕ) (e : RouterEntry) (rule : Tree) (f : RouterFault) → IsCompiled left None e.def rule
    → IsServiceFault s e f → IsState s left e (Disabled f)
service_state s left e rule fault.Tls compiled told = absurd told
service_state s left e rule fault.Unsupported compiled told = absurd told
service_state s left e rule (fault.Rule f) compiled told = absurd told
service_state s left e rule fault.Priority compiled told = absurd told
service_state s left e rule fault.TooManyPatterns compiled told = absurd told
service_state s left e rule (fault.Compile f) compiled told = absurd told
service_state s left e rule fault.NoService compiled told = inr (inr (inl (rule, compiled, told)))
service_state s left e rule fault.MissingService compiled told = inr (inr (inl (rule, compiled, told)))
service_state s left e rule fault.BadService compiled told = inr (inr (inl (rule, compiled, told)))
service_state s left e rule fault.MissingMiddleware compiled told = absurd told
service_state s left e rule fault.BadMiddleware compiled told = absurd told
service_state s left e rule fault.ChainTooLong compiled told = absurd told

-- it is one of the middlewares
pub chain_state : (s : Setting) (left : ℕ) (e : RouterEntry) (rule : Tree) (f : RouterFault) → IsCompiled left None e.def rule
    → IsServed s e → IsChainFault s e f → IsState s left e (Disabled f)
chain_state s left e rule fault.Tls compiled served told = absurd told
chain_state s left e rule fault.Unsupported compiled served told = absurd told
chain_state s left e rule (fault.Rule f) compiled served told = absurd told
chain_state s left e rule fault.Priority compiled served told = absurd told
chain_state s left e rule fault.TooManyPatterns compiled served told = absurd told
chain_state s left e rule (fault.Compile f) compiled served told = absurd told
chain_state s left e rule fault.NoService compiled served told = absurd told
chain_state s left e rule fault.MissingService compiled served told = absurd told
chain_state s left e rule fault.BadService compiled served told = absurd told
chain_state s left e rule fault.MissingMiddleware compiled served told = inr (inr (inr (rule, compiled, served, told)))
chain_state s left e rule fault.BadMiddleware compiled served told = inr (inr (inr (rule, compiled, served, told)))
chain_state s left e rule fault.ChainTooLong compiled served told = inr (inr (inr (rule, compiled, served, told)))

pub reference_state : (s : Setting) (left : ℕ) (e : RouterEntry) (rule : Tree) (f : RouterFault) → IsCompiled left None e.def rule
    → IsReferenceFault s e f → IsState s left e (Disabled f)
reference_state s left e rule f compiled (inl told) = service_state s left e rule f compiled told
reference_state s left e rule f compiled (inr told) = chain_state s left e rule f compiled told.0 told.1

-- none of those is that a pattern was refused for its size
pub reference_not_refused : (s : Setting) (e : RouterEntry) (f : RouterFault) → IsReferenceFault s e f → is_refused (Disabled f) ≡ false
reference_not_refused s e fault.Tls told = refl
reference_not_refused s e fault.Unsupported told = refl
reference_not_refused s e (fault.Rule f) told = refl
reference_not_refused s e fault.Priority told = refl
reference_not_refused s e fault.TooManyPatterns told = refl
reference_not_refused s e (fault.Compile f) (inl told) = absurd told
reference_not_refused s e (fault.Compile f) (inr told) = absurd told.1
reference_not_refused s e fault.NoService told = refl
reference_not_refused s e fault.MissingService told = refl
reference_not_refused s e fault.BadService told = refl
reference_not_refused s e fault.MissingMiddleware told = refl
reference_not_refused s e fault.BadMiddleware told = refl
reference_not_refused s e fault.ChainTooLong told = refl

pub read_not_refused : (d : RouterDef) (f : RouterFault) → IsReadFault d f → is_refused (Disabled f) ≡ false
read_not_refused d fault.Tls told = refl
read_not_refused d fault.Unsupported told = refl
read_not_refused d (fault.Rule f) told = refl
read_not_refused d fault.Priority told = refl
read_not_refused d fault.TooManyPatterns told = refl
read_not_refused d (fault.Compile f) told = absurd told
read_not_refused d fault.NoService told = refl
read_not_refused d fault.MissingService told = refl
read_not_refused d fault.BadService told = refl
read_not_refused d fault.MissingMiddleware told = refl
read_not_refused d fault.BadMiddleware told = refl
read_not_refused d fault.ChainTooLong told = refl

-- no reason stands against the router
pub enabled_state : (s : Setting) (left : ℕ) (e : RouterEntry) (rule : Tree) (state : RouterState) → IsCompiled left None e.def rule
    → IsEnabled s e rule state → IsState s left e state
enabled_state s left e rule (Enabled service chain found) compiled (served, chained, sv, ch, ep, ru) =
    (record { compiled = subst (IsCompiled left None e.def) (sym ru) compiled; served = served; chained = chained }, sv, ch, ep)
enabled_state s left e rule (Disabled f) compiled told = absurd told

pub enabled_not_refused : (s : Setting) (e : RouterEntry) (rule : Tree) (state : RouterState) → IsEnabled s e rule state → is_refused state ≡ false
enabled_not_refused s e rule (Enabled service chain found) told = refl
enabled_not_refused s e rule (Disabled f) told = absurd told

-- a router whose text has a fault has no rule
pub refused_no_rule : (d : RouterDef) (text : List ℕ) (f : RuleFault) (r : Refusal) → text ≡ d.rule → (f ≢ rule_fault.Memory → IsTextFault text f) → IsRefusalOf f r
    → IfFault (λ _. (rule : Tree) → ¬ (HasRule d rule)) r
refused_no_rule d text f (refusal.Fault g) e told (same, apart) = λ rule has.
    let P : List ℕ → Type 0 = λ t. IsRuleOf t rule in
    fault_no_rule text f rule (told apart) (subst P (sym e) has.read)
refused_no_rule d text f refusal.Memory e told is = tt
