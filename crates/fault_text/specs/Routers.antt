-- The text of a router's fault.
use Rattle.std.specs.Prelude.{ℕ, List, ◌++◌, codes}
use Rattle.std.specs.Fmt.{decimal}
use Rattle.rule_lang.specs.declared.read.RuleFault.{RuleFault}
use Rattle.rule_lang.specs.declared.read.RuleFault.TheVariants as rule
use Rattle.rule_eval.specs.declared.compiling.CompileFault.{CompileFault}
use Rattle.rule_eval.specs.declared.compiling.CompileFault.TheVariants as compile
use Rattle.router_table.specs.declared.fault.RouterFault.{RouterFault}
use Rattle.router_table.specs.declared.fault.RouterFault.TheVariants as router

-- a name, and a place or the number of a leaf
abbrev pub counted_text : List ℕ → ℕ → List ℕ
counted_text name number = name ++ decimal number

abbrev pub rule_fault_text : RuleFault → List ℕ
rule_fault_text rule.TooLong = codes "Rule TooLong"
rule_fault_text (rule.Lex at) = counted_text (codes "Rule Lex ") at
rule_fault_text (rule.Unexpected at) = counted_text (codes "Rule Unexpected ") at
rule_fault_text rule.TooDeep = codes "Rule TooDeep"
rule_fault_text (rule.UnknownMatcher at) = counted_text (codes "Rule UnknownMatcher ") at
rule_fault_text (rule.Arity at) = counted_text (codes "Rule Arity ") at
rule_fault_text (rule.Value at) = counted_text (codes "Rule Value ") at
rule_fault_text rule.Memory = codes "Rule Memory"

abbrev pub compile_fault_text : CompileFault → List ℕ
compile_fault_text (compile.Address leaf) = counted_text (codes "Compile Address ") leaf
compile_fault_text (compile.Syntax leaf) = counted_text (codes "Compile Syntax ") leaf
compile_fault_text (compile.TooBig leaf) = counted_text (codes "Compile TooBig ") leaf
compile_fault_text compile.Memory = codes "Compile Memory"

abbrev pub router_fault_text : RouterFault → List ℕ
router_fault_text router.Tls = codes "Tls"
router_fault_text router.Unsupported = codes "Unsupported"
router_fault_text (router.Rule fault) = rule_fault_text fault
router_fault_text router.Priority = codes "Priority"
router_fault_text router.TooManyPatterns = codes "TooManyPatterns"
router_fault_text (router.Compile fault) = compile_fault_text fault
router_fault_text router.NoService = codes "NoService"
router_fault_text router.MissingService = codes "MissingService"
router_fault_text router.BadService = codes "BadService"
router_fault_text router.MissingMiddleware = codes "MissingMiddleware"
router_fault_text router.BadMiddleware = codes "BadMiddleware"
router_fault_text router.ChainTooLong = codes "ChainTooLong"
