-- What reading a rule's text gives.
use Rattle.std.specs.Prelude.{◌≡◌, ℕ, ◌<◌, ◌≤◌, List, length, Result, Ok, Err}
use Rattle.rule_lang.specs.declared.token.Token.{Token}
use Rattle.rule_lang.specs.declared.read.RuleFault.{RuleFault}
use Rattle.rule_lang.specs.declared.read.RuleFault.TheVariants as fault
use Rattle.rule_lang.specs.declared.call.CallFault.{CallFault}
use Rattle.rule_lang.specs.declared.call.CallFault.TheVariants as call_fault
use Rattle.rule_lang.specs.Tokens.{AreTokens, FailsAt}
use Rattle.rule_lang.specs.Trees.{Tree, call, negation, both, either}
use Rattle.rule_lang.specs.Calls.{CallMeans}
use Rattle.rule_lang.specs.Grammar.{IsRuleText}
use Rattle.rule_lang.specs.Forms.{Form, called, negated, grouped, joined, chosen, IsRule, form_depth, form_calls}
use Rattle.rule_lang.specs.Faults.{IsUnexpected, FirstCallFault}

-- the text has this form
abbrev pub HasForm : List ℕ → Form → Type 0
HasForm text f = (tokens : List Token) × AreTokens text tokens × IsRule tokens f

-- the calls of the form are good, and without its groups it is this rule
abbrev pub Means : List ℕ → Form → Tree → Type 0
Means text (called c) (call m key value) = CallMeans text c m key value
Means text (negated f) (negation r) = Means text f r
Means text (grouped f) r = Means text f r
Means text (joined f g) (both r s) = Means text f r × Means text g s
Means text (chosen f g) (either r s) = Means text f r × Means text g s
Means text _ _ = ⊥

-- a text of this rule, within the limits of length and depth
pub record IsReadAs (text : List ℕ) (rule : Tree) : Type 0 where
  pub form : Form
  pub short : length text ≤ 4096
  pub has_form : HasForm text form
  pub shallow : form_depth form ≤ 32
  pub means : Means text form rule
  pub is_text : IsRuleText text rule

-- the text has tokens, and the first unexpected one stands here, or the text ends here too early
abbrev pub IsUnexpectedAt : List ℕ → ℕ → Type 0
IsUnexpectedAt text at = (tokens : List Token) × AreTokens text tokens × IsUnexpected (length text) tokens at

-- a form within the limits of which the first call that is not good has this fault
abbrev pub HasCallFault : List ℕ → CallFault → Type 0
HasCallFault text f =
    (form : Form) × HasForm text form × (form_depth form ≤ 32) × FirstCallFault text (form_calls form) f

-- each fault where it is the first in order; that memory ran out says nothing of the text
abbrev pub IsRuleFault : List ℕ → RuleFault → Type 0
IsRuleFault text fault.TooLong = 4096 < length text
IsRuleFault text (fault.Lex at) = (length text ≤ 4096) × FailsAt text at
IsRuleFault text (fault.Unexpected at) = (length text ≤ 4096) × IsUnexpectedAt text at
IsRuleFault text fault.TooDeep = (length text ≤ 4096) × ((form : Form) × HasForm text form × (32 < form_depth form))
IsRuleFault text (fault.UnknownMatcher at) = (length text ≤ 4096) × HasCallFault text (call_fault.UnknownMatcher at)
IsRuleFault text (fault.Arity at) = (length text ≤ 4096) × HasCallFault text (call_fault.Arity at)
IsRuleFault text (fault.Value at) = (length text ≤ 4096) × HasCallFault text (call_fault.Value at)
IsRuleFault text fault.Memory = Unit {0}

-- what reading this text may answer
abbrev pub IsOutcome : List ℕ → Result Tree RuleFault → Type 0
IsOutcome text (Ok rule) = IsReadAs text rule
IsOutcome text (Err f) = IsRuleFault text f

abbrev pub WantsMemory : Result Tree RuleFault → Type 0
WantsMemory outcome = outcome ≡ Err fault.Memory
