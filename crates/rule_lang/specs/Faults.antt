-- Why a text is no rule.
use Rattle.std.specs.List.{AllByRecursion}
use Rattle.std.specs.Prelude.{◌≡◌, ◌⊎◌, List, [], ◌∷◌, ◌++◌, ℕ}
use Rattle.rule_lang.specs.declared.lex.LexFault.{LexFault}
use Rattle.rule_lang.specs.declared.lex.LexFault.TheVariants.{Lex, Memory}
use Rattle.rule_lang.specs.declared.token.Token.{Token}
use Rattle.rule_lang.specs.Tokens.{FailsAt}
use Rattle.rule_lang.specs.Forms.{CallTokens, Form, IsRule, BeginsRule}
use Rattle.rule_lang.specs.Calls.{IsGoodCall, IsCallFault}
use Rattle.rule_lang.specs.declared.call.CallFault.{CallFault}
use Rattle.rule_lang.specs.declared.call.CallFault.TheVariants as call_fault

-- the place is the first at which tokens stop; that memory ran out says nothing of the text
abbrev pub IsLexFault : List ℕ → LexFault → Type 0
IsLexFault text (Lex at) = FailsAt text at
IsLexFault text Memory = Unit {0}

-- with this token the tokens so far begin no rule, and without it they begin one
pub record IsUnexpectedToken (tokens : List Token) (at : ℕ) : Type 0 where
  pub front : List Token
  pub token : Token
  pub rest : List Token
  pub tokens_are : tokens ≡ front ++ token ∷ rest
  pub begins : BeginsRule front
  pub ends : ¬ (BeginsRule (front ++ token ∷ []))
  pub place_is : at ≡ token.start

-- the first unexpected token, or the length of the text where its tokens begin a rule and are none
abbrev pub IsUnexpected : ℕ → List Token → ℕ → Type 0
IsUnexpected len tokens at =
    IsUnexpectedToken tokens at ⊎ ((at ≡ len) × BeginsRule tokens × ((f : Form) → ¬ (IsRule tokens f)))

-- of the calls from the left, the first that is not good has this fault
pub record FirstCallFault (text : List ℕ) (calls : List CallTokens) (fault : CallFault) : Type 0 where
  pub good : List CallTokens
  pub bad : CallTokens
  pub others : List CallTokens
  pub calls_are : calls ≡ good ++ bad ∷ others
  pub are_good : AllByRecursion (IsGoodCall text) good
  pub is_fault : IsCallFault text bad fault

abbrev pub IsFirstCallFault : List ℕ → List CallTokens → CallFault → Type 0
IsFirstCallFault text calls call_fault.Memory = Unit {0}
IsFirstCallFault text calls fault = FirstCallFault text calls fault
