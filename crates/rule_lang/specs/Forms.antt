-- A rule as its tokens say it:
--   rule = and *( "||" and )    and = unary *( "&&" unary )
--   unary = "!" unary / "(" rule ")" / call    call = name "(" [ value *( "," value ) ] ")"
-- Both operators associate to the left.
use Rattle.std.specs.Prelude.{◌≡◌, ℕ, ◌+◌, ◌⊎◌, true, max, List, [], ◌∷◌, ◌++◌}
use Rattle.rule_lang.specs.declared.token.Token.{Token}
use Rattle.rule_lang.specs.declared.token.TokenKind.TheVariants as kind
use Rattle.rule_lang.specs.declared.print.Level.{Level}
use Rattle.rule_lang.specs.declared.print.Level.TheVariants as level
use Rattle.rule_lang.specs.Prints.{and_is_bare, or_is_bare}

-- a call: the token of its name, and those of its values
pub record CallTokens : Type 0 where
  pub name : Token
  pub values : List Token

-- a rule as it is written: it keeps its groups, and its calls are tokens
pub data Form : Type 0 where
  called : CallTokens → Form
  negated : Form → Form
  grouped : Form → Form
  joined : Form → Form → Form
  chosen : Form → Form → Form

abbrev pub IsValueToken : Token → Type 0
IsValueToken t = (t.kind ≡ kind.Raw) ⊎ (t.kind ≡ kind.Quoted)

-- further values, a comma before each
abbrev pub AreMoreValues : List Token → List Token → Type 0
AreMoreValues tokens [] = tokens ≡ []
AreMoreValues tokens (v ∷ values) =
    (comma : Token) × ((rest : List Token) × (tokens ≡ comma ∷ v ∷ rest) × (comma.kind ≡ kind.Comma)
    × IsValueToken v × AreMoreValues rest values)

-- values with a comma between each two
abbrev pub AreSeparated : List Token → List Token → Type 0
AreSeparated tokens [] = tokens ≡ []
AreSeparated tokens (v ∷ values) =
    (rest : List Token) × (tokens ≡ v ∷ rest) × IsValueToken v × AreMoreValues rest values

-- a name, and values in parentheses
pub record IsCall (tokens : List Token) (c : CallTokens) : Type 0 where
  pub opening : Token
  pub between : List Token
  pub closing : Token
  pub is_name : c.name.kind ≡ kind.Name
  pub is_open : opening.kind ≡ kind.Open
  pub separated : AreSeparated between c.values
  pub is_close : closing.kind ≡ kind.Close
  pub tokens_are : tokens ≡ c.name ∷ opening ∷ (between ++ closing ∷ [])

-- the tokens are this form, where an operand of this level may stand
pub data Parses : Level → List Token → Form → Type 0 where
  parses_call : (at : Level) (tokens : List Token) (c : CallTokens) → IsCall tokens c → Parses at tokens (called c)
  parses_not : (at : Level) (mark : Token) (tokens : List Token) (f : Form) → mark.kind ≡ kind.Not
      → Parses level.Unary tokens f → Parses at (mark ∷ tokens) (negated f)
  parses_group : (at : Level) (opening closing : Token) (tokens : List Token) (f : Form) → opening.kind ≡ kind.Open
      → closing.kind ≡ kind.Close → Parses level.Or tokens f → Parses at (opening ∷ (tokens ++ closing ∷ [])) (grouped f)
  parses_and : (at : Level) (left right : List Token) (mark : Token) (f g : Form) → and_is_bare at ≡ true → mark.kind ≡ kind.And
      → Parses level.And left f → Parses level.Unary right g → Parses at (left ++ mark ∷ right) (joined f g)
  parses_or : (at : Level) (left right : List Token) (mark : Token) (f g : Form) → or_is_bare at ≡ true → mark.kind ≡ kind.Or
      → Parses level.Or left f → Parses level.And right g → Parses at (left ++ mark ∷ right) (chosen f g)

-- the tokens are a whole rule of this form
abbrev pub IsRule : List Token → Form → Type 0
IsRule tokens f = Parses level.Or tokens f

-- some rule begins with these tokens
abbrev pub BeginsRule : List Token → Type 0
BeginsRule tokens = (more : List Token) × ((f : Form) × IsRule (tokens ++ more) f)

-- the greatest number of `!` and of parentheses of groups that stand round a call
abbrev pub form_depth : Form → ℕ
form_depth (called c) = 0
form_depth (negated f) = 1 + form_depth f
form_depth (grouped f) = 1 + form_depth f
form_depth (joined f g) = max (form_depth f) (form_depth g)
form_depth (chosen f g) = max (form_depth f) (form_depth g)

-- its calls, from the left
abbrev pub form_calls : Form → List CallTokens
form_calls (called c) = c ∷ []
form_calls (negated f) = form_calls f
form_calls (grouped f) = form_calls f
form_calls (joined f g) = form_calls f ++ form_calls g
form_calls (chosen f g) = form_calls f ++ form_calls g
