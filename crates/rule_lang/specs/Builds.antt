-- A rule put together a token at a time. `Forms` says what a rule is; this only serves the proofs.
use Rattle.std.specs.Prelude.{ℕ, zero, suc, ◌+◌, Option, Some, None, List, [], ◌∷◌, ◌++◌}
use Rattle.rule_lang.specs.declared.token.Token.{Token}
use Rattle.rule_lang.specs.declared.token.TokenKind.{TokenKind}
use Rattle.rule_lang.specs.declared.token.TokenKind.TheVariants as kind
use Rattle.rule_lang.specs.Forms.{CallTokens, Form, called, negated, grouped, joined, chosen}
use Rattle.rule_lang.specs.Trees.{Tree, negation, both, either}
use Rattle.rule_lang.specs.Values.{call_tree, tokens_call}

-- what stands for a negation and so on
pub record Making (X : Type 0) : Type 0 where
  pub of_not : X → X
  pub of_group : X → X
  pub of_and : X → X → X
  pub of_or : X → X → X

abbrev pub made : {X : Type 0} → Making X → (CallTokens → X) → Form → X
made m of_call (called c) = of_call c
made m of_call (negated f) = m.of_not (made m of_call f)
made m of_call (grouped f) = m.of_group (made m of_call f)
made m of_call (joined f g) = m.of_and (made m of_call f) (made m of_call g)
made m of_call (chosen f g) = m.of_or (made m of_call f) (made m of_call g)

-- within a group: what stands before `||`, what before `&&`, and how many `!` wait for their operand
pub record Layer (X : Type 0) : Type 0 where
  pub ors : Option X
  pub ands : Option X
  pub nots : ℕ

abbrev pub empty_layer : {X : Type 0} → Layer X
empty_layer = record { ors = None; ands = None; nots = 0 }

abbrev pub not_times : {X : Type 0} → Making X → ℕ → X → X
not_times m zero x = x
not_times m (suc n) x = m.of_not (not_times m n x)

abbrev pub and_with : {X : Type 0} → Making X → Option X → X → X
and_with m None x = x
and_with m (Some a) x = m.of_and a x

-- one operand more
abbrev pub put : {X : Type 0} → Making X → Layer X → X → Layer X
put m l x = record { ors = l.ors; ands = Some (and_with m l.ands (not_times m l.nots x)); nots = 0 }

-- all that stands in the group
abbrev pub whole_of : {X : Type 0} → Making X → Option X → Option X → Option X
whole_of m None ands = ands
whole_of m (Some a) None = Some a
whole_of m (Some a) (Some b) = Some (m.of_or a b)

abbrev pub put_or : {X : Type 0} → Making X → Layer X → Layer X
put_or m l = record { ors = whole_of m l.ors l.ands; ands = None; nots = 0 }

-- a call that is begun, the innermost group, and the groups outside, the innermost first
pub record Build (X : Type 0) : Type 0 where
  pub name : Option Token
  pub values : List Token
  pub layer : Layer X
  pub outer : List (Layer X)

abbrev pub build_at : {X : Type 0} → Layer X → List (Layer X) → Build X
build_at layer outer = record { name = None; values = []; layer = layer; outer = outer }

abbrev pub build_open : {X : Type 0} → Option Token → Build X → Build X
build_open (Some name) b = b
build_open None b = record { name = None; values = b.values; layer = empty_layer; outer = b.layer ∷ b.outer }

abbrev pub build_left : {X : Type 0} → Making X → List Token → Option X → List (Layer X) → Build X
build_left m values None outer = record { name = None; values = values; layer = empty_layer; outer = outer }
build_left m values (Some x) [] = record { name = None; values = values; layer = put m empty_layer (m.of_group x); outer = [] }
build_left m values (Some x) (l ∷ outer) = record { name = None; values = values; layer = put m l (m.of_group x); outer = outer }

abbrev pub build_close : {X : Type 0} → Making X → (CallTokens → X) → Option Token → Build X → Build X
build_close m of_call (Some name) b = build_at (put m b.layer (of_call (tokens_call name b.values))) b.outer
build_close m of_call None b = build_left m b.values (whole_of m b.layer.ors b.layer.ands) b.outer

abbrev pub build_step_of : {X : Type 0} → Making X → (CallTokens → X) → Build X → Token → TokenKind → Build X
build_step_of m of_call b t kind.Name = record { name = Some t; values = b.values; layer = b.layer; outer = b.outer }
build_step_of m of_call b t kind.Raw = record { name = b.name; values = b.values ++ t ∷ []; layer = b.layer; outer = b.outer }
build_step_of m of_call b t kind.Quoted = record { name = b.name; values = b.values ++ t ∷ []; layer = b.layer; outer = b.outer }
build_step_of m of_call b t kind.Not = record { name = b.name; values = b.values; layer = record { ors = b.layer.ors; ands = b.layer.ands; nots = b.layer.nots + 1 }; outer = b.outer }
build_step_of m of_call b t kind.Or = record { name = b.name; values = b.values; layer = put_or m b.layer; outer = b.outer }
build_step_of m of_call b t kind.Open = build_open b.name b
build_step_of m of_call b t kind.Close = build_close m of_call b.name b
build_step_of m of_call b t _ = b

abbrev pub build_step : {X : Type 0} → Making X → (CallTokens → X) → Build X → Token → Build X
build_step m of_call b t = build_step_of m of_call b t t.kind

abbrev pub build_steps : {X : Type 0} → Making X → (CallTokens → X) → Build X → List Token → Build X
build_steps m of_call b [] = b
build_steps m of_call b (t ∷ tokens) = build_steps m of_call (build_step m of_call b t) tokens

-- the calls of a list of tokens
pub record CallScan : Type 0 where
  pub name : Option Token
  pub values : List Token
  pub calls : List CallTokens

abbrev pub scan_close : Option Token → CallScan → CallScan
scan_close None s = s
scan_close (Some name) s = record { name = None; values = []; calls = s.calls ++ tokens_call name s.values ∷ [] }

abbrev pub scan_step_of : CallScan → Token → TokenKind → CallScan
scan_step_of s t kind.Name = record { name = Some t; values = s.values; calls = s.calls }
scan_step_of s t kind.Raw = record { name = s.name; values = s.values ++ t ∷ []; calls = s.calls }
scan_step_of s t kind.Quoted = record { name = s.name; values = s.values ++ t ∷ []; calls = s.calls }
scan_step_of s t kind.Close = scan_close s.name s
scan_step_of s t _ = s

abbrev pub scan_step : CallScan → Token → CallScan
scan_step s t = scan_step_of s t t.kind

abbrev pub scan_steps : CallScan → List Token → CallScan
scan_steps s [] = s
scan_steps s (t ∷ tokens) = scan_steps (scan_step s t) tokens

abbrev pub scan_start : CallScan
scan_start = record { name = None; values = []; calls = [] }

-- the trees of forms
abbrev pub trees : Making Tree
trees = record { of_not = negation; of_group = λ r. r; of_and = both; of_or = either }

abbrev pub form_tree : List ℕ → Form → Tree
form_tree text f = made trees (call_tree text) f
