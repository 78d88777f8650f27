-- A rule while it is put together.
use Rattle.std.proofs.Common.{◌≡◌, ℕ, zero, suc, ◌+◌, ◌<◌, ◌≤◌, inl, inr, Option, Some, None, List, [], ◌∷◌, ◌++◌, length, get_or, refl, sym, ap, ◌∙◌, subst, arith, append_assoc, Result, Ok, Err, IfOk, OnOk}
use Rattle.std.specs.List.{AllByRecursion}
use Rattle.rule_lang.specs.declared.token.Token.{Token}
use Rattle.rule_lang.specs.declared.token.TokenKind.{TokenKind}
use Rattle.rule_lang.specs.declared.token.TokenKind.TheVariants as kind
use Rattle.rule_lang.specs.declared.call.CallFault.{CallFault}
use Rattle.rule_lang.specs.declared.call.CallFault.TheVariants as fault
use Rattle.rule_lang.specs.Forms.{CallTokens, Form, IsRule, form_calls}
use Rattle.rule_lang.specs.declared.rule.Rule.{Rule}
use Rattle.rule_lang.specs.Trees.{Tree, tree_of}
use Rattle.rule_lang.specs.Calls.{IsGoodCall, IsCallFault}
use Rattle.rule_lang.specs.Values.{Stands, StandsAsValue, tokens_call, IsRightCall}
use Rattle.rule_lang.specs.Faults.{FirstCallFault, IsFirstCallFault}
use Rattle.rule_lang.specs.Builds.{Making, Layer, whole_of, Build, build_open, build_left, build_close, build_step_of, build_step, build_steps, CallScan, scan_step_of, scan_step, scan_steps, scan_start, scan_close, form_tree}
use Rattle.rule_lang.specs.Builders.{TokensStand, EndsRight, EndsWrong}
use Rattle.rule_lang.proofs.Quotes.{all-append}
use Rattle.rule_lang.proofs.Building.{build_append, build_start, scan_append, scan_grows, whole_scanned, some_same}

-- ---- the tokens of the call that is begun

open_stands : {X : Type 0} (text : List ℕ) (n : Option Token) (b : Build X) → b.name ≡ n → TokensStand text b.name b.values → TokensStand text (build_open n b).name (build_open n b).values
open_stands text (Some name) b is s = s
open_stands text None b is s = record { name_stands = tt; values_stand = s.values_stand }

left_stands : {X : Type 0} (m : Making X) (text : List ℕ) (values : List Token) (w : Option X) (outer : List (Layer X)) → AllByRecursion (StandsAsValue text) values
    → TokensStand text (build_left m values w outer).name (build_left m values w outer).values
left_stands m text values None outer s = record { name_stands = tt; values_stand = s }
left_stands m text values (Some x) [] s = record { name_stands = tt; values_stand = s }
left_stands m text values (Some x) (l ∷ outer) s = record { name_stands = tt; values_stand = s }

close_stands : {X : Type 0} (m : Making X) (c : CallTokens → X) (text : List ℕ) (n : Option Token) (b : Build X) → TokensStand text b.name b.values
    → TokensStand text (build_close m c n b).name (build_close m c n b).values
close_stands m c text (Some name) b s = record { name_stands = tt; values_stand = tt }
close_stands m c text None b s = left_stands m text b.values (whole_of m b.layer.ors b.layer.ands) b.outer s.values_stand

step_stands_at : {X : Type 0} (m : Making X) (c : CallTokens → X) (text : List ℕ) (b : Build X) (t : Token) (k : TokenKind) → t.kind ≡ k → Stands text t → TokensStand text b.name b.values
    → TokensStand text (build_step_of m c b t k).name (build_step_of m c b t k).values
step_stands_at m c text b t kind.Name is here s = record { name_stands = here; values_stand = s.values_stand }
step_stands_at m c text b t kind.Raw is here s = record { name_stands = s.name_stands; values_stand = all-append (StandsAsValue text) b.values (t ∷ []) s.values_stand ((here, inl is), tt) }
step_stands_at m c text b t kind.Quoted is here s = record { name_stands = s.name_stands; values_stand = all-append (StandsAsValue text) b.values (t ∷ []) s.values_stand ((here, inr is), tt) }
step_stands_at m c text b t kind.Open is here s = open_stands text b.name b refl s
step_stands_at m c text b t kind.Close is here s = close_stands m c text b.name b s
step_stands_at m c text b t kind.Not is here s = s
step_stands_at m c text b t kind.Or is here s = s
step_stands_at m c text b t kind.And is here s = s
step_stands_at m c text b t kind.Comma is here s = s

pub step_stands : {X : Type 0} (m : Making X) (c : CallTokens → X) (text : List ℕ) (b : Build X) (t : Token) → Stands text t → TokensStand text b.name b.values
    → TokensStand text (build_step m c b t).name (build_step m c b t).values
step_stands m c text b t here s = step_stands_at m c text b t t.kind refl here s

-- ---- no more `!` wait than there are tokens so far

pub record NotsWithin {X : Type 0} (i : ℕ) (b : Build X) : Type 0 where
  pub here : b.layer.nots ≤ i
  pub outside : AllByRecursion (λ l. l.nots ≤ i) b.outer

nots_more : {X : Type 0} (i : ℕ) (outer : List (Layer X)) → AllByRecursion (λ l. l.nots ≤ i) outer → AllByRecursion (λ l. l.nots ≤ i + 1) outer
nots_more i [] h = tt
nots_more i (l ∷ outer) h = (omega (arith, h.0), nots_more i outer h.1)

left_nots : {X : Type 0} (m : Making X) (i : ℕ) (values : List Token) (w : Option X) (outer : List (Layer X)) → AllByRecursion (λ l. l.nots ≤ i) outer → NotsWithin (i + 1) (build_left m values w outer)
left_nots m i values None outer h = record { here = omega arith; outside = nots_more i outer h }
left_nots m i values (Some x) [] h = record { here = omega arith; outside = tt }
left_nots m i values (Some x) (l ∷ outer) h = record { here = omega arith; outside = nots_more i outer h.1 }

open_nots : {X : Type 0} (i : ℕ) (n : Option Token) (b : Build X) → NotsWithin i b → NotsWithin (i + 1) (build_open n b)
open_nots i (Some name) b w = record { here = omega (arith, w.here); outside = nots_more i b.outer w.outside }
open_nots i None b w = record { here = omega arith; outside = (omega (arith, w.here), nots_more i b.outer w.outside) }

close_nots : {X : Type 0} (m : Making X) (c : CallTokens → X) (i : ℕ) (n : Option Token) (b : Build X) → NotsWithin i b → NotsWithin (i + 1) (build_close m c n b)
close_nots m c i (Some name) b w = record { here = omega arith; outside = nots_more i b.outer w.outside }
close_nots m c i None b w = left_nots m i b.values (whole_of m b.layer.ors b.layer.ands) b.outer w.outside

step_nots_at : {X : Type 0} (m : Making X) (c : CallTokens → X) (i : ℕ) (b : Build X) (t : Token) (k : TokenKind) → NotsWithin i b → NotsWithin (i + 1) (build_step_of m c b t k)
step_nots_at m c i b t kind.Open w = open_nots i b.name b w
step_nots_at m c i b t kind.Close w = close_nots m c i b.name b w
step_nots_at m c i b t kind.Not w = record { here = omega (arith, w.here); outside = nots_more i b.outer w.outside }
step_nots_at m c i b t kind.Or w = record { here = omega arith; outside = nots_more i b.outer w.outside }
step_nots_at m c i b t _ w = record { here = omega (arith, w.here); outside = nots_more i b.outer w.outside }

pub step_nots : {X : Type 0} (m : Making X) (c : CallTokens → X) (i : ℕ) (b : Build X) (t : Token) → NotsWithin i b → NotsWithin (i + 1) (build_step m c b t)
step_nots m c i b t w = step_nots_at m c i b t t.kind w

-- ---- the scan of calls goes along

pub record Agree {X : Type 0} (b : Build X) (s : CallScan) : Type 0 where
  pub name : b.name ≡ s.name
  pub values : b.values ≡ s.values

open_agrees : {X : Type 0} (n : Option Token) (b : Build X) (s : CallScan) → b.name ≡ n → Agree b s → Agree (build_open n b) s
open_agrees (Some name) b s is a = a
open_agrees None b s is a = record { name = sym is ∙ a.name; values = a.values }

left_agrees : {X : Type 0} (m : Making X) (values : List Token) (w : Option X) (outer : List (Layer X)) (s : CallScan) → s.name ≡ None → values ≡ s.values → Agree (build_left m values w outer) s
left_agrees m values None outer s none is = record { name = sym none; values = is }
left_agrees m values (Some x) [] s none is = record { name = sym none; values = is }
left_agrees m values (Some x) (l ∷ outer) s none is = record { name = sym none; values = is }

close_agrees : {X : Type 0} (m : Making X) (c : CallTokens → X) (n : Option Token) (b : Build X) (s : CallScan) → s.name ≡ n → Agree b s → Agree (build_close m c n b) (scan_close n s)
close_agrees m c (Some name) b s is a = record { name = refl; values = refl }
close_agrees m c None b s is a = left_agrees m b.values (whole_of m b.layer.ors b.layer.ands) b.outer s is a.values

step_agrees_at : {X : Type 0} (m : Making X) (c : CallTokens → X) (b : Build X) (s : CallScan) (t : Token) (k : TokenKind) → Agree b s → Agree (build_step_of m c b t k) (scan_step_of s t k)
step_agrees_at m c b s t kind.Name a = record { name = refl; values = a.values }
step_agrees_at m c b s t kind.Raw a = record { name = a.name; values = ap (λ v. v ++ t ∷ []) a.values }
step_agrees_at m c b s t kind.Quoted a = record { name = a.name; values = ap (λ v. v ++ t ∷ []) a.values }
step_agrees_at m c b s t kind.Open a = open_agrees b.name b s refl a
step_agrees_at m c b s t kind.Close a = subst (λ n. Agree (build_close m c b.name b) (scan_close n s)) a.name (close_agrees m c b.name b s (sym a.name) a)
step_agrees_at m c b s t kind.Not a = record { name = a.name; values = a.values }
step_agrees_at m c b s t kind.Or a = record { name = a.name; values = a.values }
step_agrees_at m c b s t kind.And a = a
step_agrees_at m c b s t kind.Comma a = a

pub steps_agree : {X : Type 0} (m : Making X) (c : CallTokens → X) (tokens : List Token) (b : Build X) (s : CallScan) → Agree b s → Agree (build_steps m c b tokens) (scan_steps s tokens)
steps_agree m c [] b s a = a
steps_agree m c (t ∷ tokens) b s a = steps_agree m c tokens (build_step m c b t) (scan_step s t) (step_agrees_at m c b s t t.kind a)

-- ---- the calls so far are right

right_more : (text : List ℕ) (s : CallScan) (n : Option Token) (t : Token) (k : TokenKind) → s.name ≡ n → AllByRecursion (IsRightCall text) s.calls → EndsRight text n s.values k → AllByRecursion (IsRightCall text) (scan_step_of s t k).calls
right_more text s (Some name) t kind.Close is all right =
    subst (λ x. AllByRecursion (IsRightCall text) (scan_close x s).calls) (sym is) (all-append (IsRightCall text) s.calls (tokens_call name s.values ∷ []) all (right, tt))
right_more text s None t kind.Close is all right = subst (λ x. AllByRecursion (IsRightCall text) (scan_close x s).calls) (sym is) all
right_more text s n t _ is all right = all

pub one_more_right : (text : List ℕ) (tokens : List Token) (t : Token) (n : Option Token) (values : List Token) → (scan_steps scan_start tokens).name ≡ n → (scan_steps scan_start tokens).values ≡ values
    → AllByRecursion (IsRightCall text) (scan_steps scan_start tokens).calls → EndsRight text n values t.kind → AllByRecursion (IsRightCall text) (scan_steps scan_start (tokens ++ t ∷ [])).calls
one_more_right text tokens t n values name_is values_is all right =
    subst (λ s. AllByRecursion (IsRightCall text) s.calls) (sym (scan_append scan_start tokens (t ∷ [])))
    (right_more text (scan_steps scan_start tokens) n t t.kind name_is all (subst (λ v. EndsRight text n v t.kind) (sym values_is) right))

pub good_of_right : (text : List ℕ) (calls : List CallTokens) → AllByRecursion (IsRightCall text) calls → AllByRecursion (IsGoodCall text) calls
good_of_right text [] all = tt
good_of_right text (c ∷ calls) ((m, (key, value, means, tree)), rest) = ((m, (key, value, means)), good_of_right text calls rest)

-- the call that ends here is the first with a fault
fault_here : (text : List ℕ) (tokens rest : List Token) (t name : Token) (values : List Token) (e : CallFault) → t.kind ≡ kind.Close → (scan_steps scan_start tokens).name ≡ Some name
    → (scan_steps scan_start tokens).values ≡ values → AllByRecursion (IsRightCall text) (scan_steps scan_start tokens).calls → (calls : List CallTokens)
    → (scan_steps scan_start (tokens ++ t ∷ rest)).calls ≡ calls → IsCallFault text (tokens_call name values) e → FirstCallFault text calls e
fault_here text tokens rest t name values e is name_is values_is all calls calls_is wrong =
    let s = scan_steps scan_start tokens in
    let (more, grown) = scan_grows (scan_step s t) rest in
    let here : (scan_step s t).calls ≡ s.calls ++ tokens_call name values ∷ [] =
    ap (λ k. (scan_step_of s t k).calls) is ∙ ap (λ n. (scan_close n s).calls) name_is ∙ ap (λ v. s.calls ++ tokens_call name v ∷ []) values_is in
    record {
      good = s.calls;
      bad = tokens_call name values;
      others = more;
      calls_are = sym calls_is ∙ ap (λ x. x.calls) (scan_append scan_start tokens (t ∷ rest)) ∙ grown ∙ ap (λ l. l ++ more) here ∙ append_assoc s.calls (tokens_call name values ∷ []) more;
      are_good = good_of_right text s.calls all;
      is_fault = wrong;
    }

first_fault_at : (text : List ℕ) (tokens rest : List Token) (t : Token) (n : Option Token) (values : List Token) (k : TokenKind) (e : CallFault) → t.kind ≡ k → (scan_steps scan_start tokens).name ≡ n
    → (scan_steps scan_start tokens).values ≡ values → AllByRecursion (IsRightCall text) (scan_steps scan_start tokens).calls → (calls : List CallTokens)
    → (scan_steps scan_start (tokens ++ t ∷ rest)).calls ≡ calls → EndsWrong text n values k e → IsFirstCallFault text calls e
first_fault_at text tokens rest t n values k fault.Memory is name_is values_is all calls calls_is wrong = tt
first_fault_at text tokens rest t (Some name) values kind.Close (fault.UnknownMatcher at) is name_is values_is all calls calls_is wrong =
    fault_here text tokens rest t name values (fault.UnknownMatcher at) is name_is values_is all calls calls_is wrong
first_fault_at text tokens rest t (Some name) values kind.Close (fault.Arity at) is name_is values_is all calls calls_is wrong =
    fault_here text tokens rest t name values (fault.Arity at) is name_is values_is all calls calls_is wrong
first_fault_at text tokens rest t (Some name) values kind.Close (fault.Value at) is name_is values_is all calls calls_is wrong =
    fault_here text tokens rest t name values (fault.Value at) is name_is values_is all calls calls_is wrong
first_fault_at text tokens rest t n values k e is name_is values_is all calls calls_is wrong = absurd wrong

pub first_fault : (text : List ℕ) (tokens rest : List Token) (t : Token) (n : Option Token) (values : List Token) (e : CallFault) (f : Form) → (scan_steps scan_start tokens).name ≡ n
    → (scan_steps scan_start tokens).values ≡ values → AllByRecursion (IsRightCall text) (scan_steps scan_start tokens).calls
    → IsRule (tokens ++ t ∷ rest) f → EndsWrong text n values t.kind e → IsFirstCallFault text (form_calls f) e
first_fault text tokens rest t n values e f name_is values_is all rule wrong =
    first_fault_at text tokens rest t n values t.kind e refl name_is values_is all (form_calls f) (whole_scanned (tokens ++ t ∷ rest) f rule) wrong

pub all_at : {X : Type 0} (P : X → Type 0) (xs : List X) (i : ℕ) (d : X) → i < length xs → AllByRecursion P xs → P (get_or xs i d)
all_at P [] i d within h = absurd (omega arith)
all_at P (x ∷ xs) zero d within h = h.0
all_at P (x ∷ xs) (suc i) d within h = all_at P xs i d (omega arith) h.1

pub build_more : {X : Type 0} (m : Making X) (c : CallTokens → X) (tokens : List Token) (t : Token) (b e : Build X) → build_steps m c build_start tokens ≡ b → e ≡ build_step m c b t
    → build_steps m c build_start (tokens ++ t ∷ []) ≡ e
build_more m c tokens t b e h step = build_append m c build_start tokens (t ∷ []) ∙ ap (λ x. build_steps m c x (t ∷ [])) h ∙ sym step

pub start_agrees : {X : Type 0} → Agree {X = X} build_start scan_start
start_agrees = record { name = refl; values = refl }

pub start_nots : {X : Type 0} → NotsWithin {X = X} 0 build_start
start_nots = record { here = omega arith; outside = tt }

pub on_ok : {X : Type 0} (r : Result X CallFault) (P : Type 0) → P → OnOk r P
on_ok (Ok x) P p = p
on_ok (Err e) P p = tt

pub finished : (text : List ℕ) (tokens : List Token) (w : Option Tree) (r : Result Rule CallFault) → ((f : Form) → IsRule tokens f → w ≡ Some (form_tree text f))
    → IfOk r (λ x. w ≡ Some (tree_of x)) → IfOk r (λ x. (f : Form) → IsRule tokens f → tree_of x ≡ form_tree text f)
finished text tokens w (Err e) whole h = tt
finished text tokens w (Ok x) whole h = λ f rule. some_same (tree_of x) (form_tree text f) (sym h ∙ whole f rule)
