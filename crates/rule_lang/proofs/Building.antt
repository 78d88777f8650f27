-- What the steps put together is the form's.
use Rattle.std.proofs.Common.{◌≡◌, ℕ, zero, suc, ◌+◌, inl, inr, true, Option, Some, None, List, [], ◌∷◌, ◌++◌, refl, sym, ap, ◌∙◌, add-one, append_assoc, append-nil}
use Rattle.std.proofs.lemmas.Bool.{false≢true}
use Rattle.rule_lang.specs.declared.token.Token.{Token}
use Rattle.rule_lang.specs.declared.token.TokenKind.{TokenKind}
use Rattle.rule_lang.specs.declared.token.TokenKind.TheVariants as kind
use Rattle.rule_lang.specs.declared.print.Level.{Level}
use Rattle.rule_lang.specs.declared.print.Level.TheVariants as level
use Rattle.rule_lang.specs.Prints.{and_is_bare, or_is_bare}
use Rattle.rule_lang.specs.Values.{tokens_call}
use Rattle.rule_lang.specs.Forms.{CallTokens, Form, called, negated, grouped, joined, chosen, IsValueToken, AreMoreValues, AreSeparated, IsCall, Parses, parses_call, parses_not, parses_group, parses_and, parses_or, IsRule, form_calls}
use Rattle.rule_lang.specs.Builds.{Making, made, Layer, empty_layer, not_times, and_with, put, whole_of, Build, build_at, build_left, build_step_of, build_step, build_steps, CallScan, scan_step_of, scan_step, scan_steps, scan_start, scan_close}

pub build_append : {X : Type 0} (m : Making X) (c : CallTokens → X) (b : Build X) (xs ys : List Token) → build_steps m c b (xs ++ ys) ≡ build_steps m c (build_steps m c b xs) ys
build_append m c b [] ys = refl
build_append m c b (x ∷ xs) ys = build_append m c (build_step m c b x) xs ys

kind_step : {X : Type 0} (m : Making X) (c : CallTokens → X) (b : Build X) (t : Token) (k : TokenKind) (rest : List Token) → t.kind ≡ k
    → build_steps m c b (t ∷ rest) ≡ build_steps m c (build_step_of m c b t k) rest
kind_step m c b t k rest is = ap (λ j. build_steps m c (build_step_of m c b t j) rest) is

-- ---- a call

abbrev in_call : {X : Type 0} → Token → List Token → Layer X → List (Layer X) → Build X
in_call name values layer outer = record { name = Some name; values = values; layer = layer; outer = outer }

value_step : {X : Type 0} (m : Making X) (c : CallTokens → X) (name : Token) (front : List Token) (l : Layer X) (o : List (Layer X)) (t : Token) (rest : List Token) → IsValueToken t
    → build_steps m c (in_call name front l o) (t ∷ rest) ≡ build_steps m c (in_call name (front ++ t ∷ []) l o) rest
value_step m c name front l o t rest (inl raw) = kind_step m c (in_call name front l o) t kind.Raw rest raw
value_step m c name front l o t rest (inr quoted) = kind_step m c (in_call name front l o) t kind.Quoted rest quoted

more_values : {X : Type 0} (m : Making X) (c : CallTokens → X) (name : Token) (l : Layer X) (o : List (Layer X)) (values front tokens : List Token) → AreMoreValues tokens values
    → build_steps m c (in_call name front l o) tokens ≡ in_call name (front ++ values) l o
more_values m c name l o [] front tokens is = ap (λ ts. build_steps m c (in_call name front l o) ts) is ∙ ap (λ v. in_call name v l o) (sym (append-nil front))
more_values m c name l o (v ∷ values) front tokens (comma, (rest, is, is_comma, is_value, more)) =
    ap (λ ts. build_steps m c (in_call name front l o) ts) is ∙ kind_step m c (in_call name front l o) comma kind.Comma (v ∷ rest) is_comma
    ∙ value_step m c name front l o v rest is_value ∙ more_values m c name l o values (front ++ v ∷ []) rest more
    ∙ ap (λ x. in_call name x l o) (append_assoc front (v ∷ []) values)

all_values : {X : Type 0} (m : Making X) (c : CallTokens → X) (name : Token) (l : Layer X) (o : List (Layer X)) (values tokens : List Token) → AreSeparated tokens values
    → build_steps m c (in_call name [] l o) tokens ≡ in_call name values l o
all_values m c name l o [] tokens is = ap (λ ts. build_steps m c (in_call name [] l o) ts) is
all_values m c name l o (v ∷ values) tokens (rest, is, is_value, more) =
    ap (λ ts. build_steps m c (in_call name [] l o) ts) is ∙ value_step m c name [] l o v rest is_value ∙ more_values m c name l o values (v ∷ []) rest more

call_built : {X : Type 0} (m : Making X) (c : CallTokens → X) (l : Layer X) (o : List (Layer X)) (tokens : List Token) (call : CallTokens) → IsCall tokens call
    → build_steps m c (build_at l o) tokens ≡ build_at (put m l (c call)) o
call_built m c l o tokens call is =
    ap (λ ts. build_steps m c (build_at l o) ts) is.tokens_are
    ∙ kind_step m c (build_at l o) call.name kind.Name (is.opening ∷ (is.between ++ is.closing ∷ [])) is.is_name
    ∙ kind_step m c (in_call call.name [] l o) is.opening kind.Open (is.between ++ is.closing ∷ []) is.is_open
    ∙ build_append m c (in_call call.name [] l o) is.between (is.closing ∷ [])
    ∙ ap (λ b. build_steps m c b (is.closing ∷ [])) (all_values m c call.name l o call.values is.between is.separated)
    ∙ kind_step m c (in_call call.name call.values l o) is.closing kind.Close [] is.is_close

-- ---- a form

abbrev chain_at : {X : Type 0} → Option X → Option X → Layer X
chain_at ors ands = record { ors = ors; ands = ands; nots = 0 }

-- what is put together from the tokens of a form, where an operand of this level may stand
abbrev Claim : {X : Type 0} → Making X → (CallTokens → X) → Level → List Token → Form → Type 0
Claim {X} m c level.Unary ts f = (l : Layer X) (o : List (Layer X)) → build_steps m c (build_at l o) ts ≡ build_at (put m l (made m c f)) o
Claim {X} m c level.And ts f = (ors : Option X) (o : List (Layer X)) → build_steps m c (build_at (chain_at ors None) o) ts ≡ build_at (chain_at ors (Some (made m c f))) o
Claim {X} m c level.Or ts f =
    (o : List (Layer X)) → (ors : Option X) × ((ands : X) × (whole_of m ors (Some ands) ≡ Some (made m c f)) × (build_steps m c (build_at empty_layer o) ts ≡ build_at (chain_at ors (Some ands)) o))

claim_up : {X : Type 0} (m : Making X) (c : CallTokens → X) (at : Level) (ts : List Token) (f : Form) → Claim m c level.Unary ts f → Claim m c at ts f
claim_up m c level.Unary ts f h = h
claim_up m c level.And ts f h = λ ors o. h (chain_at ors None) o
claim_up m c level.Or ts f h = λ o. (None, (made m c f, refl, h empty_layer o))

claim_and : {X : Type 0} (m : Making X) (c : CallTokens → X) (at : Level) (ts : List Token) (f : Form) → and_is_bare at ≡ true → Claim m c level.And ts f → Claim m c at ts f
claim_and m c level.Unary ts f bare h = absurd (false≢true bare)
claim_and m c level.And ts f bare h = h
claim_and m c level.Or ts f bare h = λ o. (None, (made m c f, refl, h None o))

claim_or : {X : Type 0} (m : Making X) (c : CallTokens → X) (at : Level) (ts : List Token) (f : Form) → or_is_bare at ≡ true → Claim m c level.Or ts f → Claim m c at ts f
claim_or m c level.Unary ts f bare h = absurd (false≢true bare)
claim_or m c level.And ts f bare h = absurd (false≢true bare)
claim_or m c level.Or ts f bare h = h

not_more : {X : Type 0} (m : Making X) (n : ℕ) (x : X) → not_times m (n + 1) x ≡ not_times m n (m.of_not x)
not_more m n x = ap (λ k. not_times m k x) (add-one n) ∙ inside m n x
  where
    inside : {X : Type 0} (m : Making X) (n : ℕ) (x : X) → not_times m (suc n) x ≡ not_times m n (m.of_not x)
    inside m zero x = refl
    inside m (suc n) x = ap m.of_not (inside m n x)

pub parse_built : {X : Type 0} (m : Making X) (c : CallTokens → X) (at : Level) (ts : List Token) (f : Form) → Parses at ts f → Claim m c at ts f
parse_built m c at ts f (parses_call _ _ call is) = claim_up m c at ts (called call) (λ l o. call_built m c l o ts call is)
parse_built m c at ts f (parses_not _ mark inner g is p) =
    claim_up m c at (mark ∷ inner) (negated g) (λ l o.
    kind_step m c (build_at l o) mark kind.Not inner is ∙ parse_built m c level.Unary inner g p (record { ors = l.ors; ands = l.ands; nots = l.nots + 1 }) o
    ∙ ap (λ x. build_at (chain_at l.ors (Some (and_with m l.ands x))) o) (not_more m l.nots (made m c g)))
parse_built m c at ts f (parses_group _ opening closing inner g is_open is_close p) =
    claim_up m c at (opening ∷ (inner ++ closing ∷ [])) (grouped g) (λ l o.
    let (ors, (ands, whole, steps)) = parse_built m c level.Or inner g p (l ∷ o) in
    kind_step m c (build_at l o) opening kind.Open (inner ++ closing ∷ []) is_open
    ∙ build_append m c (build_at empty_layer (l ∷ o)) inner (closing ∷ [])
    ∙ ap (λ b. build_steps m c b (closing ∷ [])) steps
    ∙ kind_step m c (build_at (chain_at ors (Some ands)) (l ∷ o)) closing kind.Close [] is_close
    ∙ ap (λ w. build_left m [] w (l ∷ o)) whole)
parse_built m c at ts f (parses_and _ left right mark g h bare is p q) =
    claim_and m c at (left ++ mark ∷ right) (joined g h) bare (λ ors o.
    build_append m c (build_at (chain_at ors None) o) left (mark ∷ right)
    ∙ ap (λ b. build_steps m c b (mark ∷ right)) (parse_built m c level.And left g p ors o)
    ∙ kind_step m c (build_at (chain_at ors (Some (made m c g))) o) mark kind.And right is
    ∙ parse_built m c level.Unary right h q (chain_at ors (Some (made m c g))) o)
parse_built m c at ts f (parses_or _ left right mark g h bare is p q) =
    claim_or m c at (left ++ mark ∷ right) (chosen g h) bare (λ o.
    let (ors, (ands, whole, steps)) = parse_built m c level.Or left g p o in (
      Some (made m c g),
      (
        made m c h,
        refl,
        build_append m c (build_at empty_layer o) left (mark ∷ right)
            ∙ ap (λ b. build_steps m c b (mark ∷ right)) steps
            ∙ kind_step m c (build_at (chain_at ors (Some ands)) o) mark kind.Or right is
            ∙ ap (λ w. build_steps m c (build_at (chain_at w None) o) right) whole
            ∙ parse_built m c level.And right h q (Some (made m c g)) o,
      ),
    ))

abbrev pub build_start : {X : Type 0} → Build X
build_start = build_at empty_layer []

pub whole_built : {X : Type 0} (m : Making X) (c : CallTokens → X) (ts : List Token) (f : Form) → IsRule ts f
    → whole_of m (build_steps m c build_start ts).layer.ors (build_steps m c build_start ts).layer.ands ≡ Some (made m c f)
whole_built m c ts f p =
    let (ors, (ands, whole, steps)) = parse_built m c level.Or ts f p [] in
    ap (λ b. whole_of m b.layer.ors b.layer.ands) steps ∙ whole

-- ---- a list of tokens has one form

abbrev forms : Making Form
forms = record { of_not = negated; of_group = grouped; of_and = joined; of_or = chosen }

form_made : (f : Form) → made forms called f ≡ f
form_made (called c) = refl
form_made (negated f) = ap negated (form_made f)
form_made (grouped f) = ap grouped (form_made f)
form_made (joined f g) = ap (λ x. joined x (made forms called g)) (form_made f) ∙ ap (joined f) (form_made g)
form_made (chosen f g) = ap (λ x. chosen x (made forms called g)) (form_made f) ∙ ap (chosen f) (form_made g)

pub some_same : {X : Type 0} (x y : X) → Some x ≡ Some y → x ≡ y
some_same x y e = cc

pub one_form : (ts : List Token) (f g : Form) → IsRule ts f → IsRule ts g → f ≡ g
one_form ts f g p q =
    sym (form_made f) ∙ some_same (made forms called f) (made forms called g) (sym (whole_built forms called ts f p) ∙ whole_built forms called ts g q) ∙ form_made g

-- ---- the calls of a form

pub scan_append : (s : CallScan) (xs ys : List Token) → scan_steps s (xs ++ ys) ≡ scan_steps (scan_steps s xs) ys
scan_append s [] ys = refl
scan_append s (x ∷ xs) ys = scan_append (scan_step s x) xs ys

scan_kind : (s : CallScan) (t : Token) (k : TokenKind) (rest : List Token) → t.kind ≡ k → scan_steps s (t ∷ rest) ≡ scan_steps (scan_step_of s t k) rest
scan_kind s t k rest is = ap (λ j. scan_steps (scan_step_of s t j) rest) is

abbrev scan_at : List CallTokens → CallScan
scan_at calls = record { name = None; values = []; calls = calls }

abbrev scan_in : Token → List Token → List CallTokens → CallScan
scan_in name values calls = record { name = Some name; values = values; calls = calls }

scan_value : (name t : Token) (front rest : List Token) (calls : List CallTokens) → IsValueToken t → scan_steps (scan_in name front calls) (t ∷ rest) ≡ scan_steps (scan_in name (front ++ t ∷ []) calls) rest
scan_value name t front rest calls (inl raw) = scan_kind (scan_in name front calls) t kind.Raw rest raw
scan_value name t front rest calls (inr quoted) = scan_kind (scan_in name front calls) t kind.Quoted rest quoted

scan_more : (name : Token) (calls : List CallTokens) (values front tokens : List Token) → AreMoreValues tokens values → scan_steps (scan_in name front calls) tokens ≡ scan_in name (front ++ values) calls
scan_more name calls [] front tokens is = ap (λ ts. scan_steps (scan_in name front calls) ts) is ∙ ap (λ v. scan_in name v calls) (sym (append-nil front))
scan_more name calls (v ∷ values) front tokens (comma, (rest, is, is_comma, is_value, more)) =
    ap (λ ts. scan_steps (scan_in name front calls) ts) is ∙ scan_kind (scan_in name front calls) comma kind.Comma (v ∷ rest) is_comma
    ∙ scan_value name v front rest calls is_value ∙ scan_more name calls values (front ++ v ∷ []) rest more ∙ ap (λ x. scan_in name x calls) (append_assoc front (v ∷ []) values)

scan_values : (name : Token) (calls : List CallTokens) (values tokens : List Token) → AreSeparated tokens values → scan_steps (scan_in name [] calls) tokens ≡ scan_in name values calls
scan_values name calls [] tokens is = ap (λ ts. scan_steps (scan_in name [] calls) ts) is
scan_values name calls (v ∷ values) tokens (rest, is, is_value, more) =
    ap (λ ts. scan_steps (scan_in name [] calls) ts) is ∙ scan_value name v [] rest calls is_value ∙ scan_more name calls values (v ∷ []) rest more

scan_call : (calls : List CallTokens) (tokens : List Token) (call : CallTokens) → IsCall tokens call → scan_steps (scan_at calls) tokens ≡ scan_at (calls ++ call ∷ [])
scan_call calls tokens call is =
    ap (λ ts. scan_steps (scan_at calls) ts) is.tokens_are
    ∙ scan_kind (scan_at calls) call.name kind.Name (is.opening ∷ (is.between ++ is.closing ∷ [])) is.is_name
    ∙ scan_kind (scan_in call.name [] calls) is.opening kind.Open (is.between ++ is.closing ∷ []) is.is_open
    ∙ scan_append (scan_in call.name [] calls) is.between (is.closing ∷ [])
    ∙ ap (λ s. scan_steps s (is.closing ∷ [])) (scan_values call.name calls call.values is.between is.separated)
    ∙ scan_kind (scan_in call.name call.values calls) is.closing kind.Close [] is.is_close

pub parse_scanned : (at : Level) (ts : List Token) (f : Form) (calls : List CallTokens) → Parses at ts f → scan_steps (scan_at calls) ts ≡ scan_at (calls ++ form_calls f)
parse_scanned at ts f calls (parses_call _ _ call is) = scan_call calls ts call is
parse_scanned at ts f calls (parses_not _ mark inner g is p) = scan_kind (scan_at calls) mark kind.Not inner is ∙ parse_scanned level.Unary inner g calls p
parse_scanned at ts f calls (parses_group _ opening closing inner g is_open is_close p) =
    scan_kind (scan_at calls) opening kind.Open (inner ++ closing ∷ []) is_open ∙ scan_append (scan_at calls) inner (closing ∷ [])
    ∙ ap (λ s. scan_steps s (closing ∷ [])) (parse_scanned level.Or inner g calls p) ∙ scan_kind (scan_at (calls ++ form_calls g)) closing kind.Close [] is_close
parse_scanned at ts f calls (parses_and _ left right mark g h bare is p q) =
    scan_append (scan_at calls) left (mark ∷ right) ∙ ap (λ s. scan_steps s (mark ∷ right)) (parse_scanned level.And left g calls p)
    ∙ scan_kind (scan_at (calls ++ form_calls g)) mark kind.And right is ∙ parse_scanned level.Unary right h (calls ++ form_calls g) q
    ∙ ap scan_at (append_assoc calls (form_calls g) (form_calls h))
parse_scanned at ts f calls (parses_or _ left right mark g h bare is p q) =
    scan_append (scan_at calls) left (mark ∷ right) ∙ ap (λ s. scan_steps s (mark ∷ right)) (parse_scanned level.Or left g calls p)
    ∙ scan_kind (scan_at (calls ++ form_calls g)) mark kind.Or right is ∙ parse_scanned level.And right h (calls ++ form_calls g) q
    ∙ ap scan_at (append_assoc calls (form_calls g) (form_calls h))

pub whole_scanned : (ts : List Token) (f : Form) → IsRule ts f → (scan_steps scan_start ts).calls ≡ form_calls f
whole_scanned ts f p = ap (λ s. s.calls) (parse_scanned level.Or ts f [] p)

-- calls are only added
scan_adds : (s : CallScan) (t : Token) (k : TokenKind) → (more : List CallTokens) × ((scan_step_of s t k).calls ≡ s.calls ++ more)
scan_adds s t kind.Close = closing s.name
  where
    closing : (n : Option Token) → (more : List CallTokens) × ((scan_close n s).calls ≡ s.calls ++ more)
    closing None = ([], sym (append-nil s.calls))
    closing (Some name) = (tokens_call name s.values ∷ [], refl)
scan_adds s t _ = ([], sym (append-nil s.calls))

pub scan_grows : (s : CallScan) (ts : List Token) → (more : List CallTokens) × ((scan_steps s ts).calls ≡ s.calls ++ more)
scan_grows s [] = ([], sym (append-nil s.calls))
scan_grows s (t ∷ ts) =
    let (one, here) = scan_adds s t t.kind in
    let (more, rest) = scan_grows (scan_step s t) ts in
    (one ++ more, rest ∙ ap (λ l. l ++ more) here ∙ append_assoc s.calls one more)
