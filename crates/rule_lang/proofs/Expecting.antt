-- What may follow is what some rule goes on with, both ways.
use Rattle.std.proofs.Common.{◌≡◌, ℕ, zero, suc, ◌+◌, ◌≤◌, ◌⊎◌, inl, inr, true, false, Option, Some, None, List, [], ◌∷◌, ◌++◌, refl, sym, ap, ◌∙◌, subst, arith, append_assoc, append-nil, eqb-true}
use Rattle.std.proofs.lemmas.Bool.{false≢true}
use Rattle.rule_lang.specs.declared.token.Token.{Token}
use Rattle.rule_lang.specs.declared.token.TokenKind.{TokenKind}
use Rattle.rule_lang.specs.declared.token.TokenKind.TheVariants as kind
use Rattle.rule_lang.specs.declared.print.Level.{Level}
use Rattle.rule_lang.specs.declared.print.Level.TheVariants as level
use Rattle.rule_lang.specs.declared.expect.Next.{Next}
use Rattle.rule_lang.specs.declared.expect.Next.TheVariants as next
use Rattle.rule_lang.specs.declared.expect.Progress.{Progress}
use Rattle.rule_lang.specs.Forms.{CallTokens, Form, called, negated, grouped, joined, chosen, IsValueToken, AreMoreValues, AreSeparated, IsCall, Parses, parses_call, parses_not, parses_group, parses_and, parses_or, IsRule, BeginsRule}
use Rattle.rule_lang.specs.Expects.{at_next, closes, stepped_at, stepped, step_from, steps_from, at_start, is_whole_at}
use Rattle.rule_lang.specs.Faults.{IsUnexpected}

-- ---- steps over lists

pub steps_append : (p : Option Progress) (xs ys : List Token) → steps_from p (xs ++ ys) ≡ steps_from (steps_from p xs) ys
steps_append p [] ys = refl
steps_append p (x ∷ xs) ys = steps_append (step_from p x.kind) xs ys

pub steps_none : (ys : List Token) → steps_from None ys ≡ None
steps_none [] = refl
steps_none (y ∷ ys) = steps_none ys

kind_step : (p : Option Progress) (t : Token) (k : TokenKind) (rest : List Token) → t.kind ≡ k → steps_from p (t ∷ rest) ≡ steps_from (step_from p k) rest
kind_step p t k rest is = ap (λ j. steps_from (step_from p j) rest) is

-- ---- a rule's tokens are followed to their end

value_step : (t : Token) (rest : List Token) (d : ℕ) → IsValueToken t → steps_from (Some (at_next next.Value d)) (t ∷ rest) ≡ steps_from (Some (at_next next.AfterValue d)) rest
value_step t rest d (inl raw) = kind_step (Some (at_next next.Value d)) t kind.Raw rest raw
value_step t rest d (inr quoted) = kind_step (Some (at_next next.Value d)) t kind.Quoted rest quoted

first_value_step : (t : Token) (rest : List Token) (d : ℕ) → IsValueToken t → steps_from (Some (at_next next.FirstValue d)) (t ∷ rest) ≡ steps_from (Some (at_next next.AfterValue d)) rest
first_value_step t rest d (inl raw) = kind_step (Some (at_next next.FirstValue d)) t kind.Raw rest raw
first_value_step t rest d (inr quoted) = kind_step (Some (at_next next.FirstValue d)) t kind.Quoted rest quoted

more_values : (values tokens : List Token) (d : ℕ) → AreMoreValues tokens values → steps_from (Some (at_next next.AfterValue d)) tokens ≡ Some (at_next next.AfterValue d)
more_values [] tokens d is = ap (λ l. steps_from (Some (at_next next.AfterValue d)) l) is
more_values (v ∷ values) tokens d (comma, (rest, is, is_comma, is_value, more)) =
    ap (λ l. steps_from (Some (at_next next.AfterValue d)) l) is ∙ kind_step (Some (at_next next.AfterValue d)) comma kind.Comma (v ∷ rest) is_comma
    ∙ value_step v rest d is_value ∙ more_values values rest d more

closed_values : (values between : List Token) (closing : Token) (d : ℕ) → AreSeparated between values → closing.kind ≡ kind.Close
    → steps_from (Some (at_next next.FirstValue d)) (between ++ closing ∷ []) ≡ Some (at_next next.Operator d)
closed_values [] between closing d is is_close =
    ap (λ l. steps_from (Some (at_next next.FirstValue d)) (l ++ closing ∷ [])) is ∙ kind_step (Some (at_next next.FirstValue d)) closing kind.Close [] is_close
closed_values (v ∷ values) between closing d (rest, is, is_value, more) is_close =
    ap (λ l. steps_from (Some (at_next next.FirstValue d)) (l ++ closing ∷ [])) is ∙ first_value_step v (rest ++ closing ∷ []) d is_value
    ∙ steps_append (Some (at_next next.AfterValue d)) rest (closing ∷ []) ∙ ap (λ p. steps_from p (closing ∷ [])) (more_values values rest d more)
    ∙ kind_step (Some (at_next next.AfterValue d)) closing kind.Close [] is_close

call_steps : (tokens : List Token) (c : CallTokens) (d : ℕ) → IsCall tokens c → steps_from (Some (at_next next.Operand d)) tokens ≡ Some (at_next next.Operator d)
call_steps tokens c d is =
    ap (λ l. steps_from (Some (at_next next.Operand d)) l) is.tokens_are
    ∙ kind_step (Some (at_next next.Operand d)) c.name kind.Name (is.opening ∷ (is.between ++ is.closing ∷ [])) is.is_name
    ∙ kind_step (Some (at_next next.CallOpen d)) is.opening kind.Open (is.between ++ is.closing ∷ []) is.is_open
    ∙ closed_values c.values is.between is.closing d is.separated is.is_close

pub parses_steps : (at : Level) (tokens : List Token) (f : Form) (d : ℕ) → Parses at tokens f → steps_from (Some (at_next next.Operand d)) tokens ≡ Some (at_next next.Operator d)
parses_steps at tokens f d (parses_call _ _ c is) = call_steps tokens c d is
parses_steps at tokens f d (parses_not _ mark inner g is p) =
    kind_step (Some (at_next next.Operand d)) mark kind.Not inner is ∙ parses_steps level.Unary inner g d p
parses_steps at tokens f d (parses_group _ opening closing inner g is_open is_close p) =
    kind_step (Some (at_next next.Operand d)) opening kind.Open (inner ++ closing ∷ []) is_open
    ∙ steps_append (Some (at_next next.Operand (d + 1))) inner (closing ∷ [])
    ∙ ap (λ q. steps_from q (closing ∷ [])) (parses_steps level.Or inner g (d + 1) p)
    ∙ kind_step (Some (at_next next.Operator (d + 1))) closing kind.Close [] is_close
    ∙ ap closes (let e : d + 1 ≡ suc d = omega arith in e)
parses_steps at tokens f d (parses_and _ left right mark g h bare is p q) =
    steps_append (Some (at_next next.Operand d)) left (mark ∷ right) ∙ ap (λ s. steps_from s (mark ∷ right)) (parses_steps level.And left g d p)
    ∙ kind_step (Some (at_next next.Operator d)) mark kind.And right is ∙ parses_steps level.Unary right h d q
parses_steps at tokens f d (parses_or _ left right mark g h bare is p q) =
    steps_append (Some (at_next next.Operand d)) left (mark ∷ right) ∙ ap (λ s. steps_from s (mark ∷ right)) (parses_steps level.Or left g d p)
    ∙ kind_step (Some (at_next next.Operator d)) mark kind.Or right is ∙ parses_steps level.And right h d q

-- ---- levels

pub unary_up : (at : Level) (tokens : List Token) (f : Form) → Parses level.Unary tokens f → Parses at tokens f
unary_up at tokens f (parses_call _ _ c is) = parses_call at tokens c is
unary_up at tokens f (parses_not _ mark inner g is p) = parses_not at mark inner g is p
unary_up at tokens f (parses_group _ opening closing inner g is_open is_close p) = parses_group at opening closing inner g is_open is_close p
unary_up at tokens f (parses_and _ left right mark g h bare is p q) = absurd (false≢true bare)
unary_up at tokens f (parses_or _ left right mark g h bare is p q) = absurd (false≢true bare)

pub and_up : (tokens : List Token) (f : Form) → Parses level.And tokens f → Parses level.Or tokens f
and_up tokens f (parses_call _ _ c is) = parses_call level.Or tokens c is
and_up tokens f (parses_not _ mark inner g is p) = parses_not level.Or mark inner g is p
and_up tokens f (parses_group _ opening closing inner g is_open is_close p) = parses_group level.Or opening closing inner g is_open is_close p
and_up tokens f (parses_and _ left right mark g h bare is p q) = parses_and level.Or left right mark g h refl is p q
and_up tokens f (parses_or _ left right mark g h bare is p q) = absurd (false≢true bare)

-- ---- the tokens so far, by what they have ended

-- nothing, or a rule and `||`, and then operands with `&&` between them
record Chain (tokens : List Token) : Type 0 where
  ors : List Token
  last : List Token
  before : (ors ≡ []) ⊎ ((rule : List Token) × ((mark : Token) × ((f : Form) × (ors ≡ rule ++ mark ∷ []) × (mark.kind ≡ kind.Or) × Parses level.Or rule f)))
  form : Form
  is_and : Parses level.And last form
  tokens_are : tokens ≡ ors ++ last

chain_one : (tokens : List Token) (f : Form) → Parses level.Unary tokens f → Chain tokens
chain_one tokens f p = record { ors = []; last = tokens; before = inl refl; form = f; is_and = unary_up level.And tokens f p; tokens_are = refl }

chain_rule : (tokens : List Token) → Chain tokens → (f : Form) × IsRule tokens f
chain_rule tokens c = go c.before
  where
    P : List Token → Type 0
    P l = (f : Form) × IsRule l f

    go : (c.ors ≡ []) ⊎ ((rule : List Token) × ((mark : Token) × ((f : Form) × (c.ors ≡ rule ++ mark ∷ []) × (mark.kind ≡ kind.Or) × Parses level.Or rule f))) → P tokens
    go (inl none) = subst P (sym (c.tokens_are ∙ ap (λ l. l ++ c.last) none)) (c.form, and_up c.last c.form c.is_and)
    go (inr (rule, (mark, (f, is, is_or, p)))) =
        subst P (sym (c.tokens_are ∙ ap (λ l. l ++ c.last) is ∙ append_assoc rule (mark ∷ []) c.last))
        (chosen f c.form, parses_or level.Or rule c.last mark f c.form refl is_or p c.is_and)

chain_and : (tokens unary : List Token) (mark : Token) (f : Form) → mark.kind ≡ kind.And → Parses level.Unary unary f → Chain tokens → Chain (tokens ++ mark ∷ unary)
chain_and tokens unary mark f is p c = record {
  ors = c.ors;
  last = c.last ++ mark ∷ unary;
  before = c.before;
  form = joined c.form f;
  is_and = parses_and level.And c.last unary mark c.form f refl is c.is_and p;
  tokens_are = ap (λ l. l ++ mark ∷ unary) c.tokens_are ∙ append_assoc c.ors c.last (mark ∷ unary);
}

chain_or : (tokens unary : List Token) (mark : Token) (f : Form) → mark.kind ≡ kind.Or → Parses level.Unary unary f → Chain tokens → Chain (tokens ++ mark ∷ unary)
chain_or tokens unary mark f is p c =
    let (g, rule) = chain_rule tokens c in
    record {
      ors = tokens ++ mark ∷ [];
      last = unary;
      before = inr (tokens, (mark, (g, refl, is, rule)));
      form = f;
      is_and = unary_up level.And unary f p;
      tokens_are = sym (append_assoc tokens (mark ∷ []) unary);
    }

-- the last operand is whole, and this many groups are open
Inside : ℕ → List Token → Type 0
Inside zero tokens = Chain tokens
Inside (suc d) tokens =
    (outer : List Token) × ((opening : Token) × ((inner : List Token) × (tokens ≡ outer ++ opening ∷ inner) × (opening.kind ≡ kind.Open)
    × Chain inner × ((unary : List Token) (f : Form) → Parses level.Unary unary f → Inside d (outer ++ unary))))

-- an operand may follow
Ready : ℕ → List Token → Type 0
Ready d tokens = (unary : List Token) (f : Form) → Parses level.Unary unary f → Inside d (tokens ++ unary)

inside_more : (d : ℕ) (tokens more : List Token) → ((c : List Token) → Chain c → Chain (c ++ more)) → Inside d tokens → Inside d (tokens ++ more)
unfolding Inside
inside_more zero tokens more h c = h tokens c
inside_more (suc d) tokens more h (outer, (opening, (inner, is, is_open, chain, ready))) =
    (outer, (opening, (inner ++ more, ap (λ l. l ++ more) is ∙ append_assoc outer (opening ∷ inner) more, is_open, h inner chain, ready)))

ready_and : (d : ℕ) (tokens : List Token) (mark : Token) → mark.kind ≡ kind.And → Inside d tokens → Ready d (tokens ++ mark ∷ [])
unfolding Ready
ready_and d tokens mark is i = λ unary f p. subst (Inside d) (sym (append_assoc tokens (mark ∷ []) unary)) (inside_more d tokens (mark ∷ unary) (λ c chain. chain_and c unary mark f is p chain) i)

ready_or : (d : ℕ) (tokens : List Token) (mark : Token) → mark.kind ≡ kind.Or → Inside d tokens → Ready d (tokens ++ mark ∷ [])
unfolding Ready
ready_or d tokens mark is i = λ unary f p. subst (Inside d) (sym (append_assoc tokens (mark ∷ []) unary)) (inside_more d tokens (mark ∷ unary) (λ c chain. chain_or c unary mark f is p chain) i)

ready_not : (d : ℕ) (tokens : List Token) (mark : Token) → mark.kind ≡ kind.Not → Ready d tokens → Ready d (tokens ++ mark ∷ [])
unfolding Ready
ready_not d tokens mark is r = λ unary f p. subst (Inside d) (sym (append_assoc tokens (mark ∷ []) unary)) (r (mark ∷ unary) (negated f) (parses_not level.Unary mark unary f is p))

ready_group : (d : ℕ) (tokens : List Token) (opening : Token) → opening.kind ≡ kind.Open → Ready d tokens → Ready (suc d) (tokens ++ opening ∷ [])
unfolding Ready Inside
ready_group d tokens opening is r = λ unary f p. (tokens, (opening, (unary, append_assoc tokens (opening ∷ []) unary, is, chain_one unary f p, r)))

inside_close : (d : ℕ) (tokens : List Token) (closing : Token) → closing.kind ≡ kind.Close → Inside (suc d) tokens → Inside d (tokens ++ closing ∷ [])
unfolding Inside
inside_close d tokens closing is (outer, (opening, (inner, split, is_open, chain, ready))) =
    let (f, rule) = chain_rule inner chain in
    subst (Inside d) (sym (ap (λ l. l ++ closing ∷ []) split ∙ append_assoc outer (opening ∷ inner) (closing ∷ [])))
    (ready (opening ∷ (inner ++ closing ∷ [])) (grouped f) (parses_group level.Unary opening closing inner f is_open is rule))

-- within a call
record InCall (d : ℕ) (tokens between : List Token) : Type 0 where
  front : List Token
  name : Token
  opening : Token
  is_name : name.kind ≡ kind.Name
  is_open : opening.kind ≡ kind.Open
  ready : Ready d front
  tokens_are : tokens ≡ front ++ name ∷ opening ∷ between

in_more : (d : ℕ) (tokens between more : List Token) → InCall d tokens between → InCall d (tokens ++ more) (between ++ more)
in_more d tokens between more c = record {
  front = c.front;
  name = c.name;
  opening = c.opening;
  is_name = c.is_name;
  is_open = c.is_open;
  ready = c.ready;
  tokens_are = ap (λ l. l ++ more) c.tokens_are ∙ append_assoc c.front (c.name ∷ c.opening ∷ between) more;
}

call_closed : (d : ℕ) (tokens between values : List Token) (closing : Token) → closing.kind ≡ kind.Close → AreSeparated between values → InCall d tokens between → Inside d (tokens ++ closing ∷ [])
unfolding Ready
call_closed d tokens between values closing is separated c =
    let whole : CallTokens = record { name = c.name; values = values } in
    let is_call : IsCall (c.name ∷ c.opening ∷ (between ++ closing ∷ [])) whole =
    record { opening = c.opening; between = between; closing = closing; is_name = c.is_name; is_open = c.is_open; separated = separated; is_close = is; tokens_are = refl } in
    subst (Inside d) (sym (ap (λ l. l ++ closing ∷ []) c.tokens_are ∙ append_assoc c.front (c.name ∷ c.opening ∷ between) (closing ∷ [])))
    (c.ready (c.name ∷ c.opening ∷ (between ++ closing ∷ [])) (called whole) (parses_call level.Unary _ whole is_call))

more_snoc : (values tokens : List Token) (comma v : Token) → comma.kind ≡ kind.Comma → IsValueToken v → AreMoreValues tokens values → AreMoreValues (tokens ++ comma ∷ v ∷ []) (values ++ v ∷ [])
more_snoc [] tokens comma v is_comma is_value is = (comma, ([], ap (λ l. l ++ comma ∷ v ∷ []) is, is_comma, is_value, refl))
more_snoc (w ∷ values) tokens comma v is_comma is_value (c, (rest, is, isc, isv, more)) =
    (c, (rest ++ comma ∷ v ∷ [], ap (λ l. l ++ comma ∷ v ∷ []) is, isc, isv, more_snoc values rest comma v is_comma is_value more))

separated_snoc : (w : Token) (values between : List Token) (comma v : Token) → comma.kind ≡ kind.Comma → IsValueToken v → AreSeparated between (w ∷ values)
    → AreSeparated ((between ++ comma ∷ []) ++ v ∷ []) (w ∷ (values ++ v ∷ []))
separated_snoc w values between comma v is_comma is_value (rest, is, isv, more) =
    (rest ++ comma ∷ v ∷ [], append_assoc between (comma ∷ []) (v ∷ []) ∙ ap (λ l. l ++ comma ∷ v ∷ []) is, isv, more_snoc values rest comma v is_comma is_value more)

Reached : Next → ℕ → List Token → Type 0
Reached next.Operand d tokens = Ready d tokens
Reached next.Operator d tokens = Inside d tokens
Reached next.CallOpen d tokens = (front : List Token) × ((name : Token) × (tokens ≡ front ++ name ∷ []) × (name.kind ≡ kind.Name) × Ready d front)
Reached next.FirstValue d tokens = InCall d tokens []
Reached next.Value d tokens =
    (between : List Token) × ((comma v : Token) × (values : List Token) × (comma.kind ≡ kind.Comma) × AreSeparated between (v ∷ values) × InCall d tokens (between ++ comma ∷ []))
Reached next.AfterValue d tokens = (between : List Token) × ((v : Token) × (values : List Token) × AreSeparated between (v ∷ values) × InCall d tokens between)

IsReached : Progress → List Token → Type 0
IsReached p tokens = Reached p.next p.groups tokens

none_some : (q : Progress) → None ≡ Some q → ⊥
none_some q e = cc

arrive : (p q : Progress) (tokens : List Token) → Some p ≡ Some q → IsReached p tokens → IsReached q tokens
arrive p q tokens e r = let same : p ≡ q = cc in subst (λ x. IsReached x tokens) same r

-- one token more
first_value : (d : ℕ) (tokens : List Token) (t : Token) → IsValueToken t → Reached next.FirstValue d tokens → Reached next.AfterValue d (tokens ++ t ∷ [])
unfolding Reached
first_value d tokens t is c = (t ∷ [], (t, [], ([], refl, is, refl), in_more d tokens [] (t ∷ []) c))

next_value : (d : ℕ) (tokens : List Token) (t : Token) → IsValueToken t → Reached next.Value d tokens → Reached next.AfterValue d (tokens ++ t ∷ [])
unfolding Reached
next_value d tokens t is (between, (comma, v, values, is_comma, separated, c)) =
    ((between ++ comma ∷ []) ++ t ∷ [], (v, values ++ t ∷ [], separated_snoc v values between comma t is_comma is separated, in_more d tokens (between ++ comma ∷ []) (t ∷ []) c))

reached_step : (n : Next) (d : ℕ) (k : TokenKind) (tokens : List Token) (t : Token) (q : Progress) → t.kind ≡ k → stepped_at n d k ≡ Some q → Reached n d tokens → IsReached q (tokens ++ t ∷ [])
unfolding Reached IsReached
reached_step next.Operand d kind.Not tokens t q is e r = arrive (at_next next.Operand d) q _ e (ready_not d tokens t is r)
reached_step next.Operand d kind.Open tokens t q is e r =
    let more : suc d ≡ d + 1 = omega arith in
    arrive (at_next next.Operand (d + 1)) q _ e (subst (λ g. Ready g (tokens ++ t ∷ [])) more (ready_group d tokens t is r))
reached_step next.Operand d kind.Name tokens t q is e r = arrive (at_next next.CallOpen d) q _ e (tokens, (t, refl, is, r))
reached_step next.Operand d _ tokens t q is e r = absurd (none_some q e)
reached_step next.Operator d kind.And tokens t q is e r = arrive (at_next next.Operand d) q _ e (ready_and d tokens t is r)
reached_step next.Operator d kind.Or tokens t q is e r = arrive (at_next next.Operand d) q _ e (ready_or d tokens t is r)
reached_step next.Operator zero kind.Close tokens t q is e r = absurd (none_some q e)
reached_step next.Operator (suc d) kind.Close tokens t q is e r = arrive (at_next next.Operator d) q _ e (inside_close d tokens t is r)
reached_step next.Operator d _ tokens t q is e r = absurd (none_some q e)
reached_step next.CallOpen d kind.Open tokens t q is e (front, (name, split, is_name, ready)) =
    arrive (at_next next.FirstValue d) q _ e (record {
      front = front;
      name = name;
      opening = t;
      is_name = is_name;
      is_open = is;
      ready = ready;
      tokens_are = ap (λ l. l ++ t ∷ []) split ∙ append_assoc front (name ∷ []) (t ∷ []);
    })
reached_step next.CallOpen d _ tokens t q is e r = absurd (none_some q e)
reached_step next.FirstValue d kind.Raw tokens t q is e r = arrive (at_next next.AfterValue d) q _ e (first_value d tokens t (inl is) r)
reached_step next.FirstValue d kind.Quoted tokens t q is e r = arrive (at_next next.AfterValue d) q _ e (first_value d tokens t (inr is) r)
reached_step next.FirstValue d kind.Close tokens t q is e r = arrive (at_next next.Operator d) q _ e (call_closed d tokens [] [] t is refl r)
reached_step next.FirstValue d _ tokens t q is e r = absurd (none_some q e)
reached_step next.Value d kind.Raw tokens t q is e r = arrive (at_next next.AfterValue d) q _ e (next_value d tokens t (inl is) r)
reached_step next.Value d kind.Quoted tokens t q is e r = arrive (at_next next.AfterValue d) q _ e (next_value d tokens t (inr is) r)
reached_step next.Value d _ tokens t q is e r = absurd (none_some q e)
reached_step next.AfterValue d kind.Comma tokens t q is e (between, (v, values, separated, c)) =
    arrive (at_next next.Value d) q _ e (between, (t, v, values, is, separated, in_more d tokens between (t ∷ []) c))
reached_step next.AfterValue d kind.Close tokens t q is e (between, (v, values, separated, c)) =
    arrive (at_next next.Operator d) q _ e (call_closed d tokens between (v ∷ values) t is separated c)
reached_step next.AfterValue d _ tokens t q is e r = absurd (none_some q e)

-- all tokens
reaches : (tokens front : List Token) (p q : Progress) → steps_from (Some p) tokens ≡ Some q → IsReached p front → IsReached q (front ++ tokens)
unfolding IsReached
reaches [] front p q e r = subst (λ l. Reached q.next q.groups l) (sym (append-nil front)) (arrive p q front e r)
reaches (t ∷ tokens) front p q e r = further (stepped p t.kind) refl e
    (λ s f at. reaches tokens f s q)
  where
    further : (s : Option Progress) → stepped p t.kind ≡ s → steps_from s tokens ≡ Some q
        → ((s : Progress) (f : List Token) (at : ℕ) → steps_from (Some s) tokens ≡ Some q → IsReached s f → IsReached q (f ++ tokens)) → IsReached q (front ++ t ∷ tokens)
    further None is left on = absurd (none_some q (sym (steps_none tokens) ∙ left))
    further (Some s) is left on =
        subst (λ l. IsReached q l) (append_assoc front (t ∷ []) tokens) (on s (front ++ t ∷ []) 0 left (reached_step p.next p.groups t.kind front t s refl is r))

-- ---- and can be gone on with

pub begins_shorter : (tokens more : List Token) → BeginsRule (tokens ++ more) → BeginsRule tokens
begins_shorter tokens more (rest, (f, p)) = (more ++ rest, (f, subst (λ l. IsRule l f) (append_assoc tokens more rest) p))

abbrev pub mark_of : TokenKind → Token
mark_of k = record { kind = k; start = 0; end = 0 }

none_open : (tokens : List Token) → Inside zero tokens → (f : Form) × IsRule tokens f
unfolding Inside
none_open tokens c = chain_rule tokens c

inside_begins : (d : ℕ) (tokens : List Token) → Inside d tokens → BeginsRule tokens
inside_begins zero tokens i = let (f, p) = none_open tokens i in ([], (f, subst (λ l. IsRule l f) (sym (append-nil tokens)) p))
inside_begins (suc d) tokens i =
    begins_shorter tokens (mark_of kind.Close ∷ []) (inside_begins d (tokens ++ mark_of kind.Close ∷ []) (inside_close d tokens (mark_of kind.Close) refl i))

step_begins : (n : Next) (d : ℕ) (k : TokenKind) (tokens : List Token) (q : Progress) → stepped_at n d k ≡ Some q → Reached n d tokens
    → (IsReached q (tokens ++ mark_of k ∷ []) → BeginsRule (tokens ++ mark_of k ∷ [])) → BeginsRule tokens
step_begins n d k tokens q e r on = begins_shorter tokens (mark_of k ∷ []) (on (reached_step n d k tokens (mark_of k) q refl e r))

operator_begins : (d : ℕ) (tokens : List Token) → IsReached (at_next next.Operator d) tokens → BeginsRule tokens
unfolding IsReached Reached
operator_begins d tokens r = inside_begins d tokens r

first_begins : (d : ℕ) (tokens : List Token) → IsReached (at_next next.FirstValue d) tokens → BeginsRule tokens
unfolding IsReached
first_begins d tokens r = step_begins next.FirstValue d kind.Close tokens (at_next next.Operator d) refl r (operator_begins d _)

after_begins : (d : ℕ) (tokens : List Token) → IsReached (at_next next.AfterValue d) tokens → BeginsRule tokens
unfolding IsReached
after_begins d tokens r = step_begins next.AfterValue d kind.Close tokens (at_next next.Operator d) refl r (operator_begins d _)

open_begins : (d : ℕ) (tokens : List Token) → IsReached (at_next next.CallOpen d) tokens → BeginsRule tokens
unfolding IsReached
open_begins d tokens r = step_begins next.CallOpen d kind.Open tokens (at_next next.FirstValue d) refl r (first_begins d _)

reached_begins : (n : Next) (d : ℕ) (tokens : List Token) → Reached n d tokens → BeginsRule tokens
unfolding IsReached
reached_begins next.Operand d tokens r = step_begins next.Operand d kind.Name tokens (at_next next.CallOpen d) refl r (open_begins d _)
reached_begins next.Operator d tokens r = operator_begins d tokens r
reached_begins next.CallOpen d tokens r = open_begins d tokens r
reached_begins next.FirstValue d tokens r = first_begins d tokens r
reached_begins next.Value d tokens r = step_begins next.Value d kind.Raw tokens (at_next next.AfterValue d) refl r (after_begins d _)
reached_begins next.AfterValue d tokens r = after_begins d tokens r

-- ---- what the scan answers

start_reached : IsReached at_start []
unfolding IsReached Reached Ready Inside
start_reached = λ unary f p. chain_one unary f p

steps_begin : (tokens : List Token) (p : Progress) → steps_from (Some at_start) tokens ≡ Some p → BeginsRule tokens
unfolding IsReached
steps_begin tokens p e = reached_begins p.next p.groups tokens (reaches tokens [] at_start p e start_reached)

whole_is : (n : Next) (d : ℕ) → is_whole_at n d ≡ true → at_next n d ≡ at_next next.Operator 0
whole_is next.Operator zero e = refl
whole_is next.Operator (suc d) e = absurd (let h = eqb-true (suc d) 0 e in omega arith)
whole_is _ d e = absurd (false≢true e)

pub whole_rule : (tokens : List Token) (p : Progress) → steps_from (Some at_start) tokens ≡ Some p → is_whole_at p.next p.groups ≡ true → (f : Form) × IsRule tokens f
unfolding IsReached Reached Inside
whole_rule tokens p e whole =
    let r : IsReached (at_next next.Operator 0) tokens = reaches tokens [] at_start (at_next next.Operator 0) (e ∙ ap Some (whole_is p.next p.groups whole)) start_reached in
    chain_rule tokens r

pub not_whole : (tokens : List Token) (p : Progress) (len : ℕ) → steps_from (Some at_start) tokens ≡ Some p → is_whole_at p.next p.groups ≡ false → IsUnexpected len tokens len
not_whole tokens p len e whole = inr (refl, steps_begin tokens p e, λ f rule. differs f rule)
  where
    differs : (f : Form) → IsRule tokens f → ⊥
    differs f rule =
        let same : p ≡ at_next next.Operator 0 = let at_end = parses_steps level.Or tokens f 0 rule in cc in
        false≢true (sym whole ∙ ap (λ q. is_whole_at q.next q.groups) same)

pub stopped : (tokens front rest : List Token) (t : Token) (p : Progress) (len : ℕ) → tokens ≡ front ++ t ∷ rest → steps_from (Some at_start) front ≡ Some p
    → stepped p t.kind ≡ None → IsUnexpected len tokens t.start
stopped tokens front rest t p len is e none = inl (record {
  front = front;
  token = t;
  rest = rest;
  tokens_are = is;
  begins = steps_begin front p e;
  ends = never;
  place_is = refl;
})
  where
    never : BeginsRule (front ++ t ∷ []) → ⊥
    never (more, (f, rule)) =
        none_some (at_next next.Operator 0)
        (sym (steps_append (Some at_start) (front ++ t ∷ []) more ∙ ap (λ q. steps_from q more) (steps_append (Some at_start) front (t ∷ []) ∙ ap (λ q. steps_from q (t ∷ [])) e ∙ none)
        ∙ steps_none more) ∙ parses_steps level.Or ((front ++ t ∷ []) ++ more) f 0 rule)

pub one_more : (tokens : List Token) (t : Token) (p q : Progress) → steps_from (Some at_start) tokens ≡ Some p → stepped p t.kind ≡ Some q → steps_from (Some at_start) (tokens ++ t ∷ []) ≡ Some q
one_more tokens t p q e step = steps_append (Some at_start) tokens (t ∷ []) ∙ ap (λ s. steps_from s (t ∷ [])) e ∙ step

-- a token opens at most one group
groups_arrive : (p q : Progress) (d : ℕ) → Some p ≡ Some q → p.groups ≤ d + 1 → q.groups ≤ d + 1
groups_arrive p q d e h = let same : p ≡ q = cc in subst (λ x. x.groups ≤ d + 1) same h

pub groups_step : (n : Next) (d : ℕ) (k : TokenKind) (q : Progress) → stepped_at n d k ≡ Some q → q.groups ≤ d + 1
groups_step next.Operand d kind.Not q e = groups_arrive (at_next next.Operand d) q d e (omega arith)
groups_step next.Operand d kind.Open q e = groups_arrive (at_next next.Operand (d + 1)) q d e (omega arith)
groups_step next.Operand d kind.Name q e = groups_arrive (at_next next.CallOpen d) q d e (omega arith)
groups_step next.Operand d _ q e = absurd (none_some q e)
groups_step next.Operator d kind.And q e = groups_arrive (at_next next.Operand d) q d e (omega arith)
groups_step next.Operator d kind.Or q e = groups_arrive (at_next next.Operand d) q d e (omega arith)
groups_step next.Operator zero kind.Close q e = absurd (none_some q e)
groups_step next.Operator (suc d) kind.Close q e = groups_arrive (at_next next.Operator d) q (suc d) e (omega arith)
groups_step next.Operator d _ q e = absurd (none_some q e)
groups_step next.CallOpen d kind.Open q e = groups_arrive (at_next next.FirstValue d) q d e (omega arith)
groups_step next.CallOpen d _ q e = absurd (none_some q e)
groups_step next.FirstValue d kind.Raw q e = groups_arrive (at_next next.AfterValue d) q d e (omega arith)
groups_step next.FirstValue d kind.Quoted q e = groups_arrive (at_next next.AfterValue d) q d e (omega arith)
groups_step next.FirstValue d kind.Close q e = groups_arrive (at_next next.Operator d) q d e (omega arith)
groups_step next.FirstValue d _ q e = absurd (none_some q e)
groups_step next.Value d kind.Raw q e = groups_arrive (at_next next.AfterValue d) q d e (omega arith)
groups_step next.Value d kind.Quoted q e = groups_arrive (at_next next.AfterValue d) q d e (omega arith)
groups_step next.Value d _ q e = absurd (none_some q e)
groups_step next.AfterValue d kind.Comma q e = groups_arrive (at_next next.Value d) q d e (omega arith)
groups_step next.AfterValue d kind.Close q e = groups_arrive (at_next next.Operator d) q d e (omega arith)
groups_step next.AfterValue d _ q e = absurd (none_some q e)
