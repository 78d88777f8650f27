-- The depth that the steps measure is that of the rule.
use Rattle.std.proofs.Common.{◌≡◌, ℕ, ◌+◌, ◌≤◌, max, inl, inr, true, false, List, [], ◌∷◌, ◌++◌, refl, sym, ap, ◌∙◌, arith, Bool}
use Rattle.std.proofs.lemmas.Bool.{false≢true}
use Rattle.std.specs.List.{AllByRecursion}
use Rattle.rule_lang.specs.declared.token.Token.{Token}
use Rattle.rule_lang.specs.declared.token.TokenKind.{TokenKind}
use Rattle.rule_lang.specs.declared.token.TokenKind.TheVariants as kind
use Rattle.rule_lang.specs.declared.print.Level.{Level}
use Rattle.rule_lang.specs.declared.print.Level.TheVariants as level
use Rattle.rule_lang.specs.Prints.{and_is_bare, or_is_bare}
use Rattle.rule_lang.specs.Forms.{CallTokens, Form, IsValueToken, AreMoreValues, AreSeparated, IsCall, Parses, parses_call, parses_not, parses_group, parses_and, parses_or, IsRule, form_depth}
use Rattle.rule_lang.specs.Depths.{Depths, depth_step, depth_steps, depth_start, depth_opened, depth_closed, depth_left}

pub depths_append : (d : Depths) (xs ys : List Token) → depth_steps d (xs ++ ys) ≡ depth_steps (depth_steps d xs) ys
depths_append d [] ys = refl
depths_append d (x ∷ xs) ys = depths_append (depth_step d x.kind) xs ys

kind_step : (d : Depths) (t : Token) (k : TokenKind) (rest : List Token) → t.kind ≡ k → depth_steps d (t ∷ rest) ≡ depth_steps (depth_step d k) rest
kind_step d t k rest is = ap (λ j. depth_steps (depth_step d j) rest) is

value_step : (d : Depths) (t : Token) (rest : List Token) → IsValueToken t → depth_steps d (t ∷ rest) ≡ depth_steps d rest
value_step d t rest (inl raw) = kind_step d t kind.Raw rest raw
value_step d t rest (inr quoted) = kind_step d t kind.Quoted rest quoted

more_values : (values tokens : List Token) (d : Depths) → AreMoreValues tokens values → depth_steps d tokens ≡ d
more_values [] tokens d is = ap (λ l. depth_steps d l) is
more_values (v ∷ values) tokens d (comma, (rest, is, is_comma, is_value, more)) =
    ap (λ l. depth_steps d l) is ∙ kind_step d comma kind.Comma (v ∷ rest) is_comma ∙ value_step d v rest is_value ∙ more_values values rest d more

all_values : (values tokens : List Token) (d : Depths) → AreSeparated tokens values → depth_steps d tokens ≡ d
all_values [] tokens d is = ap (λ l. depth_steps d l) is
all_values (v ∷ values) tokens d (rest, is, is_value, more) = ap (λ l. depth_steps d l) is ∙ value_step d v rest is_value ∙ more_values values rest d more

abbrev at_depth : ℕ → ℕ → List ℕ → ℕ → Depths
at_depth here base bases deepest = record { in_call = false; here = here; base = base; bases = bases; deepest = deepest }

abbrev in_call_at : ℕ → ℕ → List ℕ → ℕ → Depths
in_call_at here base bases deepest = record { in_call = true; here = here; base = base; bases = bases; deepest = deepest }

call_depth : (tokens : List Token) (c : CallTokens) (here base : ℕ) (bases : List ℕ) (deepest : ℕ) → IsCall tokens c
    → depth_steps (at_depth here base bases deepest) tokens ≡ at_depth base base bases (max deepest here)
call_depth tokens c here base bases deepest is =
    let inner : Depths = in_call_at here base bases (max deepest here) in
    ap (λ l. depth_steps (at_depth here base bases deepest) l) is.tokens_are
    ∙ kind_step (at_depth here base bases deepest) c.name kind.Name (is.opening ∷ (is.between ++ is.closing ∷ [])) is.is_name
    ∙ kind_step inner is.opening kind.Open (is.between ++ is.closing ∷ []) is.is_open
    ∙ depths_append inner is.between (is.closing ∷ []) ∙ ap (λ d. depth_steps d (is.closing ∷ [])) (all_values c.values is.between inner is.separated)
    ∙ kind_step inner is.closing kind.Close [] is.is_close

same_deepest : (base : ℕ) (bases : List ℕ) (m n : ℕ) → m ≡ n → at_depth base base bases m ≡ at_depth base base bases n
same_deepest base bases m n e = ap (λ k. at_depth base base bases k) e

-- only an operand may stand behind a `!`
abbrev Fits : Level → ℕ → ℕ → Type 0
Fits level.Unary here base = Unit {0}
Fits _ here base = here ≡ base

and_fits : (at : Level) (here base : ℕ) → and_is_bare at ≡ true → Fits at here base → here ≡ base
and_fits level.Unary here base bare h = absurd (false≢true bare)
and_fits _ here base bare h = h

or_fits : (at : Level) (here base : ℕ) → or_is_bare at ≡ true → Fits at here base → here ≡ base
or_fits level.Unary here base bare h = absurd (false≢true bare)
or_fits _ here base bare h = h

two_deep : (deepest here base m n : ℕ) → here ≡ base → max (max deepest (here + m)) (base + n) ≡ max deepest (here + max m n)
two_deep deepest here base m n e = omega arith

parse_depth : (at : Level) (tokens : List Token) (f : Form) (here base : ℕ) (bases : List ℕ) (deepest : ℕ) → Fits at here base → Parses at tokens f
    → depth_steps (at_depth here base bases deepest) tokens ≡ at_depth base base bases (max deepest (here + form_depth f))
parse_depth at tokens f here base bases deepest fits (parses_call _ _ c is) =
    call_depth tokens c here base bases deepest is ∙ same_deepest base bases (max deepest here) (max deepest (here + 0)) (omega arith)
parse_depth at tokens f here base bases deepest fits (parses_not _ mark inner g is p) =
    kind_step (at_depth here base bases deepest) mark kind.Not inner is ∙ parse_depth level.Unary inner g (here + 1) base bases deepest tt p
    ∙ same_deepest base bases (max deepest (here + 1 + form_depth g)) (max deepest (here + (1 + form_depth g))) (omega arith)
parse_depth at tokens f here base bases deepest fits (parses_group _ opening closing inner g is_open is_close p) =
    let within : Depths = at_depth (here + 1) (here + 1) (base ∷ bases) deepest in
    kind_step (at_depth here base bases deepest) opening kind.Open (inner ++ closing ∷ []) is_open
    ∙ depths_append within inner (closing ∷ [])
    ∙ ap (λ d. depth_steps d (closing ∷ [])) (parse_depth level.Or inner g (here + 1) (here + 1) (base ∷ bases) deepest refl p)
    ∙ kind_step (at_depth (here + 1) (here + 1) (base ∷ bases) (max deepest (here + 1 + form_depth g))) closing kind.Close [] is_close
    ∙ same_deepest base bases (max deepest (here + 1 + form_depth g)) (max deepest (here + (1 + form_depth g))) (omega arith)
parse_depth at tokens f here base bases deepest fits (parses_and _ left right mark g h bare is p q) =
    let same = and_fits at here base bare fits in
    depths_append (at_depth here base bases deepest) left (mark ∷ right)
    ∙ ap (λ d. depth_steps d (mark ∷ right)) (parse_depth level.And left g here base bases deepest same p)
    ∙ kind_step (at_depth base base bases (max deepest (here + form_depth g))) mark kind.And right is
    ∙ parse_depth level.Unary right h base base bases (max deepest (here + form_depth g)) tt q
    ∙ same_deepest base bases (max (max deepest (here + form_depth g)) (base + form_depth h)) (max deepest (here + max (form_depth g) (form_depth h)))
    (two_deep deepest here base (form_depth g) (form_depth h) same)
parse_depth at tokens f here base bases deepest fits (parses_or _ left right mark g h bare is p q) =
    let same = or_fits at here base bare fits in
    depths_append (at_depth here base bases deepest) left (mark ∷ right)
    ∙ ap (λ d. depth_steps d (mark ∷ right)) (parse_depth level.Or left g here base bases deepest same p)
    ∙ kind_step (at_depth base base bases (max deepest (here + form_depth g))) mark kind.Or right is
    ∙ parse_depth level.And right h base base bases (max deepest (here + form_depth g)) refl q
    ∙ same_deepest base bases (max (max deepest (here + form_depth g)) (base + form_depth h)) (max deepest (here + max (form_depth g) (form_depth h)))
    (two_deep deepest here base (form_depth g) (form_depth h) same)

pub whole_depth : (tokens : List Token) (f : Form) → IsRule tokens f → (depth_steps depth_start tokens).deepest ≡ form_depth f
whole_depth tokens f p =
    let at_end = parse_depth level.Or tokens f 0 0 [] 0 refl p in
    ap (λ d. d.deepest) at_end ∙ (let e : max 0 (0 + form_depth f) ≡ form_depth f = omega arith in e)

-- no place is deeper than the tokens so far are many
pub record Within (i : ℕ) (d : Depths) : Type 0 where
  pub here : d.here ≤ i
  pub base : d.base ≤ i
  pub bases : AllByRecursion (λ b. b ≤ i) d.bases

all_more : (i : ℕ) (bases : List ℕ) → AllByRecursion (λ b. b ≤ i) bases → AllByRecursion (λ b. b ≤ i + 1) bases
all_more i [] h = tt
all_more i (b ∷ bases) h = (omega (arith, h.0), all_more i bases h.1)

left_within : (i base : ℕ) (bases : List ℕ) (deepest : ℕ) → base ≤ i → AllByRecursion (λ b. b ≤ i) bases → Within (i + 1) (depth_left base bases deepest)
left_within i base [] deepest h all = record { here = omega arith; base = omega arith; bases = tt }
left_within i base (outer ∷ bases) deepest h all = record { here = omega (arith, all.0); base = omega (arith, all.0); bases = all_more i bases all.1 }

opened_within : (i : ℕ) (in_call : Bool) (d : Depths) → Within i d → Within (i + 1) (depth_opened in_call d)
opened_within i true d w = record { here = omega (arith, w.here); base = omega (arith, w.base); bases = all_more i d.bases w.bases }
opened_within i false d w = record { here = omega (arith, w.here); base = omega (arith, w.here); bases = (omega (arith, w.base), all_more i d.bases w.bases) }

closed_within : (i : ℕ) (in_call : Bool) (d : Depths) → Within i d → Within (i + 1) (depth_closed in_call d)
closed_within i true d w = record { here = omega (arith, w.base); base = omega (arith, w.base); bases = all_more i d.bases w.bases }
closed_within i false d w = left_within i d.base d.bases d.deepest w.base w.bases

pub step_within : (i : ℕ) (k : TokenKind) (d : Depths) → Within i d → Within (i + 1) (depth_step d k)
step_within i kind.Open d w = opened_within i d.in_call d w
step_within i kind.Close d w = closed_within i d.in_call d w
step_within i kind.Not d w = record { here = omega (arith, w.here); base = omega (arith, w.base); bases = all_more i d.bases w.bases }
step_within i kind.Name d w = record { here = omega (arith, w.here); base = omega (arith, w.base); bases = all_more i d.bases w.bases }
step_within i _ d w = record { here = omega (arith, w.here); base = omega (arith, w.base); bases = all_more i d.bases w.bases }

pub start_within : Within 0 depth_start
start_within = record { here = omega arith; base = omega arith; bases = tt }

pub one_more : (tokens : List Token) (t : Token) (d e : Depths) → depth_steps depth_start tokens ≡ d → e ≡ depth_step d t.kind → depth_steps depth_start (tokens ++ t ∷ []) ≡ e
one_more tokens t d e h step = depths_append depth_start tokens (t ∷ []) ∙ ap (λ x. depth_steps x (t ∷ [])) h ∙ sym step
