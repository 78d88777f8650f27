-- The print of a rule that was read is read again.
use Rattle.std.proofs.Common.{◌≡◌, ℕ, ◌+◌, ◌≤◌, max, Bool, true, false, List, [], ◌∷◌, ◌++◌, length, refl, sym, subst, arith, append-nil}
use Rattle.std.proofs.lemmas.Bool.{false≢true}
use Rattle.rule_lang.specs.declared.token.Token.{Token}
use Rattle.rule_lang.specs.declared.matcher.Matcher.{Matcher}
use Rattle.rule_lang.specs.declared.matcher.Matcher.TheVariants.{Header, HeaderRegexp, Host, HostRegexp, Method, Path, PathPrefix, PathRegexp, Query, QueryRegexp, ClientIp}
use Rattle.rule_lang.specs.declared.print.Level.{Level}
use Rattle.rule_lang.specs.declared.print.Level.TheVariants as level
use Rattle.rule_lang.specs.Prints.{and_is_bare, or_is_bare, bracketed, print_at, rule_print, call_print}
use Rattle.rule_lang.specs.Matchers.{TakesCount}
use Rattle.rule_lang.specs.Trees.{Tree, call, negation, both, either}
use Rattle.rule_lang.specs.Grammar.{HasItsKey, IsReadable}
use Rattle.rule_lang.specs.Forms.{Form, called, negated, grouped, joined, chosen, Parses, parses_call, parses_not, parses_group, parses_and, parses_or, form_depth}
use Rattle.rule_lang.specs.Calls.{HasBoth}
use Rattle.rule_lang.specs.Reading.{Means, IsReadAs}
use Rattle.rule_lang.proofs.Printed.{operator, printed_call, printed}
use Rattle.rule_lang.proofs.Forming.{FormOf, form_call, form_not, form_group, form_and, form_or, form_after_blank, form_before_blank, whole_form}

-- ---- what was read is readable

its_key : (text : List ℕ) (m : Matcher) (values : List Token) (key value : List ℕ) → TakesCount m (length values) → HasBoth text m values key value → HasItsKey m key
its_key text Header values key value count has = tt
its_key text HeaderRegexp values key value count has = tt
its_key text QueryRegexp values key value count has = tt
its_key text Query values key value count has = tt
its_key text m [] key value count has = absurd has
its_key text Host (t ∷ []) key value count has = has.1
its_key text HostRegexp (t ∷ []) key value count has = has.1
its_key text Method (t ∷ []) key value count has = has.1
its_key text Path (t ∷ []) key value count has = has.1
its_key text PathPrefix (t ∷ []) key value count has = has.1
its_key text PathRegexp (t ∷ []) key value count has = has.1
its_key text ClientIp (t ∷ []) key value count has = has.1
its_key text Host (t ∷ u ∷ values) key value count has = absurd (omega arith)
its_key text HostRegexp (t ∷ u ∷ values) key value count has = absurd (omega arith)
its_key text Method (t ∷ u ∷ values) key value count has = absurd (omega arith)
its_key text Path (t ∷ u ∷ values) key value count has = absurd (omega arith)
its_key text PathPrefix (t ∷ u ∷ values) key value count has = absurd (omega arith)
its_key text PathRegexp (t ∷ u ∷ values) key value count has = absurd (omega arith)
its_key text ClientIp (t ∷ u ∷ values) key value count has = absurd (omega arith)

readable : (text : List ℕ) (f : Form) (r : Tree) → Means text f r → IsReadable r
readable text (called c) (call m k v) h = (its_key text m c.values k v h.takes_count h.has, h.takes_key, h.takes_value)
readable text (called c) r h = absurd h
readable text (negated f) (negation r) h = readable text f r h
readable text (negated f) r h = absurd h
readable text (grouped f) r h = readable text f r h
readable text (joined f g) (both r s) h = (readable text f r h.0, readable text g s h.1)
readable text (joined f g) r h = absurd h
readable text (chosen f g) (either r s) h = (readable text f r h.0, readable text g s h.1)
readable text (chosen f g) r h = absurd h

-- ---- the depth of a print

abbrev deeper : Bool → ℕ → ℕ
deeper true n = n
deeper false n = 1 + n

abbrev print_depth : Level → Tree → ℕ
print_depth at (call m k v) = 0
print_depth at (negation r) = 1 + print_depth level.Unary r
print_depth at (both r s) = deeper (and_is_bare at) (max (print_depth level.And r) (print_depth level.Unary s))
print_depth at (either r s) = deeper (or_is_bare at) (max (print_depth level.Or r) (print_depth level.And s))

deeper_bare : (b : Bool) (n : ℕ) → b ≡ true → deeper b n ≡ n
deeper_bare true n e = refl
deeper_bare false n e = absurd (false≢true e)

deeper_most : (b : Bool) (n : ℕ) → deeper b n ≤ 1 + n
deeper_most true n = omega arith
deeper_most false n = omega arith

one_group : (at : Level) (r : Tree) → print_depth at r ≤ 1 + print_depth level.Or r
one_group at (call m k v) = omega arith
one_group at (negation r) = omega arith
one_group at (both r s) = deeper_most (and_is_bare at) (max (print_depth level.And r) (print_depth level.Unary s))
one_group at (either r s) = deeper_most (or_is_bare at) (max (print_depth level.Or r) (print_depth level.And s))

-- no form of a rule has fewer
least : (text : List ℕ) (at : Level) (tokens : List Token) (f : Form) (r : Tree) → Parses at tokens f → Means text f r → print_depth at r ≤ form_depth f
least text at tokens f (call m k v) (parses_call _ _ c is) h = omega arith
least text at tokens f r (parses_call _ _ c is) h = absurd h
least text at tokens f (negation r) (parses_not _ mark inner g is p) h = let e = least text level.Unary inner g r p h in omega arith
least text at tokens f r (parses_not _ mark inner g is p) h = absurd h
least text at tokens f r (parses_group _ opening closing inner g is_open is_close p) h =
    let e = least text level.Or inner g r p h in
    let k = one_group at r in
    omega arith
least text at tokens f (both r s) (parses_and _ left right mark g x bare is p q) h =
    let d = least text level.And left g r p h.0 in
    let e = least text level.Unary right x s q h.1 in
    let k = deeper_bare (and_is_bare at) (max (print_depth level.And r) (print_depth level.Unary s)) bare in
    omega arith
least text at tokens f r (parses_and _ left right mark g x bare is p q) h = absurd h
least text at tokens f (either r s) (parses_or _ left right mark g x bare is p q) h =
    let d = least text level.Or left g r p h.0 in
    let e = least text level.And right x s q h.1 in
    let k = deeper_bare (or_is_bare at) (max (print_depth level.Or r) (print_depth level.And s)) bare in
    omega arith
least text at tokens f r (parses_or _ left right mark g x bare is p q) h = absurd h

-- ---- the form of a print

abbrev FormIs : Level → Tree → ℕ → List ℕ → Type 0
FormIs at r d text = FormOf at text r d

bare_and : (at : Level) (a b : Tree) (left right : List ℕ) (d e : ℕ) → and_is_bare at ≡ true → FormOf level.And left a d → FormOf level.Unary right b e
    → FormOf at (left ++ 32 ∷ 38 ∷ 38 ∷ 32 ∷ [] ++ right) (both a b) (max d e)
bare_and at a b left right d e bare l r =
    subst (FormIs at (both a b) (max d e)) (operator left right 38 38)
    (form_and at (left ++ 32 ∷ []) (32 ∷ right) a b d e bare (form_before_blank level.And 32 left a d refl l) (form_after_blank level.Unary 32 right b e refl r))

bare_or : (at : Level) (a b : Tree) (left right : List ℕ) (d e : ℕ) → or_is_bare at ≡ true → FormOf level.Or left a d → FormOf level.And right b e
    → FormOf at (left ++ 32 ∷ 124 ∷ 124 ∷ 32 ∷ [] ++ right) (either a b) (max d e)
bare_or at a b left right d e bare l r =
    subst (FormIs at (either a b) (max d e)) (operator left right 124 124)
    (form_or at (left ++ 32 ∷ []) (32 ∷ right) a b d e bare (form_before_blank level.Or 32 left a d refl l) (form_after_blank level.And 32 right b e refl r))

form_bracketed : (at : Level) (bare : Bool) (r : Tree) (text : List ℕ) (d : ℕ) → (bare ≡ true → FormOf at text r d) → FormOf level.Or text r d → FormOf at (bracketed bare text) r (deeper bare d)
form_bracketed at true r text d h k = subst (FormIs at r d) (sym (append-nil text)) (h refl)
form_bracketed at false r text d h k = form_group at text r d k

print_form : (at : Level) (rule : Tree) → IsReadable rule → FormOf at (print_at at rule) rule (print_depth at rule)
print_form at (call m k v) h = form_call at (call_print m k v) m k v (printed_call m k v h.0 h.1 h.2)
print_form at (negation r) h = form_not at (print_at level.Unary r) r (print_depth level.Unary r) (print_form level.Unary r h)
print_form at (both a b) h =
    let l = print_form level.And a h.0 in
    let r = print_form level.Unary b h.1 in
    form_bracketed at (and_is_bare at) (both a b) (print_at level.And a ++ 32 ∷ 38 ∷ 38 ∷ 32 ∷ [] ++ print_at level.Unary b) (max (print_depth level.And a) (print_depth level.Unary b))
    (λ bare. bare_and at a b (print_at level.And a) (print_at level.Unary b) (print_depth level.And a) (print_depth level.Unary b) bare l r)
    (bare_and level.Or a b (print_at level.And a) (print_at level.Unary b) (print_depth level.And a) (print_depth level.Unary b) refl l r)
print_form at (either a b) h =
    let l = print_form level.Or a h.0 in
    let r = print_form level.And b h.1 in
    form_bracketed at (or_is_bare at) (either a b) (print_at level.Or a ++ 32 ∷ 124 ∷ 124 ∷ 32 ∷ [] ++ print_at level.And b) (max (print_depth level.Or a) (print_depth level.And b))
    (λ bare. bare_or at a b (print_at level.Or a) (print_at level.And b) (print_depth level.Or a) (print_depth level.And b) bare l r)
    (bare_or level.Or a b (print_at level.Or a) (print_at level.And b) (print_depth level.Or a) (print_depth level.And b) refl l r)

pub read_again : (text : List ℕ) (rule : Tree) → IsReadAs text rule → length (rule_print rule) ≤ 4096 → IsReadAs (rule_print rule) rule
read_again text rule x short =
    let ok = readable text x.form rule x.means in
    let (tokens, are, parses) = x.has_form in
    let (form, has, means, depth) = whole_form (rule_print rule) rule (print_depth level.Or rule) (print_form level.Or rule ok) in
    let fewest = least text level.Or tokens x.form rule parses x.means in
    let shallow = x.shallow in
    record {
      form = form;
      short = short;
      has_form = has;
      shallow = omega arith;
      means = means;
      is_text = printed level.Or rule ok;
    }
