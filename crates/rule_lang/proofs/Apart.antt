-- A text has one outcome.
use Rattle.std.proofs.Common.{◌≡◌, ℕ, ◌+◌, ◌<◌, ◌≤◌, ◌⊎◌, inl, inr, Some, List, [], ◌∷◌, ◌++◌, length, refl, sym, ap, ap₂, ◌∙◌, subst, arith, append_assoc, append-nil, find, Result, Ok, Err}
use Rattle.std.proofs.lemmas.Slice.Eq.{bytes_eq-Decides}
use Rattle.std.specs.List.{AllByRecursion}
use Rattle.std.specs.Str.{str_to_ascii_lowercase, bytes_eq}
use Rattle.rule_lang.specs.declared.token.Token.{Token}
use Rattle.rule_lang.specs.declared.token.TokenKind.{TokenKind}
use Rattle.rule_lang.specs.declared.matcher.Matcher.{Matcher}
use Rattle.rule_lang.specs.declared.matcher.Matcher.TheVariants.{Header, Query}
use Rattle.rule_lang.specs.declared.read.RuleFault.{RuleFault}
use Rattle.rule_lang.specs.declared.read.RuleFault.TheVariants as fault
use Rattle.rule_lang.specs.declared.call.CallFault.{CallFault}
use Rattle.rule_lang.specs.declared.call.CallFault.TheVariants as call_fault
use Rattle.rule_lang.specs.Tokens.{AreBlank, Lexes, AreTokens, IsFaultAt, FailsAt}
use Rattle.rule_lang.specs.Matchers.{IsNamed, name_of_matcher, matchers, first_named, TakesCount, TakesKey, TakesValue}
use Rattle.rule_lang.specs.Trees.{Tree, call, negation, both, either}
use Rattle.rule_lang.specs.Forms.{CallTokens, Form, called, negated, grouped, joined, chosen, IsRule, BeginsRule, form_depth, form_calls}
use Rattle.rule_lang.specs.Calls.{token_text, HasOne, HasBoth, CallMeans, IsGoodCall, IsCallFault, HasBadValue, IsRefusal, first_start, last_start}
use Rattle.rule_lang.specs.Faults.{IsUnexpected, FirstCallFault}
use Rattle.rule_lang.specs.Reading.{Means, HasCallFault, IsOutcome, WantsMemory}
use Rattle.rule_lang.proofs.Quotes.{all-append}
use Rattle.rule_lang.proofs.Texts.{all_right}
use Rattle.rule_lang.proofs.Building.{one_form}
use Rattle.rule_lang.proofs.Expecting.{begins_shorter}
use Rattle.rule_lang.proofs.Alone.{spelled_no_blank, blank_not, same_blanks, same_token, fault_not_spelled, same_fault, value_same, no_blank_of_fault}

-- ---- tokens

abbrev token_at : TokenKind → ℕ → ℕ → Token
token_at k s e = record { kind = k; start = s; end = e }

token_same : (t u : Token) → t.kind ≡ u.kind → t.start ≡ u.start → t.end ≡ u.end → t ≡ u
token_same t u k s e =
    let first : t ≡ record { kind = u.kind; start = t.start; end = t.end } = ap (λ x. token_at x t.start t.end) k in
    let second : token_at u.kind t.start t.end ≡ token_at u.kind u.start t.end = ap (λ x. token_at u.kind x t.end) s in
    let third : token_at u.kind u.start t.end ≡ u = ap (λ x. token_at u.kind u.start x) e in
    first ∙ second ∙ third

record TwoFronts (t u : Token) (ts us : List Token) (p q : ℕ) (a b : List ℕ) : Type 0 where
  rest : List ℕ
  same : t ≡ u
  first : Lexes t.end rest ts p a
  second : Lexes t.end rest us q b

two_fronts : (place : ℕ) (text : List ℕ) (t u : Token) (ts us : List Token) (p q : ℕ) (a b : List ℕ) → Lexes place text (t ∷ ts) p a → Lexes place text (u ∷ us) q b → TwoFronts t u ts us p q a b
two_fronts place text t u ts us p q a b (b1, s1, r1, blank1, is1, split1, starts1, ends1, more1) (b2, s2, r2, blank2, is2, split2, starts2, ends2, more2) =
    let (blanks, texts) = same_blanks b1 b2 (s1 ++ r1) (s2 ++ r2) blank1 blank2 (spelled_no_blank t.kind s1 r1 is1) (spelled_no_blank u.kind s2 r2 is2) (sym split1 ∙ split2) in
    let (kinds, spelled, rests) = same_token t.kind u.kind s1 s2 r1 r2 is1 is2 texts in
    let blanks_len = ap length blanks in
    let spelled_len = ap length spelled in
    let starts : t.start ≡ u.start = omega arith in
    let ends : t.end ≡ u.end = omega arith in
    record {
      rest = r1;
      same = token_same t u kinds starts ends;
      first = more1;
      second = subst (λ e. Lexes e r1 us q b) (sym ends) (subst (λ r. Lexes u.end r us q b) (sym rests) more2);
    }

blank_no_token : (place stop : ℕ) (text after : List ℕ) (t : Token) (ts : List Token) → AreBlank text → Lexes place text (t ∷ ts) stop after → ⊥
blank_no_token place stop text after t ts blank (b, s, r, blanks, is, split, starts, ends, more) =
    blank_not (s ++ r) (all_right _ b (s ++ r) (subst AreBlank split blank)) (spelled_no_blank t.kind s r is)

tokens_same_at : (ts us : List Token) (place p q : ℕ) (text a b : List ℕ) → Lexes place text ts p a → AreBlank a → Lexes place text us q b → AreBlank b → ts ≡ us
tokens_same_at [] [] place p q text a b l h m k = refl
tokens_same_at [] (u ∷ us) place p q text a b l h m k = absurd (blank_no_token place q text b u us (subst AreBlank (sym l.0) h) m)
tokens_same_at (t ∷ ts) [] place p q text a b l h m k = absurd (blank_no_token place p text a t ts (subst AreBlank (sym m.0) k) l)
tokens_same_at (t ∷ ts) (u ∷ us) place p q text a b l h m k =
    let x = two_fronts place text t u ts us p q a b l m in
    ap₂ ◌∷◌ x.same (tokens_same_at ts us t.end p q x.rest a b x.first h x.second k)

tokens_same : (text : List ℕ) (ts us : List Token) → AreTokens text ts → AreTokens text us → ts ≡ us
tokens_same text ts us x y = tokens_same_at ts us 0 x.stop y.stop text x.after y.after x.lexes x.blank y.lexes y.blank

front_not_fault : (place stop : ℕ) (text after blanks bad : List ℕ) (t : Token) (ts : List Token) (inner : ℕ) → Lexes place text (t ∷ ts) stop after → text ≡ blanks ++ bad → AreBlank blanks → IsFaultAt bad inner → ⊥
front_not_fault place stop text after blanks bad t ts inner (b, s, r, blank, is, split, starts, ends, more) e h f =
    let (same, rest) = same_blanks b blanks (s ++ r) bad blank h (spelled_no_blank t.kind s r is) (no_blank_of_fault bad inner f) (sym split ∙ e) in
    fault_not_spelled t.kind s r inner (subst (λ x. IsFaultAt x inner) (sym rest) f) is

tokens_no_fail : (ts us : List Token) (place p q : ℕ) (text a blanks bad : List ℕ) (inner : ℕ) → Lexes place text ts p a → AreBlank a → Lexes place text us q (blanks ++ bad) → AreBlank blanks → IsFaultAt bad inner → ⊥
tokens_no_fail [] [] place p q text a blanks bad inner l h m k f =
    blank_not bad (all_right _ blanks bad (subst AreBlank (sym l.0 ∙ m.0) h)) (no_blank_of_fault bad inner f)
tokens_no_fail [] (u ∷ us) place p q text a blanks bad inner l h m k f = blank_no_token place q text (blanks ++ bad) u us (subst AreBlank (sym l.0) h) m
tokens_no_fail (t ∷ ts) [] place p q text a blanks bad inner l h m k f = front_not_fault place p text a blanks bad t ts inner l m.0 k f
tokens_no_fail (t ∷ ts) (u ∷ us) place p q text a blanks bad inner l h m k f =
    let x = two_fronts place text t u ts us p q a (blanks ++ bad) l m in
    tokens_no_fail ts us t.end p q x.rest a blanks bad inner x.first h x.second k f

fails_same_at : (ts us : List Token) (place p q : ℕ) (text b1 x1 b2 x2 : List ℕ) (i j : ℕ) → Lexes place text ts p (b1 ++ x1) → AreBlank b1 → IsFaultAt x1 i → Lexes place text us q (b2 ++ x2) → AreBlank b2 → IsFaultAt x2 j
    → p + length b1 + i ≡ q + length b2 + j
fails_same_at [] [] place p q text b1 x1 b2 x2 i j l h f m k g =
    let (same, rest) = same_blanks b1 b2 x1 x2 h k (no_blank_of_fault x1 i f) (no_blank_of_fault x2 j g) (sym l.0 ∙ m.0) in
    let inner = same_fault x1 i j f (subst (λ x. IsFaultAt x j) (sym rest) g) in
    let at = l.1 in
    let to = m.1 in
    let len = ap length same in
    omega arith
fails_same_at [] (u ∷ us) place p q text b1 x1 b2 x2 i j l h f m k g = absurd (front_not_fault place q text (b2 ++ x2) b1 x1 u us i m l.0 h f)
fails_same_at (t ∷ ts) [] place p q text b1 x1 b2 x2 i j l h f m k g = absurd (front_not_fault place p text (b1 ++ x1) b2 x2 t ts j l m.0 k g)
fails_same_at (t ∷ ts) (u ∷ us) place p q text b1 x1 b2 x2 i j l h f m k g =
    let x = two_fronts place text t u ts us p q (b1 ++ x1) (b2 ++ x2) l m in
    fails_same_at ts us t.end p q x.rest b1 x1 b2 x2 i j x.first h f x.second k g

fails_same : (text : List ℕ) (p q : ℕ) → FailsAt text p → FailsAt text q → p ≡ q
fails_same text p q f g =
    f.place_is ∙ fails_same_at f.tokens g.tokens 0 f.stop g.stop text f.blanks f.bad g.blanks g.bad f.inner g.inner f.lexes f.blank f.fault g.lexes g.blank g.fault ∙ sym g.place_is

-- ---- the first unexpected token

-- two places in one list
abbrev SamePlace : {X : Type 0} → List X → X → List X → X → Type 0
SamePlace {X} a x b y = ((a ≡ b) × (x ≡ y)) ⊎ ((((m : List X) × (b ≡ a ++ x ∷ m))) ⊎ ((m : List X) × (a ≡ b ++ y ∷ m)))

same_place : {X : Type 0} (a b : List X) (x y : X) (r s : List X) → a ++ x ∷ r ≡ b ++ y ∷ s → SamePlace a x b y
same_place [] [] x y r s e = inl (refl, cc)
same_place [] (d ∷ b) x y r s e = inr (inl (b, ap (λ z. z ∷ b) (let h : d ≡ x = cc in h)))
same_place (c ∷ a) [] x y r s e = inr (inr (a, ap (λ z. z ∷ a) (let h : c ≡ y = cc in h)))
same_place {X} (c ∷ a) (d ∷ b) x y r s e = more (same_place a b x y r s (let t : a ++ x ∷ r ≡ b ++ y ∷ s = cc in t))
  where
    here : c ≡ d
    here = cc

    more : SamePlace a x b y → SamePlace (c ∷ a) x (d ∷ b) y
    more (inl (same, is)) = inl (ap₂ ◌∷◌ here same, is)
    more (inr (inl (m, is))) = inr (inl (m, ap₂ ◌∷◌ (sym here) is))
    more (inr (inr (m, is))) = inr (inr (m, ap₂ ◌∷◌ here is))

begins_front : (tokens front rest : List Token) (t : Token) → tokens ≡ front ++ t ∷ rest → BeginsRule tokens → BeginsRule (front ++ t ∷ [])
begins_front tokens front rest t is b = begins_shorter (front ++ t ∷ []) rest (subst BeginsRule (is ∙ sym (append_assoc front (t ∷ []) rest)) b)

rule_begins : (tokens : List Token) (f : Form) → IsRule tokens f → BeginsRule tokens
rule_begins tokens f rule = ([], (f, subst (λ l. IsRule l f) (sym (append-nil tokens)) rule))

unexpected_no_rule : (len : ℕ) (tokens : List Token) (at : ℕ) (f : Form) → IsUnexpected len tokens at → IsRule tokens f → ⊥
unexpected_no_rule len tokens at f (inl u) rule = u.ends (begins_front tokens u.front u.rest u.token u.tokens_are (rule_begins tokens f rule))
unexpected_no_rule len tokens at f (inr (is, begins, none)) rule = none f rule

unexpected_same : (len : ℕ) (tokens : List Token) (p q : ℕ) → IsUnexpected len tokens p → IsUnexpected len tokens q → p ≡ q
unexpected_same len tokens p q (inl u) (inl v) = at_place (same_place u.front v.front u.token v.token u.rest v.rest (sym u.tokens_are ∙ v.tokens_are))
  where
    at_place : SamePlace u.front u.token v.front v.token → p ≡ q
    at_place (inl (same, is)) = u.place_is ∙ ap (λ t. t.start) is ∙ sym v.place_is
    at_place (inr (inl (m, is))) = absurd (u.ends (begins_front v.front u.front m u.token is v.begins))
    at_place (inr (inr (m, is))) = absurd (v.ends (begins_front u.front v.front m v.token is u.begins))
unexpected_same len tokens p q (inl u) (inr (is, begins, none)) = absurd (u.ends (begins_front tokens u.front u.rest u.token u.tokens_are begins))
unexpected_same len tokens p q (inr (is, begins, none)) (inl u) = absurd (u.ends (begins_front tokens u.front u.rest u.token u.tokens_are begins))
unexpected_same len tokens p q (inr (is, begins, none)) (inr (to, begins2, none2)) = is ∙ sym to

-- ---- calls

lower_is : (m : Matcher) (name : List ℕ) → IsNamed name m → str_to_ascii_lowercase name ≡ str_to_ascii_lowercase (name_of_matcher m)
lower_is m name h = (bytes_eq-Decides (str_to_ascii_lowercase name) (str_to_ascii_lowercase (name_of_matcher m))).0 h

first_is : (m : Matcher) (name : List ℕ) → str_to_ascii_lowercase name ≡ str_to_ascii_lowercase (name_of_matcher m) → first_named name ≡ Some m
first_is Header name e = ap (λ l. find (λ n. bytes_eq l (str_to_ascii_lowercase (name_of_matcher n))) matchers) e
first_is _ name e = ap (λ l. find (λ n. bytes_eq l (str_to_ascii_lowercase (name_of_matcher n))) matchers) e

named_same : (m n : Matcher) (name : List ℕ) → IsNamed name m → IsNamed name n → m ≡ n
named_same m n name h k = some_is m n (sym (first_is m name (lower_is m name h)) ∙ first_is n name (lower_is n name k))
  where
    some_is : (m n : Matcher) → Some m ≡ Some n → m ≡ n
    some_is m n e = cc

one_same : (text : List ℕ) (m : Matcher) (t : Token) (k v l w : List ℕ) → HasOne text m t k v → HasOne text m t l w → (k ≡ l) × (v ≡ w)
one_same text Query t k v l w h g = (value_same (token_text text t) k l h.0 g.0, h.1 ∙ sym g.1)
one_same text _ t k v l w h g = (h.1 ∙ sym g.1, value_same (token_text text t) v w h.0 g.0)

both_same : (text : List ℕ) (m : Matcher) (tokens : List Token) (k v l w : List ℕ) → HasBoth text m tokens k v → HasBoth text m tokens l w → (k ≡ l) × (v ≡ w)
both_same text m [] k v l w h g = absurd h
both_same text m (t ∷ []) k v l w h g = one_same text m t k v l w h g
both_same text m (t ∷ u ∷ []) k v l w h g = (value_same (token_text text t) k l h.0 g.0, value_same (token_text text u) v w h.1 g.1)
both_same text m (t ∷ u ∷ x ∷ more) k v l w h g = absurd h

call_same : (text : List ℕ) (c : CallTokens) (m n : Matcher) (k v l w : List ℕ) → CallMeans text c m k v → CallMeans text c n l w → call m k v ≡ call n l w
call_same text c m n k v l w x y =
    let same = named_same m n (token_text text c.name) x.is_named y.is_named in
    let (keys, values) = both_same text n c.values k v l w (subst (λ i. HasBoth text i c.values k v) same x.has) y.has in
    ap (λ i. call i k v) same ∙ ap₂ (call n) keys values

means_same : (text : List ℕ) (f : Form) (r s : Tree) → Means text f r → Means text f s → r ≡ s
means_same text (called c) (call m k v) (call n l w) h g = call_same text c m n k v l w h g
means_same text (called c) (call m k v) s h g = absurd g
means_same text (called c) r s h g = absurd h
means_same text (negated f) (negation r) (negation s) h g = ap negation (means_same text f r s h g)
means_same text (negated f) (negation r) s h g = absurd g
means_same text (negated f) r s h g = absurd h
means_same text (grouped f) r s h g = means_same text f r s h g
means_same text (joined f e) (both r s) (both x y) h g = ap₂ both (means_same text f r x h.0 g.0) (means_same text e s y h.1 g.1)
means_same text (joined f e) (both r s) x h g = absurd g
means_same text (joined f e) r s h g = absurd h
means_same text (chosen f e) (either r s) (either x y) h g = ap₂ either (means_same text f r x h.0 g.0) (means_same text e s y h.1 g.1)
means_same text (chosen f e) (either r s) x h g = absurd g
means_same text (chosen f e) r s h g = absurd h

bad_not_taken : (text : List ℕ) (c : CallTokens) (at : ℕ) (m : Matcher) (k v : List ℕ) → CallMeans text c m k v → HasBadValue text c at → ⊥
bad_not_taken text c at m k v x b =
    let same = named_same m b.matcher (token_text text c.name) x.is_named b.is_named in
    let (keys, values) = both_same text b.matcher c.values k v b.key b.value (subst (λ i. HasBoth text i c.values k v) same x.has) b.has in
    refused b.refused (subst (TakesKey b.matcher) keys (subst (λ i. TakesKey i k) same x.takes_key)) (subst (TakesValue b.matcher) values (subst (λ i. TakesValue i v) same x.takes_value))
  where
    refused : ((at ≡ first_start c.values) × (¬ (TakesKey b.matcher b.key))) ⊎ ((at ≡ last_start c.values) × TakesKey b.matcher b.key × (¬ (TakesValue b.matcher b.value)))
        → TakesKey b.matcher b.key → TakesValue b.matcher b.value → ⊥
    refused (inl (is, none)) tk tv = none tk
    refused (inr (is, key, none)) tk tv = none tv

-- a call fault that says something
abbrev IsTold : CallFault → Type 0
IsTold call_fault.Memory = ⊥
IsTold _ = Unit {0}

good_no_fault : (text : List ℕ) (c : CallTokens) (e : CallFault) → IsTold e → IsGoodCall text c → IsCallFault text c e → ⊥
good_no_fault text c call_fault.Memory told good f = told
good_no_fault text c (call_fault.UnknownMatcher at) told (m, (k, v, means)) (is, none) = none m means.is_named
good_no_fault text c (call_fault.Arity at) told (m, (k, v, means)) (is, (n, named, none)) =
    none (subst (λ i. TakesCount i (length c.values)) (named_same m n (token_text text c.name) means.is_named named) means.takes_count)
good_no_fault text c (call_fault.Value at) told (m, (k, v, means)) bad = bad_not_taken text c at m k v means bad

refusal_same : (m : Matcher) (k v : List ℕ) (first last p q : ℕ) → IsRefusal m k v first last (call_fault.Value p) → IsRefusal m k v first last (call_fault.Value q) → p ≡ q
refusal_same m k v first last p q (inl (is, none)) (inl (to, none2)) = is ∙ sym to
refusal_same m k v first last p q (inl (is, none)) (inr (to, key, none2)) = absurd (none key)
refusal_same m k v first last p q (inr (is, key, none)) (inl (to, none2)) = absurd (none2 key)
refusal_same m k v first last p q (inr (is, key, none)) (inr (to, key2, none2)) = is ∙ sym to

value_fault_same : (text : List ℕ) (c : CallTokens) (p q : ℕ) → HasBadValue text c p → HasBadValue text c q → p ≡ q
value_fault_same text c p q a b =
    let same = named_same a.matcher b.matcher (token_text text c.name) a.is_named b.is_named in
    let (keys, values) = both_same text b.matcher c.values a.key a.value b.key b.value (subst (λ i. HasBoth text i c.values a.key a.value) same a.has) b.has in
    let first = first_start c.values in
    let last = last_start c.values in
    refusal_same b.matcher b.key b.value first last p q
    (subst (λ v. IsRefusal b.matcher b.key v first last (call_fault.Value p)) values
    (subst (λ k. IsRefusal b.matcher k a.value first last (call_fault.Value p)) keys
    (subst (λ m. IsRefusal m a.key a.value first last (call_fault.Value p)) same a.refused)))
    b.refused

call_fault_same : (text : List ℕ) (c : CallTokens) (e f : CallFault) → IsTold e → IsTold f → IsCallFault text c e → IsCallFault text c f → e ≡ f
call_fault_same text c (call_fault.UnknownMatcher p) (call_fault.UnknownMatcher q) te tf x y = ap call_fault.UnknownMatcher (x.0 ∙ sym y.0)
call_fault_same text c (call_fault.UnknownMatcher p) (call_fault.Arity q) te tf (is, none) (to, (m, named, count)) = absurd (none m named)
call_fault_same text c (call_fault.UnknownMatcher p) (call_fault.Value q) te tf (is, none) y = absurd (none y.matcher y.is_named)
call_fault_same text c (call_fault.Arity p) (call_fault.UnknownMatcher q) te tf (to, (m, named, count)) (is, none) = absurd (none m named)
call_fault_same text c (call_fault.Arity p) (call_fault.Arity q) te tf x y = ap call_fault.Arity (x.0 ∙ sym y.0)
call_fault_same text c (call_fault.Arity p) (call_fault.Value q) te tf (is, (m, named, none)) y =
    absurd (none (subst (λ i. TakesCount i (length c.values)) (named_same y.matcher m (token_text text c.name) y.is_named named) y.takes_count))
call_fault_same text c (call_fault.Value p) (call_fault.UnknownMatcher q) te tf y (is, none) = absurd (none y.matcher y.is_named)
call_fault_same text c (call_fault.Value p) (call_fault.Arity q) te tf y (is, (m, named, none)) =
    absurd (none (subst (λ i. TakesCount i (length c.values)) (named_same y.matcher m (token_text text c.name) y.is_named named) y.takes_count))
call_fault_same text c (call_fault.Value p) (call_fault.Value q) te tf x y = ap call_fault.Value (value_fault_same text c p q x y)
call_fault_same text c call_fault.Memory f te tf x y = absurd te
call_fault_same text c e call_fault.Memory te tf x y = absurd tf

all_in : {X : Type 0} (P : X → Type 0) (a : List X) (x : X) (b : List X) → AllByRecursion P (a ++ x ∷ b) → P x
all_in P [] x b h = h.0
all_in P (y ∷ a) x b h = all_in P a x b h.1

first_fault_same : (text : List ℕ) (calls : List CallTokens) (e f : CallFault) → IsTold e → IsTold f → FirstCallFault text calls e → FirstCallFault text calls f → e ≡ f
first_fault_same text calls e f te tf x y = at_place (same_place x.good y.good x.bad y.bad x.others y.others (sym x.calls_are ∙ y.calls_are))
  where
    at_place : SamePlace x.good x.bad y.good y.bad → e ≡ f
    at_place (inl (same, is)) = call_fault_same text y.bad e f te tf (subst (λ c. IsCallFault text c e) is x.is_fault) y.is_fault
    at_place (inr (inl (m, is))) = absurd (good_no_fault text x.bad e te (all_in (IsGoodCall text) x.good x.bad m (subst (AllByRecursion (IsGoodCall text)) is y.are_good)) x.is_fault)
    at_place (inr (inr (m, is))) = absurd (good_no_fault text y.bad f tf (all_in (IsGoodCall text) y.good y.bad m (subst (AllByRecursion (IsGoodCall text)) is x.are_good)) y.is_fault)

means_good : (text : List ℕ) (f : Form) (r : Tree) → Means text f r → AllByRecursion (IsGoodCall text) (form_calls f)
means_good text (called c) (call m k v) h = ((m, (k, v, h)), tt)
means_good text (called c) r h = absurd h
means_good text (negated f) (negation r) h = means_good text f r h
means_good text (negated f) r h = absurd h
means_good text (grouped f) r h = means_good text f r h
means_good text (joined f g) (both r s) h = all-append (IsGoodCall text) (form_calls f) (form_calls g) (means_good text f r h.0) (means_good text g s h.1)
means_good text (joined f g) r h = absurd h
means_good text (chosen f g) (either r s) h = all-append (IsGoodCall text) (form_calls f) (form_calls g) (means_good text f r h.0) (means_good text g s h.1)
means_good text (chosen f g) r h = absurd h

means_no_fault : (text : List ℕ) (f : Form) (r : Tree) (e : CallFault) → IsTold e → Means text f r → FirstCallFault text (form_calls f) e → ⊥
means_no_fault text f r e told means x =
    good_no_fault text x.bad e told (all_in (IsGoodCall text) x.good x.bad x.others (subst (AllByRecursion (IsGoodCall text)) x.calls_are (means_good text f r means))) x.is_fault

-- ---- the outcome, a question at a time

abbrev Outcome : Type 0
Outcome = Result Tree RuleFault

abbrev told_of : CallFault → RuleFault
told_of (call_fault.UnknownMatcher at) = fault.UnknownMatcher at
told_of (call_fault.Arity at) = fault.Arity at
told_of (call_fault.Value at) = fault.Value at
told_of call_fault.Memory = fault.Memory

CallStage : List ℕ → Form → Outcome → Type 0
CallStage text f a =
    ((e : CallFault) × IsTold e × FirstCallFault text (form_calls f) e × (a ≡ Err (told_of e))) ⊎ ((r : Tree) × Means text f r × (a ≡ Ok r))

DepthStage : List ℕ → Form → Outcome → Type 0
DepthStage text f a = ((32 < form_depth f) × (a ≡ Err fault.TooDeep)) ⊎ ((form_depth f ≤ 32) × CallStage text f a)

TokenStage : List ℕ → List Token → Outcome → Type 0
TokenStage text tokens a =
    ((at : ℕ) × IsUnexpected (length text) tokens at × (a ≡ Err (fault.Unexpected at))) ⊎ ((f : Form) × IsRule tokens f × DepthStage text f a)

LexStage : List ℕ → Outcome → Type 0
LexStage text a = ((at : ℕ) × FailsAt text at × (a ≡ Err (fault.Lex at))) ⊎ ((tokens : List Token) × AreTokens text tokens × TokenStage text tokens a)

Stage : List ℕ → Outcome → Type 0
Stage text a = ((4096 < length text) × (a ≡ Err fault.TooLong)) ⊎ ((length text ≤ 4096) × LexStage text a)

call_stage_same : (text : List ℕ) (f : Form) (a b : Outcome) → CallStage text f a → CallStage text f b → a ≡ b
unfolding CallStage
call_stage_same text f a b (inl (e, te, x, is)) (inl (g, tg, y, to)) = is ∙ ap (λ z. Err (told_of z)) (first_fault_same text (form_calls f) e g te tg x y) ∙ sym to
call_stage_same text f a b (inl (e, te, x, is)) (inr (r, means, to)) = absurd (means_no_fault text f r e te means x)
call_stage_same text f a b (inr (r, means, is)) (inl (e, te, x, to)) = absurd (means_no_fault text f r e te means x)
call_stage_same text f a b (inr (r, means, is)) (inr (s, means2, to)) = is ∙ ap Ok (means_same text f r s means means2) ∙ sym to

depth_stage_same : (text : List ℕ) (f : Form) (a b : Outcome) → DepthStage text f a → DepthStage text f b → a ≡ b
unfolding DepthStage
depth_stage_same text f a b (inl (deep, is)) (inl (deep2, to)) = is ∙ sym to
depth_stage_same text f a b (inl (deep, is)) (inr (shallow, y)) = absurd (omega arith)
depth_stage_same text f a b (inr (shallow, x)) (inl (deep, to)) = absurd (omega arith)
depth_stage_same text f a b (inr (shallow, x)) (inr (shallow2, y)) = call_stage_same text f a b x y

token_stage_same : (text : List ℕ) (tokens : List Token) (a b : Outcome) → TokenStage text tokens a → TokenStage text tokens b → a ≡ b
unfolding TokenStage
token_stage_same text tokens a b (inl (p, u, is)) (inl (q, v, to)) = is ∙ ap (λ z. Err (fault.Unexpected z)) (unexpected_same (length text) tokens p q u v) ∙ sym to
token_stage_same text tokens a b (inl (p, u, is)) (inr (f, rule, y)) = absurd (unexpected_no_rule (length text) tokens p f u rule)
token_stage_same text tokens a b (inr (f, rule, x)) (inl (p, u, is)) = absurd (unexpected_no_rule (length text) tokens p f u rule)
token_stage_same text tokens a b (inr (f, rule, x)) (inr (g, rule2, y)) =
    depth_stage_same text g a b (subst (λ h. DepthStage text h a) (one_form tokens f g rule rule2) x) y

lex_stage_same : (text : List ℕ) (a b : Outcome) → LexStage text a → LexStage text b → a ≡ b
unfolding LexStage
lex_stage_same text a b (inl (p, x, is)) (inl (q, y, to)) = is ∙ ap (λ z. Err (fault.Lex z)) (fails_same text p q x y) ∙ sym to
lex_stage_same text a b (inl (p, x, is)) (inr (tokens, are, y)) =
    absurd (tokens_no_fail tokens x.tokens 0 are.stop x.stop text are.after x.blanks x.bad x.inner are.lexes are.blank x.lexes x.blank x.fault)
lex_stage_same text a b (inr (tokens, are, y)) (inl (p, x, is)) =
    absurd (tokens_no_fail tokens x.tokens 0 are.stop x.stop text are.after x.blanks x.bad x.inner are.lexes are.blank x.lexes x.blank x.fault)
lex_stage_same text a b (inr (tokens, are, x)) (inr (others, are2, y)) =
    token_stage_same text others a b (subst (λ l. TokenStage text l a) (tokens_same text tokens others are are2) x) y

stage_same : (text : List ℕ) (a b : Outcome) → Stage text a → Stage text b → a ≡ b
unfolding Stage
stage_same text a b (inl (long, is)) (inl (long2, to)) = is ∙ sym to
stage_same text a b (inl (long, is)) (inr (short, y)) = absurd (omega arith)
stage_same text a b (inr (short, x)) (inl (long, to)) = absurd (omega arith)
stage_same text a b (inr (short, x)) (inr (short2, y)) = lex_stage_same text a b x y

call_stage : (text : List ℕ) (e : CallFault) → IsTold e → length text ≤ 4096 → HasCallFault text e → Stage text (Err (told_of e))
unfolding Stage LexStage TokenStage DepthStage CallStage
call_stage text e told short (f, (tokens, are, rule), shallow, x) = inr (short, inr (tokens, are, inr (f, rule, inr (shallow, inl (e, told, x, refl)))))

stage_of : (text : List ℕ) (a : Outcome) → IsOutcome text a → ¬ (WantsMemory a) → Stage text a
unfolding Stage LexStage TokenStage DepthStage CallStage
stage_of text (Ok r) x memory = let (tokens, are, rule) = x.has_form in inr (x.short, inr (tokens, are, inr (x.form, rule, inr (x.shallow, inr (r, x.means, refl)))))
stage_of text (Err fault.TooLong) x memory = inl (x, refl)
stage_of text (Err (fault.Lex at)) x memory = inr (x.0, inl (at, x.1, refl))
stage_of text (Err (fault.Unexpected at)) (short, (tokens, are, u)) memory = inr (short, inr (tokens, are, inl (at, u, refl)))
stage_of text (Err fault.TooDeep) (short, (f, (tokens, are, rule), deep)) memory = inr (short, inr (tokens, are, inr (f, rule, inl (deep, refl))))
stage_of text (Err (fault.UnknownMatcher at)) x memory = call_stage text (call_fault.UnknownMatcher at) tt x.0 x.1
stage_of text (Err (fault.Arity at)) x memory = call_stage text (call_fault.Arity at) tt x.0 x.1
stage_of text (Err (fault.Value at)) x memory = call_stage text (call_fault.Value at) tt x.0 x.1
stage_of text (Err fault.Memory) x memory = absurd (memory refl)

pub outcome_same : (text : List ℕ) (a b : Outcome) → IsOutcome text a → IsOutcome text b → ¬ (WantsMemory a) → ¬ (WantsMemory b) → a ≡ b
outcome_same text a b x y mx my = stage_same text a b (stage_of text a x mx) (stage_of text b y my)
