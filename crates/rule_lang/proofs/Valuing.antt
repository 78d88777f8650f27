-- The values of tokens, and what is made of a call's.
use Rattle.std.proofs.Common.{◌≡◌, ℕ, ◌+◌, ◌-◌, ◌<◌, ◌≤◌, inl, inr, false, List, [], ◌∷◌, ◌++◌, length, take, drop, get_or, map, refl, sym, ap, ap₂, ◌∙◌, subst, arith, append_assoc, length-append, ne_eqb, drop_at, take_at, Result, Ok, Err, Some, IfOk, IfErr, OnOk}
use Rattle.std.specs.List.{AllByRecursion}
use Rattle.rule_lang.specs.declared.token.Token.{Token}
use Rattle.rule_lang.specs.declared.token.TokenKind.TheVariants as kind
use Rattle.rule_lang.specs.declared.matcher.Matcher.{Matcher}
use Rattle.rule_lang.specs.declared.matcher.Matcher.TheVariants.{Query}
use Rattle.rule_lang.specs.declared.rule.Leaf.{Leaf}
use Rattle.rule_lang.specs.declared.call.CallFault.{CallFault}
use Rattle.rule_lang.specs.declared.call.CallFault.TheVariants as fault
use Rattle.rule_lang.specs.Tokens.{Part, character, pair, parts_text, IsGoodPart, IsSpelled}
use Rattle.rule_lang.specs.Grammar.{part_character}
use Rattle.rule_lang.specs.Matchers.{IsNamed, TakesCount, TakesKey, TakesValue}
use Rattle.rule_lang.specs.Trees.{call}
use Rattle.rule_lang.specs.Forms.{CallTokens, IsValueToken}
use Rattle.rule_lang.specs.Calls.{token_text, HasValue, HasOne, HasBoth, IsRefusal, IsCallFault, first_start, last_start}
use Rattle.rule_lang.specs.Values.{Stands, StandsAsValue, unescaped, unquoted, body_of, token_value, one_tree, tree_at, IsLeafOf, IsRefusalOf, IsFaultOf}

-- ---- the value of a token

pub token_text_is : (text : List ℕ) (t : Token) (s : Stands text t) → token_text text t ≡ s.spelled
token_text_is text t s =
    let starts = s.starts in
    let ends = s.ends in
    let len : t.end - t.start ≡ length s.spelled = omega arith in
    ap₂ (λ n l. take n l) len (ap₂ (λ n l. drop n l) starts s.text_is ∙ drop_at s.before (s.spelled ++ s.after) (length s.before) refl)
    ∙ take_at s.spelled s.after (length s.spelled) refl

body_is : (text : List ℕ) (t : Token) (s : Stands text t) (open_ close_ : ℕ) (body : List ℕ) → s.spelled ≡ open_ ∷ (body ++ close_ ∷ []) → body_of text t ≡ body
body_is text t s open_ close_ body is =
    let starts = s.starts in
    let ends = s.ends in
    let spelled_len = ap length is in
    let inner_len = length-append body (close_ ∷ []) in
    let len : t.end - 1 - (t.start + 1) ≡ length body = omega arith in
    let front_len = length-append s.before (open_ ∷ []) in
    let at : t.start + 1 ≡ length (s.before ++ open_ ∷ []) = omega arith in
    let split : text ≡ (s.before ++ open_ ∷ []) ++ (body ++ (close_ ∷ s.after)) =
    s.text_is ∙ ap (λ p. s.before ++ (p ++ s.after)) is ∙ ap (λ r. s.before ++ open_ ∷ r) (append_assoc body (close_ ∷ []) s.after) ∙ sym (append_assoc s.before (open_ ∷ []) (body ++ close_ ∷ s.after)) in
    ap₂ (λ n l. take n l) len (ap₂ (λ n l. drop n l) at split ∙ drop_at (s.before ++ open_ ∷ []) (body ++ close_ ∷ s.after) (length (s.before ++ open_ ∷ [])) refl)
    ∙ take_at body (close_ ∷ s.after) (length body) refl

unescaped_parts : (parts : List Part) → AllByRecursion IsGoodPart parts → unescaped false (parts_text parts) ≡ map part_character parts
unescaped_parts [] good = refl
unescaped_parts (character c ∷ parts) good = rw (ne_eqb c 92 good.0.1) (ap (λ l. c ∷ l) (unescaped_parts parts good.1))
unescaped_parts (pair c ∷ parts) good = ap (λ l. c ∷ l) (unescaped_parts parts good.1)

pub stands_value : (text : List ℕ) (t : Token) → Stands text t → IsValueToken t → HasValue text t (token_value text t)
stands_value text t s (inl raw) =
    let (body, plain, is) = (let here : IsSpelled kind.Raw s.spelled s.after = subst (λ k. IsSpelled k s.spelled s.after) raw s.is_spelled in here) in
    let value_is : token_value text t ≡ body = ap (λ k. unquoted k (body_of text t)) raw ∙ body_is text t s 96 96 body is in
    subst (HasValue text t) (sym value_is) (inl (plain, token_text_is text t s ∙ is))
stands_value text t s (inr quoted) =
    let (parts, good, is) = (let here : IsSpelled kind.Quoted s.spelled s.after = subst (λ k. IsSpelled k s.spelled s.after) quoted s.is_spelled in here) in
    let value_is : token_value text t ≡ map part_character parts =
    ap (λ k. unquoted k (body_of text t)) quoted ∙ ap (unescaped false) (body_is text t s 34 34 (parts_text parts) is) ∙ unescaped_parts parts good in
    subst (HasValue text t) (sym value_is) (inr (parts, good, refl, token_text_is text t s ∙ is))

-- ---- one value, and two

has_one : (text : List ℕ) (n m : Matcher) (t : Token) (key value v : List ℕ) → HasValue text t v → call n key value ≡ one_tree m v → HasOne text m t key value
has_one text n Query t key value v has e =
    let key_is : v ≡ key = cc in
    let value_is : value ≡ [] = cc in
    (subst (HasValue text t) key_is has, value_is)
has_one text n _ t key value v has e =
    let value_is : v ≡ value = cc in
    let key_is : key ≡ [] = cc in
    (subst (HasValue text t) value_is has, key_is)

pub one_has : (text : List ℕ) (m : Matcher) (t : Token) (leaf : Leaf) (v : List ℕ) → StandsAsValue text t → v ≡ token_value text t
    → call leaf.matcher leaf.key leaf.value ≡ one_tree m v → HasBoth text m (t ∷ []) leaf.key leaf.value
one_has text m t leaf v stands v_is tree =
    has_one text leaf.matcher m t leaf.key leaf.value v (subst (HasValue text t) (sym v_is) (stands_value text t stands.0 stands.1)) tree

pub two_have : (text : List ℕ) (m : Matcher) (t u : Token) (key value : List ℕ) → StandsAsValue text t → StandsAsValue text u
    → key ≡ token_value text t → value ≡ token_value text u → HasBoth text m (t ∷ u ∷ []) key value
two_have text m t u key value st su key_is value_is =
    (subst (HasValue text t) (sym key_is) (stands_value text t st.0 st.1), subst (HasValue text u) (sym value_is) (stands_value text u su.0 su.1))

-- what the test of the values answers
pub refused_of : (text : List ℕ) (m n : Matcher) (tokens : List Token) (key value : List ℕ) (at to : ℕ) (r : Result Leaf CallFault) → n ≡ m → HasBoth text m tokens key value
    → at ≡ first_start tokens → to ≡ last_start tokens
    → IfErr r (IsRefusal n key value at to) → IfErr r (IsRefusalOf text m tokens)
refused_of text m n tokens key value at to (Ok l) same has first last refused = tt
refused_of text m n tokens key value at to (Err fault.Memory) same has first last refused = tt
refused_of text m n tokens key value at to (Err (fault.Value place)) same has first last refused = (
  key,
  value,
  has,
  subst (λ x. IsRefusal x key value (first_start tokens) (last_start tokens) (fault.Value place)) same
      (subst (λ a. IsRefusal n key value a (last_start tokens) (fault.Value place)) first
      (subst (λ b. IsRefusal n key value at b (fault.Value place)) last refused)),
)
refused_of text m n tokens key value at to (Err (fault.Arity place)) same has first last refused = absurd refused
refused_of text m n tokens key value at to (Err (fault.UnknownMatcher place)) same has first last refused = absurd refused

pub leaf_of_checked : (text : List ℕ) (m : Matcher) (tokens : List Token) (leaf : Leaf) (r : Result Leaf CallFault) → TakesCount m (length tokens) → leaf.matcher ≡ m
    → HasBoth text m tokens leaf.key leaf.value → call leaf.matcher leaf.key leaf.value ≡ tree_at (Some m) (map (token_value text) tokens)
    → IfOk r (λ l. l ≡ leaf) → OnOk r (TakesKey leaf.matcher leaf.key) → OnOk r (TakesValue leaf.matcher leaf.value) → IfOk r (IsLeafOf text m tokens)
leaf_of_checked text m tokens leaf (Err f) count same has tree is key value = tt
leaf_of_checked text m tokens leaf (Ok l) count same has tree is key value =
    subst (IsLeafOf text m tokens) (sym is) (record {
      takes_count = count;
      same = same;
      has = has;
      takes_key = subst (λ x. TakesKey x leaf.key) same key;
      takes_value = subst (λ x. TakesValue x leaf.value) same value;
      tree = tree;
    })

pub one_item : (xs : List Token) (d : Token) → 1 ≤ length xs → length xs < 2 → xs ≡ get_or xs 0 d ∷ []
one_item [] d some few = absurd (omega arith)
one_item (x ∷ []) d some few = refl
one_item (x ∷ y ∷ xs) d some few = absurd (omega arith)

pub two_items : (xs : List Token) (d : Token) → 2 ≤ length xs → length xs < 3 → xs ≡ get_or xs 0 d ∷ get_or xs 1 d ∷ []
two_items [] d some few = absurd (omega arith)
two_items (x ∷ []) d some few = absurd (omega arith)
two_items (x ∷ y ∷ []) d some few = refl
two_items (x ∷ y ∷ z ∷ xs) d some few = absurd (omega arith)

pub fault_of : (text : List ℕ) (name : ℕ) (m : Matcher) (values short : List Token) (r : Result Leaf CallFault) → values ≡ short → TakesCount m (length values)
    → IfErr r (IsRefusalOf text m short) → IfErr r (IsFaultOf text name m values)
fault_of text name m values short (Ok l) same count h = tt
fault_of text name m values short (Err fault.Memory) same count h = (count, tt)
fault_of text name m values short (Err (fault.Value place)) same count h = (count, subst (λ v. IsRefusalOf text m v (fault.Value place)) (sym same) h)
fault_of text name m values short (Err (fault.Arity place)) same count (key, value, has, never) = absurd never
fault_of text name m values short (Err (fault.UnknownMatcher place)) same count (key, value, has, never) = absurd never

pub call_fault : (text name_text : List ℕ) (c : CallTokens) (m : Matcher) (r : Result Leaf CallFault) → name_text ≡ token_text text c.name → IsNamed name_text m
    → IfErr r (IsFaultOf text c.name.start m c.values) → IfErr r (IsCallFault text c)
call_fault text name_text c m (Ok l) spelled named h = tt
call_fault text name_text c m (Err fault.Memory) spelled named h = tt
call_fault text name_text c m (Err (fault.Arity place)) spelled named h = (h.0, (m, subst (λ t. IsNamed t m) spelled named, h.1))
call_fault text name_text c m (Err (fault.Value place)) spelled named (count, (key, value, has, refusal)) = record {
  matcher = m;
  key = key;
  value = value;
  is_named = subst (λ t. IsNamed t m) spelled named;
  takes_count = count;
  has = has;
  refused = refusal;
}
call_fault text name_text c m (Err (fault.UnknownMatcher place)) spelled named (count, (key, value, has, never)) = absurd never
