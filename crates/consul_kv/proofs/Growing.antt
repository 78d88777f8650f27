-- How a table grows out of paths that rise.
use Rattle.std.proofs.Common.{◌≡◌, ◌≢◌, ℕ, zero, suc, ◌+◌, ◌<◌, ◌≤◌, ◌==◌, ◌⊎◌, inl, inr, Bool, true, false, ◌&&◌, not, List, [], ◌∷◌, ◌++◌, length, take, drop, map, get_or, slice_index, refl, sym, ap, ap₂, ◌∙◌, subst, arith, Less, Equal, Ordering, nat_cmp, append-nil}
use Rattle.std.specs.List.{AllByRecursion, prefix_len, list_all}
use Rattle.std.specs.Ordering.{ordering_then, is_lt}
use Rattle.std.specs.Cmp.Lexicographic.{slice_cmp}
use Rattle.std.specs.List.Sorted.{IsStrictlySortedBy}
use Rattle.std.specs.Map.{keys_of}
use Rattle.std.proofs.lemmas.Bool.{false≢true, cases_Bool, cases_eq, eq-eqb, ne_eqb, lt-ltb, ltb-true, eqb-true, and_from, and_parts, cond-true, cond-false}
use Rattle.std.proofs.lemmas.Bool.Decides.{nat_tests}
use Rattle.std.proofs.lemmas.Cmp.{nat_list_cmp_total}
use Rattle.std.proofs.lemmas.List.{map-append, length-append, take-append-le, take_all}
use Rattle.std.proofs.lemmas.Grind.{flat_map-append}
use Rattle.std.proofs.lemmas.List.Folds.{list_all-append}
use Rattle.std.proofs.lemmas.Map.Made.{keys_of-map_values}
use Rattle.std.proofs.lemmas.Slice.Eq.{bytes_eq-Decides}
use Rattle.field_tree.specs.declared.tree.Tree.{Tree}
use Rattle.field_tree.specs.Table.{KeysRise}
use Rattle.consul_kv.specs.Keys.{Pair, rank, is_below}
use Rattle.consul_kv.specs.Leaves.{leaves, field_leaves, leaves_below, is_part, is_grown, keys_rise, fields_grown, under}
use Rattle.consul_kv.specs.Rises.{Leads, GoesBefore, Rises, first_part, slashed, cut, HasFirstPart, IsAhead, IsBranch}
use Rattle.consul_kv.proofs.Order.{rank_least, before_apart}

abbrev cmp : List ℕ → List ℕ → Ordering
cmp = slice_cmp nat_cmp

-- ---- first parts

pub part_slash : (x : ℕ) (xs : List ℕ) → x ≡ 47 → first_part (x ∷ xs) ≡ []
part_slash x xs e = cond-true (x == 47) [] (x ∷ first_part xs) (eq-eqb x 47 e)

pub part_other : (x : ℕ) (xs : List ℕ) → x ≢ 47 → first_part (x ∷ xs) ≡ x ∷ first_part xs
part_other x xs n = cond-false (x == 47) [] (x ∷ first_part xs) (ne_eqb x 47 n)

pub part_leads : (b : List ℕ) → Leads (first_part b) b
part_leads [] = tt
part_leads (y ∷ ys) = by (part_leads ys) (cases_eq y 47)
  where
    by : Leads (first_part ys) ys → (y ≡ 47) ⊎ (y ≢ 47) → Leads (first_part (y ∷ ys)) (y ∷ ys)
    by rest (inl e) = subst (λ (p : List ℕ). Leads p (y ∷ ys)) (sym (part_slash y ys e)) e
    by rest (inr n) = subst (λ (p : List ℕ). Leads p (y ∷ ys)) (sym (part_other y ys n)) (refl, rest)

-- a path is its first part, or goes on behind it with a slash
pub part_or_below : (b : List ℕ) → (b ≡ first_part b) ⊎ ((rest : List ℕ) × (b ≡ first_part b ++ 47 ∷ rest))
part_or_below [] = inl refl
part_or_below (y ∷ ys) = by (part_or_below ys) (cases_eq y 47)
  where
    longer : (y ≢ 47) → (ys ≡ first_part ys) ⊎ ((rest : List ℕ) × (ys ≡ first_part ys ++ 47 ∷ rest))
        → (y ∷ ys ≡ first_part (y ∷ ys)) ⊎ ((rest : List ℕ) × (y ∷ ys ≡ first_part (y ∷ ys) ++ 47 ∷ rest))
    longer n (inl e) = inl (ap (λ (l : List ℕ). y ∷ l) e ∙ sym (part_other y ys n))
    longer n (inr (rest, e)) = inr (rest, ap (λ (l : List ℕ). y ∷ l) e ∙ ap (λ (l : List ℕ). l ++ 47 ∷ rest) (sym (part_other y ys n)))

    by : (ys ≡ first_part ys) ⊎ ((rest : List ℕ) × (ys ≡ first_part ys ++ 47 ∷ rest)) → (y ≡ 47) ⊎ (y ≢ 47) → (y ∷ ys ≡ first_part (y ∷ ys)) ⊎ ((rest : List ℕ) × (y ∷ ys ≡ first_part (y ∷ ys) ++ 47 ∷ rest))
    by after (inl e) = inr (ys, ap (λ (h : ℕ). h ∷ ys) e ∙ ap (λ (l : List ℕ). l ++ 47 ∷ ys) (sym (part_slash y ys e)))
    by after (inr n) = longer n after

pub below_from : (p rest : List ℕ) → is_below p (p ++ 47 ∷ rest) ≡ true
below_from p rest =
    let long : length p < length (p ++ 47 ∷ rest) = omega (arith, length-append p (47 ∷ rest)) in
    let front : take (length p) (p ++ 47 ∷ rest) ≡ p = take-append-le (length p) p (47 ∷ rest) (omega arith) ∙ take_all (length p) p (omega arith) in
    let next : slice_index (p ++ 47 ∷ rest) (length p) ≡ 47 = get_or-behind p 47 rest in
    and_from _ _ (and_from _ _ (lt-ltb _ _ long) ((bytes_eq-Decides _ _).1 front)) (eq-eqb _ 47 next)
  where
    get_or-behind : (p : List ℕ) (x : ℕ) (rest : List ℕ) → get_or (p ++ x ∷ rest) (length p) 0 ≡ x
    get_or-behind [] x rest = refl
    get_or-behind (y ∷ p) x rest = get_or-behind p x rest

split_at : (n : ℕ) (b : List ℕ) → n < length b → b ≡ take n b ++ (get_or b n 0) ∷ drop (n + 1) b
split_at n [] h = absurd (omega (arith, h))
split_at zero (y ∷ b) h = let k : 1 ≡ 0 + 1 = omega arith in ap (λ (m : ℕ). y ∷ drop m (y ∷ b)) k
split_at (suc n) (y ∷ b) h =
    let k : suc (n + 1) ≡ suc n + 1 = omega arith in
    ap (λ (l : List ℕ). y ∷ l) (split_at n b (omega (arith, h))) ∙ ap (λ (m : ℕ). (y ∷ take n b) ++ (get_or b n 0) ∷ drop m (y ∷ b)) k

pub below_to : (p b : List ℕ) → is_below p b ≡ true → b ≡ p ++ 47 ∷ drop (length p + 1) b
below_to p b h =
    let two = and_parts _ _ h in
    let one = and_parts _ _ two.0 in
    let long : length p < length b = ltb-true _ _ one.0 in
    let front : take (length p) b ≡ p = (bytes_eq-Decides _ _).0 one.1 in
    let next : get_or b (length p) 0 ≡ 47 = eqb-true _ _ two.1 in
    split_at (length p) b long ∙ ap₂ (λ (l : List ℕ) (x : ℕ). l ++ x ∷ drop (length p + 1) b) front next

-- ---- the order of first parts

less_is : (x y : ℕ) → x < y → nat_cmp x y ≡ Less
less_is x y h = grind (arith, nat_tests)

equal_is : (x y : ℕ) → x ≡ y → nat_cmp x y ≡ Equal
equal_is x y h = grind (arith, nat_tests)

rank_less : (x y : ℕ) → x ≢ 47 → rank x < rank y → x < y
rank_less x y n h = grind (arith, nat_tests, n, h)

abbrev InOrder : List ℕ → List ℕ → Type 0
InOrder a b = (first_part a ≡ first_part b) ⊎ (cmp (first_part a) (first_part b) ≡ Less)

parts_in_order : (a b : List ℕ) → GoesBefore a b → InOrder a b
parts_in_order [] [] g = absurd g
parts_in_order [] (y ∷ ys) g = inr (ap (cmp []) (part_other y ys g))
parts_in_order (x ∷ xs) [] g = absurd g
parts_in_order (x ∷ xs) (y ∷ ys) (inl r) = by (cases_eq x 47)
  where
    other : y ≢ 47
    other = λ e. rank_least x y e r

    by : (x ≡ 47) ⊎ (x ≢ 47) → InOrder (x ∷ xs) (y ∷ ys)
    by (inl e) = inr (ap₂ cmp (part_slash x xs e) (part_other y ys other))
    by (inr n) = inr (ap₂ cmp (part_other x xs n) (part_other y ys other) ∙ ap (λ (o : Ordering). ordering_then o (cmp (first_part xs) (first_part ys))) (less_is x y (rank_less x y n r)))
parts_in_order (x ∷ xs) (y ∷ ys) (inr g) = by (cases_eq x 47) (parts_in_order xs ys g.1)
  where
    by : (x ≡ 47) ⊎ (x ≢ 47) → InOrder xs ys → InOrder (x ∷ xs) (y ∷ ys)
    by (inl e) h = inl (part_slash x xs e ∙ sym (part_slash y ys (sym g.0 ∙ e)))
    by (inr n) (inl h) = inl (part_other x xs n ∙ ap₂ (λ (a : ℕ) (l : List ℕ). a ∷ l) g.0 h ∙ sym (part_other y ys (λ e. n (g.0 ∙ e))))
    by (inr n) (inr h) = inr (ap₂ cmp (part_other x xs n) (part_other y ys (λ e. n (g.0 ∙ e)))
        ∙ ap (λ (o : Ordering). ordering_then o (cmp (first_part xs) (first_part ys))) (equal_is x y g.0) ∙ h)

less_or : (a b : List ℕ) → InOrder a b → (first_part a ≡ first_part b → ⊥) → cmp (first_part a) (first_part b) ≡ Less
less_or a b (inl e) n = absurd (n e)
less_or a b (inr h) n = h

-- behind a path without a slash, and behind the paths below a part
pub less_at_end : (a b : List ℕ) → GoesBefore a b → first_part a ≡ a → cmp (first_part a) (first_part b) ≡ Less
less_at_end a b g whole =
    less_or a b (parts_in_order a b g) (λ e. before_apart a b g (subst (λ (p : List ℕ). Leads p b) (sym e ∙ whole) (part_leads b)))

not_back : (a : List ℕ) → GoesBefore a (first_part a) → ⊥
not_back [] g = g
not_back (x ∷ xs) g = by (λ q. not_back xs q) (cases_eq x 47)
  where
    inside : (GoesBefore xs (first_part xs) → ⊥) → GoesBefore (x ∷ xs) (x ∷ first_part xs) → ⊥
    inside rest (inl r) = omega (arith, r)
    inside rest (inr q) = rest q.1

    by : (GoesBefore xs (first_part xs) → ⊥) → (x ≡ 47) ⊎ (x ≢ 47) → ⊥
    by rest (inl e) = subst (GoesBefore (x ∷ xs)) (part_slash x xs e) g
    by rest (inr n) = inside rest (subst (GoesBefore (x ∷ xs)) (part_other x xs n) g)

pub less_past : (a b : List ℕ) → GoesBefore a b → is_below (first_part a) b ≡ false → cmp (first_part a) (first_part b) ≡ Less
less_past a b g out = less_or a b (parts_in_order a b g) (λ e. by e (part_or_below b))
  where
    by : first_part a ≡ first_part b → (b ≡ first_part b) ⊎ ((rest : List ℕ) × (b ≡ first_part b ++ 47 ∷ rest)) → ⊥
    by e (inl w) = not_back a (subst (GoesBefore a) (w ∙ sym e) g)
    by e (inr (rest, w)) =
        let inside : is_below (first_part a) b ≡ true = ap (λ (l : List ℕ). is_below (first_part a) l) (w ∙ ap (λ (l : List ℕ). l ++ 47 ∷ rest) (sym e)) ∙ below_from (first_part a) rest in
        false≢true (sym out ∙ inside)

-- ---- what stands below a part

before_prefix : (p a b : List ℕ) → GoesBefore (p ++ a) (p ++ b) → GoesBefore a b
before_prefix [] a b g = g
before_prefix (x ∷ p) a b (inl r) = absurd (omega (arith, r))
before_prefix (x ∷ p) a b (inr q) = before_prefix p a b q.1

before_slash : (a b : List ℕ) → GoesBefore (47 ∷ a) (47 ∷ b) → GoesBefore a b
before_slash a b (inl r) = absurd (omega (arith, r))
before_slash a b (inr q) = q.1

cut_before : (p a b : List ℕ) → is_below p a ≡ true → is_below p b ≡ true → GoesBefore a b → GoesBefore (drop (length p + 1) a) (drop (length p + 1) b)
cut_before p a b h k g =
    let one = subst (λ (l : List ℕ). GoesBefore l b) (below_to p a h) g in
    let two = subst (λ (l : List ℕ). GoesBefore (p ++ 47 ∷ drop (length p + 1) a) l) (below_to p b k) one in
    before_slash _ _ (before_prefix p _ _ two)

abbrev below_test : List ℕ → Pair → Bool
below_test p leaf = is_below p leaf.0

abbrev pub AllBelow : List ℕ → List Pair → Type 0
AllBelow p ps = AllByRecursion (λ (q : Pair). is_below p q.0 ≡ true) ps

cut_after : (p : List ℕ) (a : Pair) (ps : List Pair) → is_below p a.0 ≡ true → AllBelow p ps → AllByRecursion (λ (q : Pair). GoesBefore a.0 q.0) ps
    → AllByRecursion (λ (q : Pair). GoesBefore (drop (length p + 1) a.0) q.0) (map (cut (length p + 1)) ps)
cut_after p a [] h all g = tt
cut_after p a (b ∷ ps) h all g = (cut_before p a.0 b.0 h all.0 g.0, cut_after p a ps h all.1 g.1)

pub cut_rises : (p : List ℕ) (ps : List Pair) → AllBelow p ps → Rises ps → Rises (map (cut (length p + 1)) ps)
cut_rises p [] all r = tt
cut_rises p (a ∷ ps) all r = (cut_after p a ps all.0 all.1 r.0, cut_rises p ps all.1 r.1)

pub all_taken : (p : List ℕ) (ps : List Pair) → AllBelow p (take (prefix_len (below_test p) ps) ps)
all_taken p [] = tt
all_taken p (a ∷ ps) = by (all_taken p ps) (cases_Bool (is_below p a.0))
  where
    by : AllBelow p (take (prefix_len (below_test p) ps) ps) → (is_below p a.0 ≡ true) ⊎ (is_below p a.0 ≡ false) → AllBelow p (take (prefix_len (below_test p) (a ∷ ps)) (a ∷ ps))
    by rest (inl e) =
        let n : prefix_len (below_test p) (a ∷ ps) ≡ suc (prefix_len (below_test p) ps) = cond-true (is_below p a.0) _ _ e ∙ omega arith in
        subst (λ (k : ℕ). AllBelow p (take k (a ∷ ps))) (sym n) (e, rest)
    by rest (inr e) = subst (λ (k : ℕ). AllBelow p (take k (a ∷ ps))) (sym (cond-false (is_below p a.0) _ _ e)) tt

all_take : {X : Type 0} (P : X → Type 0) (n : ℕ) (xs : List X) → AllByRecursion P xs → AllByRecursion P (take n xs)
all_take P zero xs h = tt
all_take P (suc n) [] h = tt
all_take P (suc n) (x ∷ xs) h = (h.0, all_take P n xs h.1)

pub rises_take : (n : ℕ) (ps : List Pair) → Rises ps → Rises (take n ps)
rises_take zero ps r = tt
rises_take (suc n) [] r = tt
rises_take (suc n) (p ∷ ps) r = (all_take (λ (q : Pair). GoesBefore p.0 q.0) n ps r.0, rises_take n ps r.1)

pub rises_drop : (n : ℕ) (ps : List Pair) → Rises ps → Rises (drop n ps)
rises_drop zero ps r = r
rises_drop (suc n) [] r = tt
rises_drop (suc n) (p ∷ ps) r = rises_drop n ps r.1

-- ---- the branch of the first path

pub ahead_at_end : (p : Pair) (ps : List Pair) → Rises (p ∷ ps) → first_part p.0 ≡ p.0 → IsAhead (first_part p.0 ∷ []) ps
ahead_at_end p [] r whole = tt
ahead_at_end p (q ∷ qs) r whole = (less_at_end p.0 q.0 r.0.0 whole, tt)

pub ahead_past : (p : Pair) (ps : List Pair) → AllByRecursion (λ (q : Pair). GoesBefore p.0 q.0) ps
    → IsAhead (first_part p.0 ∷ []) (drop (prefix_len (below_test (first_part p.0)) ps) ps)
ahead_past p [] all = tt
ahead_past p (q ∷ qs) all = by (ahead_past p qs all.1) (cases_Bool (is_below (first_part p.0) q.0))
  where
    by : IsAhead (first_part p.0 ∷ []) (drop (prefix_len (below_test (first_part p.0)) qs) qs) → (is_below (first_part p.0) q.0 ≡ true) ⊎ (is_below (first_part p.0) q.0 ≡ false)
        → IsAhead (first_part p.0 ∷ []) (drop (prefix_len (below_test (first_part p.0)) (q ∷ qs)) (q ∷ qs))
    by rest (inl e) =
        let n : prefix_len (below_test (first_part p.0)) (q ∷ qs) ≡ suc (prefix_len (below_test (first_part p.0)) qs) = cond-true (is_below (first_part p.0) q.0) _ _ e ∙ omega arith in
        subst (λ (k : ℕ). IsAhead (first_part p.0 ∷ []) (drop k (q ∷ qs))) (sym n) rest
    by rest (inr e) =
        subst (λ (k : ℕ). IsAhead (first_part p.0 ∷ []) (drop k (q ∷ qs))) (sym (cond-false (is_below (first_part p.0) q.0) _ _ e)) (less_past p.0 q.0 all.0 e, tt)

under_cut : (p : List ℕ) (leaf : Pair) → is_below p leaf.0 ≡ true → under p (slashed (cut (length p + 1) leaf)) ≡ slashed leaf
under_cut p leaf h = ap (λ (l : List ℕ). (47 ∷ l, leaf.1)) (sym (below_to p leaf.0 h))

pub under_all : (p : List ℕ) (ps : List Pair) → AllBelow p ps → map (under p) (map slashed (map (cut (length p + 1)) ps)) ≡ map slashed ps
under_all p [] all = refl
under_all p (a ∷ ps) all = ap₂ (λ (x : Pair) (l : List Pair). x ∷ l) (under_cut p a all.0) (under_all p ps all.1)

pub part_is_part : (b : List ℕ) → is_part (first_part b) ≡ true
part_is_part [] = refl
part_is_part (y ∷ ys) = by (part_is_part ys) (cases_eq y 47)
  where
    by : is_part (first_part ys) ≡ true → (y ≡ 47) ⊎ (y ≢ 47) → is_part (first_part (y ∷ ys)) ≡ true
    by rest (inl e) = ap is_part (part_slash y ys e)
    by rest (inr n) = ap is_part (part_other y ys n) ∙ and_from (not (y == 47)) (is_part (first_part ys)) (ap not (ne_eqb y 47 n)) rest

-- the code's way to the first part
pub part_by_len : (b : List ℕ) → take (prefix_len (λ x. not (x == 47)) b) b ≡ first_part b
part_by_len [] = refl
part_by_len (y ∷ ys) = by (part_by_len ys) (cases_eq y 47)
  where
    by : take (prefix_len (λ x. not (x == 47)) ys) ys ≡ first_part ys → (y ≡ 47) ⊎ (y ≢ 47) → take (prefix_len (λ x. not (x == 47)) (y ∷ ys)) (y ∷ ys) ≡ first_part (y ∷ ys)
    by rest (inl e) = ap (λ (k : ℕ). take k (y ∷ ys)) (cond-false (not (y == 47)) _ _ (ap not (eq-eqb y 47 e))) ∙ sym (part_slash y ys e)
    by rest (inr n) =
        let k : prefix_len (λ x. not (x == 47)) (y ∷ ys) ≡ suc (prefix_len (λ x. not (x == 47)) ys) = cond-true (not (y == 47)) _ _ (ap not (ne_eqb y 47 n)) ∙ omega arith in
        ap (λ (m : ℕ). take m (y ∷ ys)) k ∙ ap (λ (l : List ℕ). y ∷ l) rest ∙ sym (part_other y ys n)

-- ---- one branch more

all_snoc : {X : Type 0} (P : X → Type 0) (xs : List X) (y : X) → AllByRecursion P xs → P y → AllByRecursion P (xs ++ y ∷ [])
all_snoc P [] y h p = (p, tt)
all_snoc P (x ∷ xs) y h p = (h.0, all_snoc P xs y h.1 p)

keys_snoc : (fields : List (List ℕ × Tree)) (name : List ℕ) (tree : Tree) → keys_of (fields ++ (name, tree) ∷ []) ≡ keys_of fields ++ name ∷ []
keys_snoc [] name tree = refl
keys_snoc (f ∷ fields) name tree = ap (λ (l : List (List ℕ)). f.0 ∷ l) (keys_snoc fields name tree)

abbrev pub AllLess : List (List ℕ) → List ℕ → Type 0
AllLess keys name = AllByRecursion (λ (k : List ℕ). cmp k name ≡ Less) keys

sorted_snoc : (keys : List (List ℕ)) (name : List ℕ) → IsStrictlySortedBy cmp keys → AllLess keys name → IsStrictlySortedBy cmp (keys ++ name ∷ [])
unfolding IsStrictlySortedBy
sorted_snoc [] name h a = (tt, tt)
sorted_snoc (k ∷ keys) name h a = (all_snoc (λ (y : List ℕ). cmp k y ≡ Less) keys name h.0 a.0, sorted_snoc keys name h.1 a.1)

pub rise_snoc : (fields : List (List ℕ × Tree)) (name : List ℕ) (tree : Tree) → KeysRise fields → AllLess (keys_of fields) name → KeysRise (fields ++ (name, tree) ∷ [])
rise_snoc fields name tree h a = subst (IsStrictlySortedBy cmp) (sym (keys_snoc fields name tree)) (sorted_snoc (keys_of fields) name h a)

-- keys in order pass the test of it
all_above : (key : List ℕ) (keys : List (List ℕ)) → AllByRecursion (λ (k : List ℕ). cmp key k ≡ Less) keys → list_all (λ (k : List ℕ). is_lt (cmp key k)) keys ≡ true
all_above key [] h = refl
all_above key (k ∷ keys) h = and_from _ _ (ap is_lt h.0) (all_above key keys h.1)

rise_true : (keys : List (List ℕ)) → IsStrictlySortedBy cmp keys → keys_rise keys ≡ true
unfolding IsStrictlySortedBy
rise_true [] h = refl
rise_true (k ∷ keys) h = and_from _ _ (all_above k keys h.0) (rise_true keys h.1)

abbrev grown_field : List ℕ × Tree → List ℕ × Bool
grown_field f = (f.0, is_grown f.1)

-- fields whose keys rise, without a slash and with trees that have grown, are grown
abbrev each_grown : List (List ℕ × Tree) → Bool
each_grown fields = list_all (λ (f : List ℕ × Bool). is_part f.0 && f.1) (map grown_field fields)

grown_from : (fields : List (List ℕ × Tree)) → KeysRise fields → each_grown fields ≡ true → fields_grown fields ≡ true
grown_from fields h e = and_from _ _ (ap keys_rise (keys_of-map_values is_grown fields) ∙ rise_true (keys_of fields) h) e

grown_each : (fields : List (List ℕ × Tree)) → fields_grown fields ≡ true → each_grown fields ≡ true
grown_each fields h = (and_parts (keys_rise (keys_of (map grown_field fields))) (each_grown fields) h).1

all_chain : (keys : List (List ℕ)) (m n : List ℕ) → AllLess keys m → cmp m n ≡ Less → AllLess keys n
all_chain [] m n h l = tt
all_chain (k ∷ keys) m n h l = (nat_list_cmp_total.trans k m n h.0 l, all_chain keys m n h.1 l)

pub ahead_snoc : (keys : List (List ℕ)) (name : List ℕ) (ps : List Pair) → AllLess keys name → IsAhead (name ∷ []) ps → IsAhead (keys ++ name ∷ []) ps
ahead_snoc keys name [] a h = tt
ahead_snoc keys name (p ∷ ps) a h = all_snoc (λ (k : List ℕ). cmp k (first_part p.0) ≡ Less) keys name (all_chain keys name (first_part p.0) a h.0) h.0

pub ahead_is : (keys : List (List ℕ)) (name : List ℕ) (ps : List Pair) → HasFirstPart name ps → IsAhead keys ps → AllLess keys name
ahead_is keys name [] h a = absurd h
ahead_is keys name (p ∷ ps) h a = subst (AllLess keys) (sym h) a

abbrev none : List Pair
none = []

take_none : (n : ℕ) → none ≡ take n none
take_none zero = refl
take_none (suc n) = refl

drop_none : (n : ℕ) → none ≡ drop n none
drop_none zero = refl
drop_none (suc n) = refl

take_on : (m n : ℕ) (xs : List Pair) → take (m + n) xs ≡ take m xs ++ take n (drop m xs)
take_on zero n xs = let k : 0 + n ≡ n = omega arith in ap (λ (k : ℕ). take k xs) k
take_on (suc m) n [] = let k : suc m + n ≡ suc (m + n) = omega arith in ap (λ (k : ℕ). take k none) k ∙ take_none n
take_on (suc m) n (x ∷ xs) =
    let k : suc m + n ≡ suc (m + n) = omega arith in
    ap (λ (k : ℕ). take k (x ∷ xs)) k ∙ ap (λ (l : List Pair). x ∷ l) (take_on m n xs)

drop_on : (m n : ℕ) (xs : List Pair) → drop (m + n) xs ≡ drop n (drop m xs)
drop_on zero n xs = let k : 0 + n ≡ n = omega arith in ap (λ (k : ℕ). drop k xs) k
drop_on (suc m) n [] = let k : suc m + n ≡ suc (m + n) = omega arith in ap (λ (k : ℕ). drop k none) k ∙ drop_none n
drop_on (suc m) n (x ∷ xs) =
    let k : suc m + n ≡ suc (m + n) = omega arith in
    ap (λ (k : ℕ). drop k (x ∷ xs)) k ∙ drop_on m n xs

-- the fields of the paths before a place
pub record IsGrownUpto (paths : List Pair) (at : ℕ) (fields : List (List ℕ × Tree)) : Type 0 where
  pub within : at ≤ length paths
  pub texts : field_leaves fields ≡ map slashed (take at paths)
  pub grown : fields_grown fields ≡ true
  pub rising : KeysRise fields
  pub ahead : IsAhead (keys_of fields) (drop at paths)
  pub filled : 0 < at → 0 < length fields

pub branch_more : (paths : List Pair) (at : ℕ) (fields : List (List ℕ × Tree)) (name : List ℕ) (tree : Tree) (taken : ℕ)
    → IsGrownUpto paths at fields → IsBranch (drop at paths) name tree taken → IsGrownUpto paths (at + taken) (fields ++ (name, tree) ∷ [])
branch_more paths at fields name tree taken g b =
    let below = ahead_is (keys_of fields) name (drop at paths) b.named g.ahead in
    let long : length (drop at paths) + at ≡ length paths = rest_length at paths g.within in
    record {
      within = omega (arith, b.within, long);
      texts = ap leaves_below (map-append (λ (f : List ℕ × Tree). (f.0, leaves f.1)) fields ((name, tree) ∷ []))
          ∙ flat_map-append (λ (f : List ℕ × List Pair). map (under f.0) f.1) (map (λ (f : List ℕ × Tree). (f.0, leaves f.1)) fields) ((name, leaves tree) ∷ [])
          ∙ ap₂ (λ (x y : List Pair). x ++ y) g.texts (append-nil (map (under name) (leaves tree)) ∙ b.texts)
          ∙ sym (map-append slashed (take at paths) (take taken (drop at paths))) ∙ ap (map slashed) (sym (take_on at taken paths));
      grown = grown_from (fields ++ (name, tree) ∷ []) (rise_snoc fields name tree g.rising below)
          (ap (list_all (λ (f : List ℕ × Bool). is_part f.0 && f.1)) (map-append grown_field fields ((name, tree) ∷ []))
          ∙ list_all-append (λ (f : List ℕ × Bool). is_part f.0 && f.1) (map grown_field fields) ((name, is_grown tree) ∷ [])
          ∙ and_from _ _ (grown_each fields g.grown) (and_from _ _ (and_from _ _ b.part b.grown) refl));
      rising = rise_snoc fields name tree g.rising below;
      ahead = rw (keys_snoc fields name tree, drop_on at taken paths) (ahead_snoc (keys_of fields) name (drop taken (drop at paths)) below b.ahead);
      filled = λ h. omega (arith, length-append fields ((name, tree) ∷ []));
    }
  where
    rest_length : (n : ℕ) (xs : List Pair) → n ≤ length xs → length (drop n xs) + n ≡ length xs
    rest_length zero xs h = omega arith
    rest_length (suc n) [] h = absurd (omega (arith, h))
    rest_length (suc n) (x ∷ xs) h = let k = rest_length n xs (omega (arith, h)) in omega (arith, k)

-- ---- recursion ends

abbrev pub total : List Pair → ℕ
total [] = 0
total (p ∷ ps) = length p.0 + total ps

pub total_drop : (n : ℕ) (ps : List Pair) → total (drop n ps) ≤ total ps
total_drop zero ps = omega arith
total_drop (suc n) [] = omega arith
total_drop (suc n) (p ∷ ps) = let h = total_drop n ps in omega (arith, h)

pub total_take : (n : ℕ) (ps : List Pair) → total (take n ps) ≤ total ps
total_take zero ps = omega arith
total_take (suc n) [] = omega arith
total_take (suc n) (p ∷ ps) = let h = total_take n ps in omega (arith, h)

pub total_cut : (p : List ℕ) (ps : List Pair) → AllBelow p ps → total (map (cut (length p + 1)) ps) + length ps ≤ total ps
total_cut p [] all = omega arith
total_cut p (a ∷ ps) all =
    let more = total_cut p ps all.1 in
    let long : length p < length a.0 = ltb-true _ _ (and_parts _ _ (and_parts _ _ all.0).0).0 in
    let cut_len : length (drop (length p + 1) a.0) + (length p + 1) ≡ length a.0 = dropped (length p + 1) a.0 (omega (arith, long)) in
    omega (arith, more, long, cut_len)
  where
    dropped : (n : ℕ) (xs : List ℕ) → n ≤ length xs → length (drop n xs) + n ≡ length xs
    dropped zero xs h = omega arith
    dropped (suc n) [] h = absurd (omega (arith, h))
    dropped (suc n) (x ∷ xs) h = let k = dropped n xs (omega (arith, h)) in omega (arith, k)
