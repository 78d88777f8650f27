-- Lists of elements and of pairs.
use Rattle.std.proofs.Common.{◌≡◌, ℕ, zero, suc, ◌+◌, ◌<◌, ◌⊎◌, inl, inr, Bool, true, false, cond, List, [], ◌∷◌, ◌++◌, length, take, drop, map, get_or, Ok, refl, sym, ap, ap₂, ◌∙◌, subst, arith}
use Rattle.std.specs.List.{AllByRecursion, list_all, filter, prefix_len}
use Rattle.std.specs.List.Sorted.{IsPermutation, IsSortedBy}
use Rattle.std.specs.Ordering.{is_lt}
use Rattle.std.proofs.lemmas.Bool.{cases_Bool, and_parts, and_from, cond-true, cond-false}
use Rattle.std.proofs.lemmas.List.{get_or-map, length-map}
use Rattle.std.proofs.lemmas.List.Sorted.{All-permutation}
use Rattle.std.proofs.lemmas.List.Sums.{AllPass-from_list_all, list_all-from_AllPass}
use Rattle.std.proofs.lemmas.List.Elements.{filter-append}
use Rattle.serde_json.specs.Data.{Data}
use Rattle.serde_json.specs.View.{view}
use Rattle.serde_json.specs.declared.value.Value.{Value}
use Rattle.consul_kv.specs.declared.element.Pair.{Pair as Held}
use Rattle.consul_kv.specs.declared.grow.Leaf.{Leaf}
use Rattle.consul_kv.specs.Keys.{Pair, key_at, key_cmp, is_counted, is_below, counted, AreBelow, HasNoClash}
use Rattle.consul_kv.specs.Elements.{IsElementRead, ArePairsOf}
use Rattle.consul_kv.specs.Pairs.{pair_view}
use Rattle.consul_kv.specs.Sorted.{AreKeysSorted}
use Rattle.consul_kv.specs.Reply.{behind}
use Rattle.consul_kv.specs.Rises.{GoesBefore, Rises, slashed, cut}
use Rattle.consul_kv.specs.Grown.{paths_of}
use Rattle.consul_kv.proofs.Order.{Upto, apart, before_trans}
use Rattle.consul_kv.proofs.Growing.{AllBelow, below_to}
use Rattle.consul_kv.proofs.Clashing.{next_upto, leads_from}

pub pairs_snoc : (ds : List Data) (d : Data) (all : List Pair) (p : Pair) → ArePairsOf ds all → IsElementRead d (Ok p) → ArePairsOf (ds ++ d ∷ []) (all ++ p ∷ [])
pairs_snoc [] d [] p h e = (e, tt)
pairs_snoc [] d (q ∷ all) p h e = absurd h
pairs_snoc (c ∷ ds) d [] p h e = absurd h
pairs_snoc (c ∷ ds) d (q ∷ all) p h e = (h.0, pairs_snoc ds d all p h.1 e)

take_one : (es : List Value) (i : ℕ) (e : Value) → i < length es → e ≡ get_or es i e → take (i + 1) (map view es) ≡ take i (map view es) ++ view e ∷ []
take_one [] i e l h = absurd (omega (arith, l))
take_one (c ∷ es) zero e l h =
    let k : 0 + 1 ≡ 1 = omega arith in
    ap (λ (n : ℕ). take n (map view (c ∷ es))) k ∙ ap (λ (v : Value). view v ∷ []) (sym h)
take_one (c ∷ es) (suc i) e l h =
    let k : suc i + 1 ≡ suc (i + 1) = omega arith in
    ap (λ (n : ℕ). take n (map view (c ∷ es))) k ∙ ap (λ (ds : List Data). view c ∷ ds) (take_one es i e (omega (arith, l)) h)

-- one element more
pub pairs_more : (root : List ℕ) (es : List Value) (i : ℕ) (e : Value) (before after : List Pair) → i < length es → e ≡ get_or es i e
    → ((all : List Pair) × ArePairsOf (take i (map view es)) all × (before ≡ counted root all))
    → ((pair : Pair) × IsElementRead (view e) (Ok pair) × (after ≡ before ++ counted root (pair ∷ [])))
    → (all : List Pair) × ArePairsOf (take (i + 1) (map view es)) all × (after ≡ counted root all)
pairs_more root es i e before after l h (all, had, same) (pair, one, grown) = (
  all ++ pair ∷ [],
  subst (λ (ds : List Data). ArePairsOf ds (all ++ pair ∷ [])) (sym (take_one es i e l h)) (pairs_snoc (take i (map view es)) (view e) all pair had one),
  grown ∙ ap (λ (ps : List Pair). ps ++ counted root (pair ∷ [])) same ∙ sym (filter-append (λ (q : Pair). is_counted root q.0) all (pair ∷ [])),
)

-- ---- the pairs that count

filter_passes : (f : Pair → Bool) (all : List Pair) → list_all f (filter f all) ≡ true
filter_passes f [] = refl
filter_passes f (q ∷ all) = by (filter_passes f all) (cases_Bool (f q))
  where
    by : list_all f (filter f all) ≡ true → (f q ≡ true) ⊎ (f q ≡ false) → list_all f (filter f (q ∷ all)) ≡ true
    by rest (inl h) = ap (list_all f) (cond-true (f q) (q ∷ filter f all) (filter f all) h) ∙ and_from (f q) _ h rest
    by rest (inr h) = ap (list_all f) (cond-false (f q) (q ∷ filter f all) (filter f all) h) ∙ rest

pub counted_below : (root : List ℕ) (all : List Pair) → AreBelow root (counted root all)
counted_below root all = filter_passes (λ (q : Pair). is_counted root q.0) all

pub below_moved : (root : List ℕ) (xs ys : List Pair) → IsPermutation xs ys → AreBelow root xs → AreBelow root ys
below_moved root xs ys moved h =
    let p : Pair → Bool = λ q. is_counted root q.0 in
    list_all-from_AllPass p ys (All-permutation (λ x. p x ≡ true) xs ys moved (AllPass-from_list_all p xs h))

pub all_below : (root : List ℕ) (ps : List Pair) → AreBelow root ps → AllBelow root ps
all_below root [] h = tt
all_below root (p ∷ ps) h = let two = and_parts (is_counted root p.0) _ h in ((and_parts (is_below root p.0) _ two.0).0, all_below root ps two.1)

slashed_cut : (root : List ℕ) (p : Pair) → is_below root p.0 ≡ true → slashed (cut (length root + 1) p) ≡ behind root p
slashed_cut root p h = ap (λ (l : List ℕ). (l, p.1)) (sym (dropped root (drop (length root + 1) p.0) p.0 (below_to root p.0 h)))
  where
    behind_it : (r t : List ℕ) → drop (length r) (r ++ t) ≡ t
    behind_it [] t = refl
    behind_it (x ∷ r) t = behind_it r t

    dropped : (r t key : List ℕ) → key ≡ r ++ 47 ∷ t → drop (length r) key ≡ 47 ∷ t
    dropped r t key e = ap (drop (length r)) e ∙ behind_it r (47 ∷ t)

pub slashed_all : (root : List ℕ) (ps : List Pair) → AllBelow root ps → map slashed (map (cut (length root + 1)) ps) ≡ map (behind root) ps
slashed_all root [] all = refl
slashed_all root (p ∷ ps) all = ap₂ (λ (x : Pair) (l : List Pair). x ∷ l) (slashed_cut root p all.0) (slashed_all root ps all.1)

-- ---- keys in order, none of which clashes

all_after : (a b : List ℕ) (ps : List Pair) → GoesBefore a b → AllByRecursion (λ (q : Pair). GoesBefore b q.0) ps → AllByRecursion (λ (q : Pair). GoesBefore a q.0) ps
all_after a b [] g all = tt
all_after a b (p ∷ ps) g all = (before_trans a b p.0 g all.0, all_after a b ps g all.1)

rises_from_steps : (ps : List Pair) → ((k : ℕ) → suc k < length ps → GoesBefore (key_at ps k) (key_at ps (suc k))) → Rises ps
rises_from_steps [] steps = tt
rises_from_steps (p ∷ []) steps = (tt, tt)
rises_from_steps (p ∷ q ∷ ps) steps =
    let rest = rises_from_steps (q ∷ ps) (λ k h. steps (suc k) (omega (arith, h))) in
    let first : GoesBefore p.0 q.0 = steps 0 (omega arith) in
    ((first, all_after p.0 q.0 ps first rest.0), rest)

stepped : (ps : List Pair) (k : ℕ) → AreKeysSorted ps → suc k < length ps → Upto (key_at ps k) (key_at ps (suc k))
stepped ps k sorted h =
    let next : k + 1 ≡ suc k = omega arith in
    subst (λ (n : ℕ). Upto (key_at ps k) (key_at ps n)) next (next_upto ps k sorted (omega (arith, h)))

pub rises_sorted : (root : List ℕ) (ps : List Pair) → AreKeysSorted ps → HasNoClash root ps → Rises ps
rises_sorted root ps sorted none = rises_from_steps ps (λ k h.
    apart (key_at ps k) (key_at ps (suc k)) (stepped ps k sorted h)
    (λ l. none k (omega (arith, h), inr (suc k, h, (λ e. omega (arith, e)), leads_from _ _ l))))

abbrev HeldSorted : List Held → Type 0
HeldSorted ps = IsSortedBy (λ (a b : Held). is_lt (key_cmp a.key.now b.key.now)) ps

pub sorted_viewed : (ps : List Held) → HeldSorted ps → AreKeysSorted (map pair_view ps)
sorted_viewed [] h = λ k d l m. absurd (omega (arith, m))
sorted_viewed (p ∷ ps) h = λ k d l m.
    let inside : k + 1 < length (p ∷ ps) = omega (arith, m, length-map (p ∷ ps) pair_view) in
    let at : get_or (map pair_view (p ∷ ps)) k d ≡ pair_view (get_or (p ∷ ps) k p) = get_or-map pair_view (p ∷ ps) k p d (omega (arith, inside)) in
    let next : get_or (map pair_view (p ∷ ps)) (k + 1) d ≡ pair_view (get_or (p ∷ ps) (k + 1) p) = get_or-map pair_view (p ∷ ps) (k + 1) p d inside in
    rw (at, next) (h k p l inside)

-- ---- leaves

pub count_is : (p : List ℕ) (ls : List Leaf) → prefix_len (λ (l : Leaf). is_below p l.path.now) ls ≡ prefix_len (λ (q : Pair). is_below p q.0) (paths_of ls)
count_is p [] = refl
count_is p (l ∷ ls) = ap (λ (n : ℕ). cond (is_below p l.path.now) (1 + n) 0) (count_is p ls)
