-- Which keys clash, where they are in order.
use Rattle.std.proofs.Common.{◌≡◌, ℕ, zero, suc, ◌+◌, ◌-◌, ◌<◌, ◌≤◌, ◌⊎◌, inl, inr, Bool, true, false, List, [], ◌∷◌, length, Option, Some, None, refl, sym, ap, ◌∙◌, subst, arith, nat_cmp, Ordering, Less, Equal, Greater, bytes_eq, ◌++◌, map, get_or, option_map, MatchOption}
use denote.Ref.{Bor}
use Rattle.std.proofs.lemmas.List.{get_or-map}
use Rattle.consul_kv.specs.declared.element.Pair.{Pair as Held}
use Rattle.consul_kv.specs.Pairs.{pair_view}
use Rattle.std.specs.Ordering.{is_lt}
use Rattle.std.specs.Cmp.Lexicographic.{slice_cmp}
use Rattle.std.proofs.lemmas.Bool.{false≢true, cases_Bool, cases_order, or_cases, or_left, or_right, cond-true, cond-false}
use Rattle.std.proofs.lemmas.Cmp.{nat_list_cmp_total, tied_itself}
use Rattle.std.proofs.lemmas.Slice.Eq.{bytes_eq-Decides}
use Rattle.consul_kv.specs.Keys.{Pair, key_at, leads, is_below, IsClash, IsFirstClash, HasNoClash}
use Rattle.consul_kv.specs.Sorted.{AreKeysSorted, IsFound, lesser_of}
use Rattle.consul_kv.specs.Rises.{Leads}
use Rattle.consul_kv.proofs.Order.{Upto, convex, upto_trans, upto_self, leads_back, upto_from_cmp}
use Rattle.consul_kv.proofs.Growing.{below_to, below_from}

-- ---- leading, cut by cut

pub leads_self : (a : List ℕ) → Leads a a
leads_self [] = tt
leads_self (x ∷ xs) = (refl, leads_self xs)

leads_below : (p rest : List ℕ) → Leads p (p ++ 47 ∷ rest)
leads_below [] rest = refl
leads_below (x ∷ p) rest = (refl, leads_below p rest)

pub leads_to : (a b : List ℕ) → leads a b ≡ true → Leads a b
leads_to a b h = by (or_cases _ _ h)
  where
    by : (bytes_eq b a ≡ true) ⊎ (is_below a b ≡ true) → Leads a b
    by (inl e) = subst (Leads a) (sym ((bytes_eq-Decides b a).0 e)) (leads_self a)
    by (inr e) = subst (Leads a) (sym (below_to a b e)) (leads_below a _)

split_lead : (a b : List ℕ) → Leads a b → (b ≡ a) ⊎ ((rest : List ℕ) × (b ≡ a ++ 47 ∷ rest))
split_lead [] [] l = inl refl
split_lead [] (y ∷ ys) l = inr (ys, ap (λ (h : ℕ). h ∷ ys) l)
split_lead (x ∷ xs) [] l = absurd l
split_lead (x ∷ xs) (y ∷ ys) l = by (split_lead xs ys l.1)
  where
    by : (ys ≡ xs) ⊎ ((rest : List ℕ) × (ys ≡ xs ++ 47 ∷ rest)) → (y ∷ ys ≡ x ∷ xs) ⊎ ((rest : List ℕ) × (y ∷ ys ≡ (x ∷ xs) ++ 47 ∷ rest))
    by (inl e) = inl (ap (λ (h : ℕ). h ∷ ys) (sym l.0) ∙ ap (λ (t : List ℕ). x ∷ t) e)
    by (inr (rest, e)) = inr (rest, ap (λ (h : ℕ). h ∷ ys) (sym l.0) ∙ ap (λ (t : List ℕ). x ∷ t) e)

pub leads_from : (a b : List ℕ) → Leads a b → leads a b ≡ true
leads_from a b l = by (split_lead a b l)
  where
    by : (b ≡ a) ⊎ ((rest : List ℕ) × (b ≡ a ++ 47 ∷ rest)) → leads a b ≡ true
    by (inl e) = or_left _ _ ((bytes_eq-Decides b a).1 e)
    by (inr (rest, e)) = or_right _ _ (ap (is_below a) e ∙ below_from a rest)

-- ---- keys in order

pub next_upto : (pairs : List Pair) (k : ℕ) → AreKeysSorted pairs → k + 1 < length pairs → Upto (key_at pairs k) (key_at pairs (k + 1))
next_upto pairs k sorted h = upto_from_cmp _ _ (sorted k ([], []) (omega arith) h)

steps_upto : (pairs : List Pair) (i n : ℕ) → AreKeysSorted pairs → i + n < length pairs → Upto (key_at pairs i) (key_at pairs (i + n))
steps_upto pairs i zero sorted h = subst (λ (k : ℕ). Upto (key_at pairs i) (key_at pairs k)) (omega arith) (upto_self (key_at pairs i))
steps_upto pairs i (suc n) sorted h =
    let near = steps_upto pairs i n sorted (omega (arith, h)) in
    let one = next_upto pairs (i + n) sorted (omega (arith, h)) in
    let e : i + n + 1 ≡ i + suc n = omega arith in
    subst (λ (k : ℕ). Upto (key_at pairs i) (key_at pairs k)) e (upto_trans (key_at pairs i) (key_at pairs (i + n)) (key_at pairs (i + n + 1)) near one)

pub between_upto : (pairs : List Pair) (i j : ℕ) → AreKeysSorted pairs → i ≤ j → j < length pairs → Upto (key_at pairs i) (key_at pairs j)
between_upto pairs i j sorted h l =
    let e : i + (j - i) ≡ j = omega (arith, h) in
    subst (λ (k : ℕ). Upto (key_at pairs i) (key_at pairs k)) e (steps_upto pairs i (j - i) sorted (omega (arith, h, l)))

-- a key that leads to a later one leads to the next one
leads_next : (pairs : List Pair) (i j : ℕ) → AreKeysSorted pairs → i < j → j < length pairs → Leads (key_at pairs i) (key_at pairs j) → Leads (key_at pairs i) (key_at pairs (i + 1))
leads_next pairs i j sorted h l lead =
    convex (key_at pairs i) (key_at pairs (i + 1)) (key_at pairs j) (next_upto pairs i sorted (omega (arith, h, l))) (between_upto pairs (i + 1) j sorted (omega (arith, h)) l) lead

pub found_clashes : (root : List ℕ) (pairs : List Pair) (i : ℕ) → i < length pairs → IsFound root pairs i → IsClash root pairs i
found_clashes root pairs i h (inl e) = (h, inl e)
found_clashes root pairs i h (inr f) = (h, inr (i + 1, f.0, (λ e. omega (arith, e)), f.1))

-- a key that clashes is found, there or where it stands once more
pub clashes_found : (root : List ℕ) (pairs : List Pair) (k : ℕ) → AreKeysSorted pairs → IsClash root pairs k
    → (f : ℕ) × (f < length pairs) × IsFound root pairs f × (key_at pairs f ≡ key_at pairs k)
clashes_found root pairs k sorted (h, inl e) = (k, h, inl e, refl)
clashes_found root pairs k sorted (h, inr (j, l, apart, lead)) = by (cases_order k j)
  where
    A : ℕ → List ℕ
    A i = key_at pairs i

    by : (k ≡ j) ⊎ ((k < j) ⊎ (j < k)) → (f : ℕ) × (f < length pairs) × IsFound root pairs f × (key_at pairs f ≡ key_at pairs k)
    by (inl e) = absurd (apart (sym e))
    by (inr (inl s)) = (k, h, inr (omega (arith, s, l), leads_from _ _ (leads_next pairs k j sorted s l (leads_to _ _ lead))), refl)
    by (inr (inr s)) =
        let same : key_at pairs j ≡ key_at pairs k = leads_back (key_at pairs k) (key_at pairs j) (leads_to _ _ lead) (between_upto pairs j k sorted (omega (arith, s)) h) in
        let back : Leads (key_at pairs j) (key_at pairs k) = subst (Leads (key_at pairs j)) same (leads_self (key_at pairs j)) in
        (j, l, inr (omega (arith, s, h), leads_from _ _ (leads_next pairs j k sorted s h back)), same)

-- ---- the least

abbrev lt : List ℕ → List ℕ → Bool
lt a b = is_lt (slice_cmp nat_cmp a b)

less_from : (o : Ordering) → is_lt o ≡ true → o ≡ Less
less_from Less h = refl
less_from Equal h = absurd (false≢true h)
less_from Greater h = absurd (false≢true h)

lt_trans : (a b c : List ℕ) → lt a b ≡ true → lt b c ≡ true → lt a c ≡ true
lt_trans a b c h k = ap is_lt (nat_list_cmp_total.trans a b c (less_from _ h) (less_from _ k))

lt_self : (a : List ℕ) → lt a a ≡ false
lt_self a = ap is_lt (tied_itself nat_list_cmp_total a)

not_lt_below : (a b c : List ℕ) → lt a b ≡ false → lt c b ≡ true → lt a c ≡ false
not_lt_below a b c h k = by (cases_Bool (lt a c))
  where
    by : (lt a c ≡ true) ⊎ (lt a c ≡ false) → lt a c ≡ false
    by (inl e) = absurd (false≢true (sym h ∙ lt_trans a c b e k))
    by (inr e) = e

-- the least key among those found before a place
abbrev pub IsLeastFound : List ℕ → List Pair → ℕ → Option (List ℕ) → Type 0
IsLeastFound root pairs at None = (k : ℕ) → k < at → ¬ (IsFound root pairs k)
IsLeastFound root pairs at (Some key) = ((i : ℕ) × (i < at) × IsFound root pairs i × (key_at pairs i ≡ key))
    × ((k : ℕ) → k < at → IsFound root pairs k → is_lt (slice_cmp nat_cmp (key_at pairs k) key) ≡ false)

at_end : (at k : ℕ) → k < at + 1 → (k < at) ⊎ (k ≡ at)
at_end at k h = by (cases_order k at)
  where
    by : (k ≡ at) ⊎ ((k < at) ⊎ (at < k)) → (k < at) ⊎ (k ≡ at)
    by (inl e) = inr e
    by (inr (inl s)) = inl s
    by (inr (inr s)) = absurd (omega (arith, h, s))

pub least_passes : (root : List ℕ) (pairs : List Pair) (at : ℕ) (least : Option (List ℕ)) → IsLeastFound root pairs at least → ¬ (IsFound root pairs at) → IsLeastFound root pairs (at + 1) least
least_passes root pairs at None h n = λ k l f. by k f (at_end at k l)
  where
    by : (k : ℕ) → IsFound root pairs k → (k < at) ⊎ (k ≡ at) → ⊥
    by k f (inl s) = h k s f
    by k f (inr e) = n (subst (IsFound root pairs) e f)
least_passes root pairs at (Some key) h n = ((h.0.0, omega (arith, h.0.1), h.0.2, h.0.3), λ k l f. by k f (at_end at k l))
  where
    by : (k : ℕ) → IsFound root pairs k → (k < at) ⊎ (k ≡ at) → lt (key_at pairs k) key ≡ false
    by k f (inl s) = h.1 k s f
    by k f (inr e) = absurd (n (subst (IsFound root pairs) e f))

pub least_takes : (root : List ℕ) (pairs : List Pair) (at : ℕ) (least : Option (List ℕ)) → IsLeastFound root pairs at least → IsFound root pairs at
    → IsLeastFound root pairs (at + 1) (Some (lesser_of least (key_at pairs at)))
least_takes root pairs at None h f = ((at, omega arith, f, refl), λ k l g. by k g (at_end at k l))
  where
    by : (k : ℕ) → IsFound root pairs k → (k < at) ⊎ (k ≡ at) → lt (key_at pairs k) (key_at pairs at) ≡ false
    by k g (inl s) = absurd (h k s g)
    by k g (inr e) = ap (λ (i : ℕ). lt (key_at pairs i) (key_at pairs at)) e ∙ lt_self (key_at pairs at)
least_takes root pairs at (Some key) h f = by (cases_Bool (lt (key_at pairs at) key))
  where
    K : List ℕ
    K = key_at pairs at

    Goal : List ℕ → Type 0
    Goal l = IsLeastFound root pairs (at + 1) (Some l)

    here : lt (key_at pairs at) key ≡ true → (k : ℕ) → IsFound root pairs k → (k < at) ⊎ (k ≡ at) → lt (key_at pairs k) (key_at pairs at) ≡ false
    here e k g (inl s) = not_lt_below (key_at pairs k) key (key_at pairs at) (h.1 k s g) e
    here e k g (inr q) = ap (λ (i : ℕ). lt (key_at pairs i) (key_at pairs at)) q ∙ lt_self (key_at pairs at)

    there : lt (key_at pairs at) key ≡ false → (k : ℕ) → IsFound root pairs k → (k < at) ⊎ (k ≡ at) → lt (key_at pairs k) key ≡ false
    there e k g (inl s) = h.1 k s g
    there e k g (inr q) = ap (λ (i : ℕ). lt (key_at pairs i) key) q ∙ e

    by : (lt (key_at pairs at) key ≡ true) ⊎ (lt (key_at pairs at) key ≡ false) → IsLeastFound root pairs (at + 1) (Some (lesser_of (Some key) (key_at pairs at)))
    by (inl e) = subst Goal (sym (cond-true (lt (key_at pairs at) key) (key_at pairs at) key e)) ((at, omega arith, f, refl), λ k l g. here e k g (at_end at k l))
    by (inr e) = subst Goal (sym (cond-false (lt (key_at pairs at) key) (key_at pairs at) key e)) ((h.0.0, omega (arith, h.0.1), h.0.2, h.0.3), λ k l g. there e k g (at_end at k l))

pub least_of_all : (root : List ℕ) (pairs : List Pair) (key : List ℕ) → AreKeysSorted pairs → IsLeastFound root pairs (length pairs) (Some key) → IsFirstClash root pairs key
least_of_all root pairs key sorted h = (
  h.0.0,
  found_clashes root pairs h.0.0 h.0.1 h.0.2,
  h.0.3,
  λ k c.
      let f = clashes_found root pairs k sorted c in
      ap (λ (l : List ℕ). lt l key) (sym f.3) ∙ h.1 f.0 f.1 f.2,
)

pub none_of_all : (root : List ℕ) (pairs : List Pair) → AreKeysSorted pairs → IsLeastFound root pairs (length pairs) None → HasNoClash root pairs
none_of_all root pairs sorted h = λ i c. let f = clashes_found root pairs i sorted c in h f.0 f.1 f.2

pub least_done : (root : List ℕ) (pairs : List Pair) (at : ℕ) (least : Option (Bor (List ℕ))) → AreKeysSorted pairs → at ≡ length pairs
    → IsLeastFound root pairs at (option_map (λ (k : Bor (List ℕ)). k.now) least) → MatchOption least (HasNoClash root pairs) (λ (k : Bor (List ℕ)). IsFirstClash root pairs k.now)
least_done root pairs at None sorted e h = none_of_all root pairs sorted (subst (λ (n : ℕ). IsLeastFound root pairs n None) e h)
least_done root pairs at (Some key) sorted e h = least_of_all root pairs key.now sorted (subst (λ (n : ℕ). IsLeastFound root pairs n (Some key.now)) e h)

pub key_held : (pairs : List Held) (at : ℕ) (r : Held) → at < length pairs → r ≡ get_or pairs at r → r.key.now ≡ key_at (map pair_view pairs) at
key_held pairs at r l e =
    let same : get_or (map pair_view pairs) at ([], []) ≡ pair_view (get_or pairs at r) = get_or-map pair_view pairs at r ([], []) l in
    ap (λ (p : Held). p.key.now) e ∙ sym (ap (λ (p : Pair). p.0) same)
