-- Laws of the order of keys.
use Rattle.std.proofs.Common.{◌≡◌, ◌≢◌, ℕ, zero, suc, ◌<◌, ◌⊎◌, inl, inr, false, List, [], ◌∷◌, length, drop, min, refl, sym, ap, ap₂, ◌∙◌, subst, arith, Less, Equal, Greater, Ordering, nat_cmp}
use Rattle.std.specs.Ordering.{is_lt, ordering_then}
use Rattle.std.proofs.lemmas.Bool.{false≢true}
use Rattle.std.proofs.lemmas.Bool.Decides.{nat_tests}
use Rattle.consul_kv.specs.Keys.{rank, key_cmp}
use Rattle.consul_kv.specs.Rises.{Leads, GoesBefore}

-- the first isn't above the second
abbrev pub Upto : List ℕ → List ℕ → Type 0
Upto [] ys = Unit {0}
Upto (x ∷ xs) [] = ⊥
Upto (x ∷ xs) (y ∷ ys) = (rank x < rank y) ⊎ ((x ≡ y) × Upto xs ys)

pub rank_least : (y : ℕ) → (z : ℕ) → z ≡ 47 → rank y < rank z → ⊥
rank_least y z e h = let k : rank z ≡ 0 = ap rank e in omega (arith, h, k)

pub rank_positive : (y : ℕ) → y ≢ 47 → 0 < rank y
rank_positive y n = grind (arith, nat_tests, n)

pub convex : (a b c : List ℕ) → Upto a b → Upto b c → Leads a c → Leads a b
convex [] [] c p q l = tt
convex [] (y ∷ ys) [] p q l = absurd q
convex [] (y ∷ ys) (z ∷ zs) p (inl r) l = absurd (rank_least y z l r)
convex [] (y ∷ ys) (z ∷ zs) p (inr q) l = q.0 ∙ l
convex (x ∷ xs) [] c p q l = absurd p
convex (x ∷ xs) (y ∷ ys) [] p q l = absurd l
convex (x ∷ xs) (y ∷ ys) (z ∷ zs) (inl r) (inl s) l = let k : rank x ≡ rank z = ap rank l.0 in absurd (omega (arith, r, s, k))
convex (x ∷ xs) (y ∷ ys) (z ∷ zs) (inl r) (inr q) l = let k : rank x ≡ rank z = ap rank l.0 in let m : rank y ≡ rank z = ap rank q.0 in absurd (omega (arith, r, k, m))
convex (x ∷ xs) (y ∷ ys) (z ∷ zs) (inr p) (inl s) l = let k : rank x ≡ rank z = ap rank l.0 in let m : rank x ≡ rank y = ap rank p.0 in absurd (omega (arith, s, k, m))
convex (x ∷ xs) (y ∷ ys) (z ∷ zs) (inr p) (inr q) l = (p.0, convex xs ys zs p.1 q.1 l.1)

pub upto_trans : (a b c : List ℕ) → Upto a b → Upto b c → Upto a c
upto_trans [] b c p q = tt
upto_trans (x ∷ xs) [] c p q = absurd p
upto_trans (x ∷ xs) (y ∷ ys) [] p q = absurd q
upto_trans (x ∷ xs) (y ∷ ys) (z ∷ zs) (inl r) (inl s) = inl (omega (arith, r, s))
upto_trans (x ∷ xs) (y ∷ ys) (z ∷ zs) (inl r) (inr q) = let m : rank y ≡ rank z = ap rank q.0 in inl (omega (arith, r, m))
upto_trans (x ∷ xs) (y ∷ ys) (z ∷ zs) (inr p) (inl s) = let m : rank x ≡ rank y = ap rank p.0 in inl (omega (arith, s, m))
upto_trans (x ∷ xs) (y ∷ ys) (z ∷ zs) (inr p) (inr q) = inr (p.0 ∙ q.0, upto_trans xs ys zs p.1 q.1)

pub upto_self : (a : List ℕ) → Upto a a
upto_self [] = tt
upto_self (x ∷ xs) = inr (refl, upto_self xs)

-- of two that are in order, the first goes before the second where it doesn't lead to it
pub apart : (a b : List ℕ) → Upto a b → ¬ (Leads a b) → GoesBefore a b
apart [] [] p n = absurd (n tt)
apart [] (y ∷ ys) p n = n
apart (x ∷ xs) [] p n = p
apart (x ∷ xs) (y ∷ ys) (inl r) n = inl r
apart (x ∷ xs) (y ∷ ys) (inr p) n = inr (p.0, apart xs ys p.1 (λ l. n (p.0, l)))

pub before_trans : (a b c : List ℕ) → GoesBefore a b → GoesBefore b c → GoesBefore a c
before_trans [] [] c p q = absurd p
before_trans [] (y ∷ ys) [] p q = absurd q
before_trans [] (y ∷ ys) (z ∷ zs) p (inl r) = λ e. rank_least y z e r
before_trans [] (y ∷ ys) (z ∷ zs) p (inr q) = λ e. p (q.0 ∙ e)
before_trans (x ∷ xs) [] c p q = absurd p
before_trans (x ∷ xs) (y ∷ ys) [] p q = absurd q
before_trans (x ∷ xs) (y ∷ ys) (z ∷ zs) (inl r) (inl s) = inl (omega (arith, r, s))
before_trans (x ∷ xs) (y ∷ ys) (z ∷ zs) (inl r) (inr q) = let m : rank y ≡ rank z = ap rank q.0 in inl (omega (arith, r, m))
before_trans (x ∷ xs) (y ∷ ys) (z ∷ zs) (inr p) (inl s) = let m : rank x ≡ rank y = ap rank p.0 in inl (omega (arith, s, m))
before_trans (x ∷ xs) (y ∷ ys) (z ∷ zs) (inr p) (inr q) = inr (p.0 ∙ q.0, before_trans xs ys zs p.1 q.1)

pub before_apart : (a b : List ℕ) → GoesBefore a b → ¬ (Leads a b)
before_apart [] [] p l = p
before_apart [] (y ∷ ys) p l = p l
before_apart (x ∷ xs) [] p l = p
before_apart (x ∷ xs) (y ∷ ys) (inl r) l = let k : rank x ≡ rank y = ap rank l.0 in omega (arith, r, k)
before_apart (x ∷ xs) (y ∷ ys) (inr p) l = before_apart xs ys p.1 l.1

-- one that leads to another and isn't below it is the other
pub leads_back : (a b : List ℕ) → Leads a b → Upto b a → b ≡ a
leads_back [] [] l p = refl
leads_back [] (y ∷ ys) l p = absurd p
leads_back (x ∷ xs) [] l p = absurd l
leads_back (x ∷ xs) (y ∷ ys) l (inl r) = let k : rank x ≡ rank y = ap rank l.0 in absurd (omega (arith, r, k))
leads_back (x ∷ xs) (y ∷ ys) l (inr p) = ap₂ (λ (h : ℕ) (t : List ℕ). h ∷ t) p.0 (leads_back xs ys l.1 p.1)

rank_apart : (x y : ℕ) → rank x ≡ rank y → x ≡ y
rank_apart x y e = grind (arith, nat_tests, e)

abbrev step_upto : ℕ → List ℕ → ℕ → List ℕ → Type 0
step_upto x xs y ys = (rank x < rank y) ⊎ ((x ≡ y) × Upto xs ys)

three_ways : (m n : ℕ) → (m < n) ⊎ ((m ≡ n) ⊎ (n < m))
three_ways m n = grind arith

less_is : (x y : ℕ) → x < y → nat_cmp x y ≡ Less
less_is x y h = grind (arith, nat_tests)

equal_is : (x y : ℕ) → x ≡ y → nat_cmp x y ≡ Equal
equal_is x y h = grind (arith, nat_tests)

pub upto_from_cmp : (a b : List ℕ) → is_lt (key_cmp b a) ≡ false → Upto a b
upto_from_cmp [] b h = tt
upto_from_cmp (x ∷ xs) [] h = absurd (false≢true (sym h))
upto_from_cmp (x ∷ xs) (y ∷ ys) h = by (λ k. upto_from_cmp xs ys k) (three_ways (rank x) (rank y))
  where
    by : (is_lt (key_cmp ys xs) ≡ false → Upto xs ys) → (rank x < rank y) ⊎ ((rank x ≡ rank y) ⊎ (rank y < rank x)) → step_upto x xs y ys
    by rest (inl r) = inl r
    by rest (inr (inl e)) =
        let k : is_lt (ordering_then Equal (key_cmp ys xs)) ≡ false = subst (λ (o : Ordering). is_lt (ordering_then o (key_cmp ys xs)) ≡ false) (equal_is (rank y) (rank x) (sym e)) h in
        inr (rank_apart x y e, rest k)
    by rest (inr (inr s)) =
        let k : is_lt (ordering_then Less (key_cmp ys xs)) ≡ false = subst (λ (o : Ordering). is_lt (ordering_then o (key_cmp ys xs)) ≡ false) (less_is (rank y) (rank x) s) h in
        absurd (false≢true (sym k))

-- ---- two keys, from some place on

greater_is : (x y : ℕ) → y < x → nat_cmp x y ≡ Greater
greater_is x y h = grind (arith, nat_tests)

next_is : (m n : ℕ) → nat_cmp m n ≡ nat_cmp (suc m) (suc n)
next_is m n = grind (arith, nat_tests)

at_end : (a b : List ℕ) (i : ℕ) → i ≡ min (length a) (length b) → key_cmp (drop i a) (drop i b) ≡ nat_cmp (length a) (length b)
at_end [] [] zero e = sym (equal_is 0 0 refl)
at_end [] [] (suc i) e = absurd (omega (arith, e))
at_end [] (y ∷ ys) zero e = sym (less_is 0 (suc (length ys)) (omega arith))
at_end [] (y ∷ ys) (suc i) e = absurd (omega (arith, e))
at_end (x ∷ xs) [] zero e = sym (greater_is (suc (length xs)) 0 (omega arith))
at_end (x ∷ xs) [] (suc i) e = absurd (omega (arith, e))
at_end (x ∷ xs) (y ∷ ys) zero e = absurd (omega (arith, e))
at_end (x ∷ xs) (y ∷ ys) (suc i) e = at_end xs ys i (omega (arith, e)) ∙ next_is (length xs) (length ys)

pub ended : (a b : List ℕ) (i : ℕ) → i ≡ min (length a) (length b) → key_cmp a b ≡ key_cmp (drop i a) (drop i b) → nat_cmp (length a) (length b) ≡ key_cmp a b
ended a b i e h = sym (h ∙ at_end a b i e)
