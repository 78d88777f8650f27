-- Lists by their places.
use Rattle.std.proofs.Common.{◌≡◌, ◌≢◌, ℕ, zero, suc, ◌+◌, ◌<◌, ◌≤◌, ◌⊎◌, inl, inr, List, [], ◌∷◌, ◌++◌, length, map, get_or, set, Option, Some, None, true, false, IsTrue, refl, sym, ◌∙◌, ap, arith, slice_get}

pub same_or_not : (j i : ℕ) → (j ≡ i) ⊎ (j ≢ i)
same_or_not zero zero = inl refl
same_or_not zero (suc i) = inr (λ e. let f : ⊥ = omega (arith, e) in f)
same_or_not (suc j) zero = inr (λ e. let f : ⊥ = omega (arith, e) in f)
same_or_not (suc j) (suc i) = elim (same_or_not j i) as (λ _. (suc j ≡ suc i) ⊎ (suc j ≢ suc i)) [ inl e ↦ inl (ap suc e) | inr n ↦ inr (λ e. n (omega (arith, e))) ]

pub get_set_same : {X : Type 0} (xs : List X) (i : ℕ) (x y : X) → slice_get (set xs i x) i ≡ Some y → y ≡ x
get_set_same [] i x y e = absurd (let f : ⊥ = cc in f)
get_set_same (z ∷ xs) zero x y e = cc
get_set_same (z ∷ xs) (suc i) x y e = get_set_same xs i x y e

pub get_set_other : {X : Type 0} (xs : List X) (i j : ℕ) (x : X) → j ≢ i → slice_get (set xs i x) j ≡ slice_get xs j
get_set_other [] i j x d = refl
get_set_other (z ∷ xs) zero zero x d = absurd (d refl)
get_set_other (z ∷ xs) zero (suc j) x d = refl
get_set_other (z ∷ xs) (suc i) zero x d = refl
get_set_other (z ∷ xs) (suc i) (suc j) x d = get_set_other xs i j x (λ e. d (ap suc e))

pub get_within : {X : Type 0} (xs : List X) (i : ℕ) (x : X) → slice_get xs i ≡ Some x → i < length xs
get_within [] i x e = absurd (let f : ⊥ = cc in f)
get_within (z ∷ xs) zero x e = omega arith
get_within (z ∷ xs) (suc i) x e = let h : i < length xs = get_within xs i x e in omega arith

pub get_pushed : {X : Type 0} (xs : List X) (i : ℕ) (x y : X) → slice_get (xs ++ x ∷ []) i ≡ Some y → (slice_get xs i ≡ Some y) ⊎ ((i ≡ length xs) × (y ≡ x))
get_pushed [] zero x y e = inr (refl, let h : y ≡ x = cc in h)
get_pushed [] (suc i) x y e = absurd (let f : ⊥ = cc in f)
get_pushed (z ∷ xs) zero x y e = inl e
get_pushed (z ∷ xs) (suc i) x y e = elim (get_pushed xs i x y e) as (λ _. (slice_get xs i ≡ Some y) ⊎ ((suc i ≡ suc (length xs)) × (y ≡ x))) [ inl h ↦ inl h | inr h ↦ inr (ap suc h.0, h.1) ]

pub get_kept : {X : Type 0} (xs : List X) (i : ℕ) (x y : X) → slice_get xs i ≡ Some y → slice_get (xs ++ x ∷ []) i ≡ Some y
get_kept [] i x y e = absurd (let f : ⊥ = cc in f)
get_kept (z ∷ xs) zero x y e = e
get_kept (z ∷ xs) (suc i) x y e = get_kept xs i x y e

pub get_last : {X : Type 0} (xs : List X) (x : X) → slice_get (xs ++ x ∷ []) (length xs) ≡ Some x
get_last [] x = refl
get_last (z ∷ xs) x = get_last xs x

pub map_set : {X Y : Type 0} (f : X → Y) (xs : List X) (i : ℕ) (x y : X) → slice_get xs i ≡ Some x → f y ≡ f x → map f (set xs i y) ≡ map f xs
map_set f [] i x y e s = absurd (let g : ⊥ = cc in g)
map_set f (z ∷ xs) zero x y e s = let h : z ≡ x = cc in ap (λ t. t ∷ map f xs) (s ∙ ap f (sym h))
map_set f (z ∷ xs) (suc i) x y e s = ap (λ t. f z ∷ t) (map_set f xs i x y e s)

pub some_same : {X : Type 0} (o : Option X) (x y : X) → o ≡ Some x → o ≡ Some y → x ≡ y
some_same o x y a b = cc

pub get_at : {X : Type 0} (xs : List X) (i : ℕ) (x : X) → i < length xs → get_or xs i x ≡ x → slice_get xs i ≡ Some x
get_at [] i x h e = absurd (omega arith)
get_at (y ∷ xs) zero x h e = ap Some e
get_at (y ∷ xs) (suc i) x h e = get_at xs i x (omega arith) e

pub some_at : {X : Type 0} (xs : List X) (i : ℕ) → i < length xs → (x : X) × (slice_get xs i ≡ Some x)
some_at [] i h = absurd (omega (arith, h))
some_at (x ∷ xs) zero h = (x, refl)
some_at (x ∷ xs) (suc i) h = some_at xs i (omega (arith, h))

-- what an index gives
pub indexed : {X : Type 0} (xs : List X) (i : ℕ) (x y : X) → slice_get xs i ≡ Some x → y ≡ get_or xs i y → y ≡ x
indexed [] i x y at is = absurd (let f : ⊥ = cc in f)
indexed (z ∷ xs) zero x y at is = cc
indexed (z ∷ xs) (suc i) x y at is = indexed xs i x y at is

pub length_set : {X : Type 0} (xs : List X) (i : ℕ) (x : X) → length (set xs i x) ≡ length xs
length_set [] i x = refl
length_set (z ∷ xs) zero x = refl
length_set (z ∷ xs) (suc i) x = ap suc (length_set xs i x)

pub not_true : IsTrue false → ⊥
not_true h = cc
