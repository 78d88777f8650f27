-- Middlewares that are looked up by their names.
use Rattle.std.proofs.Common.{◌≡◌, ◌∙◌, ℕ, ◌+◌, suc, zero, List, [], ◌∷◌, map, Option, Some, None, Bool, true, false, slice_get, refl, sym, ap, arith, cond, bytes_eq}
use Rattle.std.proofs.lemmas.Bool.{false≢true}
use Rattle.std.proofs.lemmas.Slice.Eq.{bytes_eq-Decides}
use Rattle.middleware_chain.specs.Names.{place_from}

-- the element at this place has the name
pub record Found (X : Type 0) (f : X → List ℕ) (n : ℕ) (xs : List X) (name : List ℕ) (at : ℕ) : Type 0 where
  pub step : ℕ
  pub item : X
  pub at_is : at ≡ n + step
  pub here : slice_get xs step ≡ Some item
  pub named : f item ≡ name

none_some : {X : Type 0} (x : X) → None ≡ Some x → ⊥
none_some x e = cc

some_is : (a b : ℕ) → Some a ≡ Some b → a ≡ b
some_is a b e = cc

same_bytes : (a b : List ℕ) → bytes_eq a b ≡ true → a ≡ b
same_bytes a b e = (bytes_eq-Decides a b).0 e

found_by : (X : Type 0) (f : X → List ℕ) (n : ℕ) (x : X) (xs : List X) (name : List ℕ) (at : ℕ) (b : Bool) → bytes_eq (f x) name ≡ b
    → (place_from f (n + 1) xs name ≡ Some at → Found X f (n + 1) xs name at)
    → cond b (Some n) (place_from f (n + 1) xs name) ≡ Some at → Found X f n (x ∷ xs) name at
found_by X f n x xs name at true e later h =
    let same : n ≡ at = some_is n at h in
    record { step = 0; item = x; at_is = omega (arith, same); here = refl; named = same_bytes (f x) name e }
found_by X f n x xs name at false e later h =
    let found = later h in
    record { step = suc found.step; item = found.item; at_is = omega (arith, found.at_is); here = found.here; named = found.named }

pub found : (X : Type 0) (f : X → List ℕ) (n : ℕ) (xs : List X) (name : List ℕ) (at : ℕ) → place_from f n xs name ≡ Some at → Found X f n xs name at
found X f n [] name at h = absurd (none_some at h)
found X f n (x ∷ xs) name at h = found_by X f n x xs name at (bytes_eq (f x) name) refl (λ k. found X f (n + 1) xs name at k) h

-- two lists with the same names have each name at the same place
pub same_place : (X Y : Type 0) (f : X → List ℕ) (g : Y → List ℕ) (n : ℕ) (xs : List X) (ys : List Y) (name : List ℕ) → map f xs ≡ map g ys
    → place_from f n xs name ≡ place_from g n ys name
same_place X Y f g n [] [] name e = refl
same_place X Y f g n [] (y ∷ ys) name e = absurd cc
same_place X Y f g n (x ∷ xs) [] name e = absurd cc
same_place X Y f g n (x ∷ xs) (y ∷ ys) name e =
    let first : f x ≡ g y = cc in
    let rest : map f xs ≡ map g ys = cc in
    ap (λ (t : List ℕ). cond (bytes_eq t name) (Some n) (place_from f (n + 1) xs name)) first
    ∙ ap (λ (o : Option ℕ). cond (bytes_eq (g y) name) (Some n) o) (same_place X Y f g (n + 1) xs ys name rest)
