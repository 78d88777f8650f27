-- One range among many.
use Rattle.std.proofs.Common.{◌≡◌, ◌∙◌, ℕ, ◌<◌, List, [], ◌∷◌, map, length, get_or, false, Option, Some, None, sym, ap, subst, arith}
use Rattle.std.specs.List.{Any}
use Rattle.std.specs.Option.{MatchOption}
use Rattle.std.specs.Prelude.{is_some}
use Rattle.std.proofs.lemmas.List.{length-map, get_or-map, get_or_default}

-- an element passes
pub any_here : {X : Type 0} (P : X → Type 0) (xs : List X) (at : ℕ) (x : X) → at < length xs → x ≡ get_or xs at x → P x → Any P xs
any_here P xs at x lt is p = (at, x, lt, sym is, p)

-- the same of what the elements stand for
pub any_stands : {X Y : Type 0} (f : X → Y) (P : Y → Type 0) (xs : List X) (at : ℕ) (x : X) → at < length xs → x ≡ get_or xs at x → P (f x) → Any P (map f xs)
any_stands f P xs at x lt is p =
    (at, f x, subst (λ (n : ℕ). at < n) (sym (length-map xs f)) lt, get_or-map f xs at x (f x) lt ∙ ap f (sym is), p)

-- no element passes
pub any_none : {X Y : Type 0} (f : X → Y) (P : Y → Type 0) (xs : List X) → ((k : ℕ) (x : X) → k < length xs → x ≡ get_or xs k x → P (f x) → ⊥) → Any P (map f xs) → ⊥
any_none f P [] none (k, y, lt, is, p) = absurd (omega (arith, lt))
any_none f P (x ∷ xs) none (k, y, lt, is, p) =
    let long : k < length (x ∷ xs) = subst (λ (n : ℕ). k < n) (length-map (x ∷ xs) f) lt in
    let here : f (get_or (x ∷ xs) k x) ≡ y = sym (get_or-map f (x ∷ xs) k x y long) ∙ is in
    none k (get_or (x ∷ xs) k x) long (get_or_default (x ∷ xs) k x (get_or (x ∷ xs) k x) long) (subst P (sym here) p)

-- nothing was read
pub none_read : {X : Type 0} (o : Option X) (P : Type 0) (Q : X → Type 0) → is_some o ≡ false → MatchOption o P Q → P
none_read None P Q e p = p
none_read (Some x) P Q e q = absurd cc
