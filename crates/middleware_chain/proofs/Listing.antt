-- Lists that are gone through one by one.
use Rattle.std.proofs.Common.{◌≡◌, ◌∙◌, ℕ, ◌+◌, ◌<◌, suc, zero, List, [], ◌∷◌, ◌++◌, length, get_or, take, sym, ap, add-one, arith}
use Rattle.std.proofs.lemmas.List.{flat_map_more}
use Rattle.middleware_chain.specs.Counts.{Listed}
use Rattle.middleware_chain.specs.Lines.{lines_of, middleware_line}

next_one : {X : Type 0} (xs : List X) (i : ℕ) (x : X) → i < length xs → x ≡ get_or xs i x → take (suc i) xs ≡ take i xs ++ x ∷ []
next_one [] i x l at = absurd (omega (arith, l))
next_one (y ∷ ys) zero x l at = ap (λ z. z ∷ []) (sym at)
next_one (y ∷ ys) (suc i) x l at = ap (λ zs. y ∷ zs) (next_one ys i x (omega (arith, l)) at)

-- the first elements, and one more
pub take_one : {X : Type 0} (xs : List X) (i : ℕ) (x : X) → i < length xs → x ≡ get_or xs i x → take (i + 1) xs ≡ take i xs ++ x ∷ []
take_one xs i x l at = ap (λ (n : ℕ). take n xs) (add-one i) ∙ next_one xs i x l at

-- one more line
pub lines_next : (ms : List Listed) (i : ℕ) (m : Listed) (old new start : List ℕ) → i < length ms → m ≡ get_or ms i m → old ≡ start ++ lines_of (take i ms)
    → new ≡ old ++ middleware_line m → new ≡ start ++ lines_of (take (i + 1) ms)
lines_next ms i m old new start l at before grown =
    grown ∙ ap (λ (x : List ℕ). x ++ middleware_line m) before ∙ flat_map_more middleware_line start (take i ms) m
    ∙ ap (λ (xs : List Listed). start ++ lines_of xs) (sym (take_one ms i m l at))
