-- The order of two texts by their lower-case forms, from some place on.
use Rattle.std.proofs.Common.{◌≡◌, ℕ, zero, suc, ◌<◌, ◌≤◌, min, List, [], ◌∷◌, length, drop, sym, ◌∙◌, arith, Less, Equal, Greater, nat_cmp}
use Rattle.std.proofs.lemmas.Bool.Decides.{nat_tests}
use Rattle.field_tree.specs.Keys.{fold_cmp}

less_is : (x y : ℕ) → x < y → nat_cmp x y ≡ Less
less_is x y h = grind (arith, nat_tests)

greater_is : (x y : ℕ) → y < x → nat_cmp x y ≡ Greater
greater_is x y h = grind (arith, nat_tests)

equal_is : (x y : ℕ) → x ≤ y → y ≤ x → nat_cmp x y ≡ Equal
equal_is x y h k = grind (arith, nat_tests)

next_is : (m n : ℕ) → nat_cmp m n ≡ nat_cmp (suc m) (suc n)
next_is m n = grind (arith, nat_tests)

at_end : (a b : List ℕ) (i : ℕ) → i ≡ min (length a) (length b) → fold_cmp (drop i a) (drop i b) ≡ nat_cmp (length a) (length b)
at_end [] [] zero e = sym (equal_is 0 0 (omega arith) (omega arith))
at_end [] [] (suc i) e = absurd (omega (arith, e))
at_end [] (y ∷ ys) zero e = sym (less_is 0 (suc (length ys)) (omega arith))
at_end [] (y ∷ ys) (suc i) e = absurd (omega (arith, e))
at_end (x ∷ xs) [] zero e = sym (greater_is (suc (length xs)) 0 (omega arith))
at_end (x ∷ xs) [] (suc i) e = absurd (omega (arith, e))
at_end (x ∷ xs) (y ∷ ys) zero e = absurd (omega (arith, e))
at_end (x ∷ xs) (y ∷ ys) (suc i) e = at_end xs ys i (omega (arith, e)) ∙ next_is (length xs) (length ys)

pub ended : (a b : List ℕ) (i : ℕ) → i ≡ min (length a) (length b) → fold_cmp a b ≡ fold_cmp (drop i a) (drop i b) → nat_cmp (length a) (length b) ≡ fold_cmp a b
ended a b i e h = sym (h ∙ at_end a b i e)
