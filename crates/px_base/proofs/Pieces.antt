-- A list cut into a piece and what is left of it.
use Rattle.std.proofs.Common.{◌≡◌, ℕ, ◌+◌, List, ◌++◌, take, drop, sym, ◌∙◌, ap, append_assoc}
use Rattle.std.proofs.lemmas.List.{take-append-drop}
use Rattle.std.proofs.lemmas.Grind.{common_steps}
use Rattle.std.proofs.Common.{arith, Option, Some, None}
use Rattle.std.proofs.Math.Seq.{take-add}
use Rattle.std.specs.Io.KnownBytes.{Appends, Consumes}

-- what was copied, and then what is past it
pub piece_and_rest : {A : Type 0} (bs room : List A) (at n : ℕ) → take n room ≡ take n (drop at bs) → drop at bs ≡ take n room ++ drop (at + n) bs
piece_and_rest bs room at n e = grind (arith, common_steps, take-append-drop n (drop at bs))

-- two appends in a row
pub appends_more : (old mid new : Option (List ℕ)) (text : List ℕ) (at n : ℕ) → Appends old mid (take at text) → Appends mid new (take n (drop at text)) → Appends old new (take (at + n) text)
appends_more None mid new text at n a b = tt
appends_more (Some xs) None new text at n a b = absurd a
appends_more (Some xs) (Some ys) None text at n a b = absurd b
appends_more (Some xs) (Some ys) (Some zs) text at n a b =
    b ∙ ap (λ v. v ++ take n (drop at text)) a ∙ append_assoc xs (take at text) (take n (drop at text)) ∙ ap (λ v. xs ++ v) (sym (take-add at n text))

-- two reads in a row
pub consumes_more : (old mid new : Option (List ℕ)) (a b : List ℕ) → Consumes old mid a → Consumes mid new b → Consumes old new (a ++ b)
consumes_more None mid new a b p q = tt
consumes_more (Some xs) None new a b p q = absurd p
consumes_more (Some xs) (Some ys) None a b p q = absurd q
consumes_more (Some xs) (Some ys) (Some zs) a b p q = p ∙ ap (λ v. a ++ v) q ∙ sym (append_assoc a b zs)
