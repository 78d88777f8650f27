-- `first_pops` is the earliest-deadline list of its length, and the only one.
use Rattle.std.proofs.Common.{◌≡◌, ℕ, zero, suc, ◌-◌, ◌<◌, ◌≤◌, inl, inr, List, [], ◌∷◌, ◌++◌, length, take, get_or, slice_index, refl, sym, ◌∙◌, ap, arith, add-one}
use Rattle.std.proofs.lemmas.Bool.{cases_lt}
use Rattle.std.proofs.lemmas.List.{length_push, take-append-le, take_all, take_more, get_or-take, get_or_push}
use Rattle.wrr_deadlines.specs.Schedule.{IsWeighted, IsNext, IsEarliestDeadline}
use Rattle.wrr_deadlines.specs.Turn.{next_child, first_pops, popped_child}
use Rattle.wrr_deadlines.specs.Laws.{IsOnlyList}
use Rattle.wrr_deadlines.proofs.Earliest.{IsNext-next_child, IsNext-alone}

pub first_pops-zero : (ws : List ℕ) → first_pops ws 0 ≡ []
unfolding first_pops
first_pops-zero ws = refl

pub first_pops-suc : (ws : List ℕ) (n : ℕ) → first_pops ws (suc n) ≡ first_pops ws n ++ next_child ws (first_pops ws n) ∷ []
unfolding first_pops
first_pops-suc ws n = refl

pub length-first_pops : (ws : List ℕ) (n : ℕ) → length (first_pops ws n) ≡ n
length-first_pops ws zero = rw first_pops-zero refl
length-first_pops ws (suc n) =
    let e = length-first_pops ws n in
    rw first_pops-suc (omega (arith, length_push (first_pops ws n) (next_child ws (first_pops ws n))))

-- the first of the first pops
pub take-first_pops : (ws : List ℕ) (k n : ℕ) → k ≤ n → take k (first_pops ws n) ≡ first_pops ws k
take-first_pops ws k zero h =
    let e : k ≡ 0 = omega arith in
    rw (e, first_pops-zero) refl
take-first_pops ws k (suc n) h = elim (cases_lt n k) [
  | inl past ↦
      let e : k ≡ suc n = omega arith in
      let len = length-first_pops ws (suc n) in
      rw e (take_all (suc n) (first_pops ws (suc n)) (omega arith))
  | inr within ↦
      let len = length-first_pops ws n in
      let fits : k ≤ length (first_pops ws n) = omega arith in
      rw first_pops-suc (take-append-le k (first_pops ws n) (next_child ws (first_pops ws n) ∷ []) fits ∙ take-first_pops ws k n within)
]

-- the member at a place is the child that is popped after those before it
pub at-first_pops : (ws : List ℕ) (k n : ℕ) → k < n → get_or (first_pops ws n) k 0 ≡ next_child ws (first_pops ws k)
at-first_pops ws k n h =
    sym (get_or-take (suc k) (first_pops ws n) k 0 (omega arith))
    ∙ ap (λ (xs : List ℕ). get_or xs k 0) (take-first_pops ws (suc k) n (omega arith) ∙ first_pops-suc ws k)
    ∙ get_or_push (first_pops ws k) (next_child ws (first_pops ws k)) 0 k (length-first_pops ws k)

pub IsEarliestDeadline-first_pops : (ws : List ℕ) (n : ℕ) → IsWeighted ws → IsEarliestDeadline ws (first_pops ws n)
IsEarliestDeadline-first_pops ws n some = λ p h.
    let within : p < n = omega (arith, length-first_pops ws n) in
    rw (take-first_pops ws p n (omega arith), at-first_pops ws p n within) (IsNext-next_child ws (first_pops ws p) some)

-- each beginning of an earliest-deadline list is a list of first pops
beginning : (ws pops : List ℕ) (k : ℕ) → IsEarliestDeadline ws pops → k ≤ length pops → take k pops ≡ first_pops ws k
beginning ws pops zero lawful h = sym (first_pops-zero ws)
beginning ws pops (suc k) lawful h =
    let within : k < length pops = omega arith in
    let before : take k pops ≡ first_pops ws k = beginning ws pops k lawful (omega arith) in
    let here : IsNext ws (first_pops ws k) (slice_index pops k) = rw before at (lawful k within) in
    let some : IsWeighted ws = record { heavy = slice_index pops k; weighs = here.weighs } in
    let same : slice_index pops k ≡ next_child ws (first_pops ws k) =
    IsNext-alone ws (first_pops ws k) _ _ here (IsNext-next_child ws (first_pops ws k) some) in
    let more : take (suc k) pops ≡ take k pops ++ slice_index pops k ∷ [] = rw add-one at (take_more pops k 0 within) in
    more ∙ rw (before, same) (sym (first_pops-suc ws k))

pub first_pops-from_lawful : (ws pops : List ℕ) → IsEarliestDeadline ws pops → pops ≡ first_pops ws (length pops)
first_pops-from_lawful ws pops lawful =
    sym (take_all (length pops) pops (omega arith)) ∙ beginning ws pops (length pops) lawful (omega arith)

-- two earliest-deadline lists of one length are one list
pub IsEarliestDeadline-alone : (ws one other : List ℕ) → IsEarliestDeadline ws one → IsEarliestDeadline ws other → length one ≡ length other → one ≡ other
IsEarliestDeadline-alone ws one other a b same =
    first_pops-from_lawful ws one a ∙ ap (first_pops ws) same ∙ sym (first_pops-from_lawful ws other b)

-- the n-th pop comes after n - 1 others
pub popped_child-is : (ws : List ℕ) (n : ℕ) → popped_child ws n ≡ next_child ws (first_pops ws (n - 1))
unfolding popped_child
popped_child-is ws n = refl

pub IsOnlyList-first_pops : (ws : List ℕ) (n : ℕ) → IsWeighted ws → IsOnlyList ws n
IsOnlyList-first_pops ws n some = record {
  lawful = IsEarliestDeadline-first_pops ws n some;
  long = length-first_pops ws n;
  alone = λ other lawful len. first_pops-from_lawful ws other lawful ∙ ap (first_pops ws) len;
  members = λ k low high. at-first_pops ws (k - 1) n (omega arith) ∙ sym (popped_child-is ws k);
}
