-- The schedule repeats: a period pops each child as often as its share of the weights, and after a
-- period the same child is next as at the beginning.
use Rattle.std.proofs.Common.{◌≡◌, ◌≢◌, ℕ, zero, suc, ◌+◌, ◌*◌, ◌<◌, ◌≤◌, nat_eq, cond, inl, inr, List, length, arith}
use Rattle.std.proofs.Math.Nat.{mul-le-mul_right}
use Rattle.std.proofs.lemmas.Bool.{cases_lt, cases_eq, eq-eqb, ne_eqb, cond-true, cond-false}
use Rattle.wrr_deadlines.specs.Schedule.{weight_of, times_popped, job_of, IsWeighted, IsDueBefore}
use Rattle.wrr_deadlines.specs.Turn.{next_child, first_pops}
use Rattle.wrr_deadlines.proofs.Earliest.{IsNext-next_child, weight_past, product_positive, no_weight}
use Rattle.wrr_deadlines.proofs.Pops.{first_pops-zero, first_pops-suc}
use Rattle.wrr_deadlines.proofs.Totals.{total, total-le, total_same, total_more, total-zero, times_popped-push, times_popped-nil}

-- how often child i is in the first n pops
abbrev pub turns : List ℕ → ℕ → ℕ → ℕ
turns ws n i = times_popped (first_pops ws n) i

pub turns-zero : (ws : List ℕ) (i : ℕ) → turns ws 0 i ≡ 0
turns-zero ws i = rw first_pops-zero (times_popped-nil i)

pub turns-suc : (ws : List ℕ) (n i : ℕ) → turns ws (suc n) i ≡ turns ws n i + cond (nat_eq (next_child ws (first_pops ws n)) i) 1 0
turns-suc ws n i = rw first_pops-suc (times_popped-push (first_pops ws n) (next_child ws (first_pops ws n)) i)

pub turns_same : (ws : List ℕ) (n i : ℕ) → next_child ws (first_pops ws n) ≡ i → turns ws (suc n) i ≡ turns ws n i + 1
turns_same ws n i e =
    let one : cond {A = ℕ} (nat_eq (next_child ws (first_pops ws n)) i) 1 0 ≡ 1 = cond-true {A = ℕ} _ 1 0 (eq-eqb _ i e) in
    omega (arith, turns-suc ws n i)

pub turns_other : (ws : List ℕ) (n i : ℕ) → next_child ws (first_pops ws n) ≢ i → turns ws (suc n) i ≡ turns ws n i
turns_other ws n i e =
    let none : cond {A = ℕ} (nat_eq (next_child ws (first_pops ws n)) i) 1 0 ≡ 0 = cond-false {A = ℕ} _ 1 0 (ne_eqb _ i e) in
    omega (arith, turns-suc ws n i)

pub next_within : (ws pops : List ℕ) → IsWeighted ws → next_child ws pops < length ws
next_within ws pops some = weight_past ws (next_child ws pops) (IsNext-next_child ws pops some).weighs

-- n pops in all
pub total-turns : (ws : List ℕ) (n : ℕ) → IsWeighted ws → total (turns ws n) (length ws) ≡ n
total-turns ws zero some = total-zero (turns ws 0) (length ws) (turns-zero ws)
total-turns ws (suc n) some =
    let before = total-turns ws n some in
    let more = total_more (turns ws n) (turns ws (suc n)) (next_child ws (first_pops ws n)) (length ws) (turns-suc ws n) (next_within ws (first_pops ws n) some) in
    omega arith

-- no child is in the first n pops more than n times
pub turns-le : (ws : List ℕ) (n i : ℕ) → turns ws n i ≤ n
turns-le ws zero i = omega (arith, turns-zero ws i)
turns-le ws (suc n) i =
    let before = turns-le ws n i in
    elim (cases_eq (next_child ws (first_pops ws n)) i) [
      | inl same ↦ omega (arith, turns_same ws n i same)
      | inr other ↦ omega (arith, turns_other ws n i other)
    ]

-- each weight is its child's share, a whole number of times one number
pub record HasShares (ws : List ℕ) (share : ℕ → ℕ) (unit : ℕ) : Type 0 where
  pub positive : 0 < unit
  pub whole : (i : ℕ) → weight_of ws i ≡ share i * unit

pub no_share : (ws : List ℕ) (share : ℕ → ℕ) (unit : ℕ) → HasShares ws share unit → (i : ℕ) → weight_of ws i ≡ 0 → share i ≡ 0
no_share ws share unit has i none = no_weight unit (share i) has.positive (omega (arith, has.whole i))

-- a job that is due no sooner than a child's next job after all of its share: that child's share is popped
share_done : (tc tj vc vj unit : ℕ) → 0 < unit → vc ≤ tc → (tc + 1) * (vj * unit) ≤ (tj + 1) * (vc * unit) → vj ≤ tj
share_done tc tj vc vj unit pos full due = elim (cases_lt tj vj) [
  | inl short ↦
      let a : (vc + 1) * (vj * unit) ≤ (tc + 1) * (vj * unit) = mul-le-mul_right (vj * unit) (omega arith) in
      let b : (tj + 1) * (vc * unit) ≤ vj * (vc * unit) = mul-le-mul_right (vc * unit) (omega arith) in
      let c = product_positive vj unit (omega arith) pos in
      absurd (omega arith)
  | inr done ↦ done
]

no_later : (ws pops : List ℕ) (i j : ℕ) → IsDueBefore ws pops i j → job_of pops i * weight_of ws j ≤ job_of pops j * weight_of ws i
no_later ws pops i j (inl less) = omega arith
no_later ws pops i j (inr same) = omega arith

-- where the child that is next has had its share, each child has had its own
all_done : (ws : List ℕ) (share : ℕ → ℕ) (unit n : ℕ) → IsWeighted ws → HasShares ws share unit → share (next_child ws (first_pops ws n)) ≤ turns ws n (next_child ws (first_pops ws n)) → (j : ℕ) → share j ≤ turns ws n j
all_done ws share unit n some has full j = elim (cases_eq j (next_child ws (first_pops ws n))) [
  | inl same ↦ rw same full
  | inr other ↦ elim (cases_lt 0 (weight_of ws j)) [
    | inl heavy ↦
        let due : job_of (first_pops ws n) (next_child ws (first_pops ws n)) * weight_of ws j ≤ job_of (first_pops ws n) j * weight_of ws (next_child ws (first_pops ws n)) =
        no_later ws (first_pops ws n) (next_child ws (first_pops ws n)) j ((IsNext-next_child ws (first_pops ws n) some).first j heavy other) in
        share_done _ _ _ _ unit has.positive full (rw (has.whole j, has.whole (next_child ws (first_pops ws n))) at due)
    | inr light ↦
        let none = no_share ws share unit has j (omega arith) in
        omega arith
  ]
]

-- within a period no child is popped more often than its share
pub turns-le-share : (ws : List ℕ) (share : ℕ → ℕ) (unit n : ℕ) → IsWeighted ws → HasShares ws share unit → n ≤ total share (length ws) → (i : ℕ) → turns ws n i ≤ share i
turns-le-share ws share unit zero some has h i = omega (arith, turns-zero ws i)
turns-le-share ws share unit (suc n) some has h i =
    let before = turns-le-share ws share unit n some has (omega arith) in
    elim (cases_eq (next_child ws (first_pops ws n)) i) [
      | inr other ↦ omega (arith, turns_other ws n i other, before i)
      | inl same ↦ elim (cases_lt (turns ws n i) (share i)) [
        | inl room ↦ omega (arith, turns_same ws n i same)
        | inr full ↦
            let here : share (next_child ws (first_pops ws n)) ≤ turns ws n (next_child ws (first_pops ws n)) = rw same full in
            let all = all_done ws share unit n some has here in
            let much = total-le share (turns ws n) (length ws) (λ j _. all j) in
            absurd (omega (arith, total-turns ws n some))
      ]
    ]

-- in a period each child is popped as often as its share
pub turns-period : (ws : List ℕ) (share : ℕ → ℕ) (unit : ℕ) → IsWeighted ws → HasShares ws share unit → (i : ℕ) → turns ws (total share (length ws)) i ≡ share i
turns-period ws share unit some has i =
    let within = turns-le-share ws share unit (total share (length ws)) some has (omega arith) in
    elim (cases_lt i (length ws)) [
      | inl child ↦ total_same (turns ws (total share (length ws))) share (length ws) (λ k _. within k) (omega (arith, total-turns ws (total share (length ws)) some)) i child
      | inr past ↦
          let none = no_share ws share unit has i (elim (cases_lt 0 (weight_of ws i)) [
            | inl heavy ↦ absurd (omega (arith, weight_past ws i heavy))
            | inr light ↦ omega arith
          ]) in
          omega (arith, within i)
    ]
