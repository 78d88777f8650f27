-- The common divisor divides each weight, and the shares of a period are whole.
use Rattle.std.proofs.Common.{◌≡◌, ℕ, zero, suc, ◌+◌, ◌*◌, ◌/◌, ◌%◌, ◌<◌, ◌≤◌, ◌==◌, true, ◌⊎◌, inl, inr, List, [], ◌∷◌, length, take, sum, refl, sym, ◌∙◌, ap, arith}
use Rattle.std.proofs.Math.Nat.{div-mul_cancel, mul-div_cancel, mod-one, zero-div}
use Rattle.std.proofs.lemmas.Nat.Gcd.{dvd-zero, dvd_trans, dvd_antisymm, le_of_dvd, dvd_of_mod-eq-zero, mod-eq-zero_of_dvd}
use Rattle.std.proofs.lemmas.Bool.{cases_lt, eqb-true, eq-eqb, both_ways, cond_both}
use Rattle.std.proofs.lemmas.List.{get_or_past, take_all}
use Rattle.std.proofs.lemmas.List.Elements.{All-from_get_or}
use Rattle.std.proofs.lemmas.List.Sums.{AllPass-from_list_all, list_all-from_AllPass, get_or-le-sum_by, sum_by-cons}
use Rattle.std.specs.Int.{IsGcd, ◌∣◌}
use Rattle.wrr_deadlines.specs.Schedule.{weight_of, IsWeighted}
use Rattle.wrr_deadlines.specs.Reduced.{divides_each, greatest_divisor, common_divisor, share_of, period_len}
use Rattle.wrr_deadlines.proofs.Earliest.{weight_past}
use Rattle.wrr_deadlines.proofs.Totals.{total, total_scaled, total-weight_of}
use Rattle.wrr_deadlines.proofs.Periods.{HasShares}

-- what the test means
each_divided : (ws : List ℕ) (d : ℕ) → divides_each d ws ≡ true → (i : ℕ) → d ∣ weight_of ws i
each_divided ws d holds i = elim (cases_lt i (length ws)) [
  | inl child ↦ dvd_of_mod-eq-zero d (eqb-true _ _ (AllPass-from_list_all (λ (w : ℕ). (w % d) == 0) ws holds i 0 child))
  | inr past ↦ let none : weight_of ws i ≡ 0 = get_or_past ws i 0 past in rw none (dvd-zero d)
]

divides_by : (ws : List ℕ) (d : ℕ) → ((i : ℕ) → i < length ws → d ∣ weight_of ws i) → divides_each d ws ≡ true
divides_by ws d each = list_all-from_AllPass (λ (w : ℕ). (w % d) == 0) ws
    (All-from_get_or (λ (w : ℕ). ((w % d) == 0) ≡ true) ws 0 (λ i h. eq-eqb _ 0 (mod-eq-zero_of_dvd d (each i h))))

-- `greatest_divisor` divides each weight, unless it found none, and is the greatest
found_divides : (ws : List ℕ) (n : ℕ) → (greatest_divisor ws n ≡ 0) ⊎ (divides_each (greatest_divisor ws n) ws ≡ true)
unfolding greatest_divisor
found_divides ws zero = inl refl
found_divides ws (suc n) =
    cond_both (divides_each (suc n) ws) (suc n) (greatest_divisor ws n) (λ d. (d ≡ 0) ⊎ (divides_each d ws ≡ true))
    (λ holds. inr holds) (λ fails. found_divides ws n)

found_greatest : (ws : List ℕ) (n d : ℕ) → d ≤ n → divides_each d ws ≡ true → d ≤ greatest_divisor ws n
unfolding greatest_divisor
found_greatest ws zero d h holds = h
found_greatest ws (suc n) d h holds =
    cond_both (divides_each (suc n) ws) (suc n) (greatest_divisor ws n) (λ g. d ≤ g)
    (λ _. h)
    (λ fails. elim (cases_lt n d) [
      | inl top ↦ let e : d ≡ suc n = omega arith in absurd (both_ways _ fails (rw e at holds))
      | inr under ↦ found_greatest ws n d under holds
    ])

-- one divides each weight
one_divides : (ws : List ℕ) → divides_each 1 ws ≡ true
one_divides ws = divides_by ws 1 (λ i _. dvd_of_mod-eq-zero 1 (mod-one (weight_of ws i)))

pub common_divisor-positive : (ws : List ℕ) → 0 < sum ws → 0 < common_divisor ws
unfolding common_divisor
common_divisor-positive ws some = omega (arith, found_greatest ws (sum ws) 1 some (one_divides ws))

pub common_divisor-divides : (ws : List ℕ) → 0 < sum ws → (i : ℕ) → common_divisor ws ∣ weight_of ws i
unfolding common_divisor
common_divisor-divides ws some i = elim (found_divides ws (sum ws)) [
  | inl none ↦ absurd (omega (arith, found_greatest ws (sum ws) 1 some (one_divides ws)))
  | inr holds ↦ each_divided ws (greatest_divisor ws (sum ws)) holds i
]

-- a sum is positive exactly where a weight is
pub sum-positive : (ws : List ℕ) → IsWeighted ws → 0 < sum ws
sum-positive ws some =
    let within = weight_past ws some.heavy some.weighs in
    let part : weight_of ws some.heavy ≤ sum ws = get_or-le-sum_by (λ (w : ℕ). w) ws some.heavy 0 within in
    omega (arith, some.weighs)

pub IsWeighted-from_sum : (ws : List ℕ) → 0 < sum ws → IsWeighted ws
IsWeighted-from_sum [] h = absurd (omega arith)
IsWeighted-from_sum (w ∷ ws) h = elim (cases_lt 0 w) [
  | inl here ↦ record { heavy = 0; weighs = here }
  | inr none ↦
      let later = IsWeighted-from_sum ws (omega (arith, sum_by-cons (λ (x : ℕ). x) w ws)) in
      record { heavy = suc later.heavy; weighs = later.weighs }
]

-- the shares are whole, and a period is their sum
pub HasShares-reduced : (ws : List ℕ) → IsWeighted ws → HasShares ws (share_of ws) (common_divisor ws)
HasShares-reduced ws some = record {
  positive = common_divisor-positive ws (sum-positive ws some);
  whole = λ i. sym (div-mul_cancel (common_divisor ws) (common_divisor-divides ws (sum-positive ws some) i));
}

pub total-share_of : (ws : List ℕ) → IsWeighted ws → total (share_of ws) (length ws) ≡ period_len ws
unfolding period_len
total-share_of ws some =
    let has = HasShares-reduced ws some in
    let scaled = total_scaled (share_of ws) (weight_of ws) (common_divisor ws) (length ws) has.whole in
    let whole : sum ws ≡ total (share_of ws) (length ws) * common_divisor ws = sym (total-weight_of ws) ∙ scaled in
    rw whole (sym (mul-div_cancel (total (share_of ws) (length ws)) has.positive))

-- a common divisor of the first n weights that every other one divides
pub record DividesFirst (ws : List ℕ) (n g : ℕ) : Type 0 where
  pub divides : (i : ℕ) → i < n → g ∣ weight_of ws i
  pub greatest : (d : ℕ) → ((i : ℕ) → i < n → d ∣ weight_of ws i) → d ∣ g

pub DividesFirst-none : (ws : List ℕ) → DividesFirst ws 0 0
DividesFirst-none ws = record { divides = λ i h. absurd (omega arith); greatest = λ d _. dvd-zero d }

pub DividesFirst-more : (ws : List ℕ) (n g k : ℕ) → DividesFirst ws n g → IsGcd g (weight_of ws n) k → DividesFirst ws (n + 1) k
DividesFirst-more ws n g k first step = record {
  divides = λ i h. elim (cases_lt i n) [
    | inl below ↦ dvd_trans k step.0 (first.divides i below)
    | inr top ↦ let e : i ≡ n = omega arith in rw e step.1
  ];
  greatest = λ d each. step.2 d (first.greatest d (λ i h. each i (omega arith))) (each n (omega arith));
}

zero_dvd : (n : ℕ) → 0 ∣ n → n ≡ 0
zero_dvd n h = dvd_antisymm (dvd-zero n) h

-- such a divisor is not 0 where a weight is not
pub divisor_positive : (ws : List ℕ) (g : ℕ) → DividesFirst ws (length ws) g → 0 < sum ws → 0 < g
divisor_positive ws g first some =
    let heavy = IsWeighted-from_sum ws some in
    let within = weight_past ws heavy.heavy heavy.weighs in
    elim (cases_lt 0 g) [
      | inl positive ↦ positive
      | inr none ↦
          let e : g ≡ 0 = omega arith in
          let zero_divides : 0 ∣ weight_of ws heavy.heavy = rw e at (first.divides heavy.heavy within) in
          absurd (omega (arith, zero_dvd (weight_of ws heavy.heavy) zero_divides, heavy.weighs))
    ]

-- and it is the common divisor
pub common_divisor-is : (ws : List ℕ) (g : ℕ) → DividesFirst ws (length ws) g → 0 < sum ws → common_divisor ws ≡ g
unfolding common_divisor
common_divisor-is ws g first some =
    let positive = divisor_positive ws g first some in
    let heavy = IsWeighted-from_sum ws some in
    let within = weight_past ws heavy.heavy heavy.weighs in
    let part : weight_of ws heavy.heavy ≤ sum ws = get_or-le-sum_by (λ (w : ℕ). w) ws heavy.heavy 0 within in
    let small : g ≤ weight_of ws heavy.heavy = le_of_dvd heavy.weighs (first.divides heavy.heavy within) in
    let up = found_greatest ws (sum ws) g (omega arith) (divides_by ws g first.divides) in
    let down = le_of_dvd positive (first.greatest (common_divisor ws) (λ i _. common_divisor-divides ws some i)) in
    omega arith

pub period_len-is : (ws : List ℕ) (g : ℕ) → DividesFirst ws (length ws) g → 0 < sum ws → sum ws / g ≡ period_len ws
unfolding period_len
period_len-is ws g first some = rw (common_divisor-is ws g first some) refl

pub period_len-zero : (ws : List ℕ) → sum ws ≡ 0 → period_len ws ≡ 0
unfolding period_len
period_len-zero ws none = rw none (zero-div (common_divisor ws))

-- a period is positive exactly where a weight is
pub period_len-positive : (ws : List ℕ) → IsWeighted ws → 0 < period_len ws
period_len-positive ws some =
    let has = HasShares-reduced ws some in
    let scaled = total_scaled (share_of ws) (weight_of ws) (common_divisor ws) (length ws) has.whole in
    let whole : sum ws ≡ total (share_of ws) (length ws) * common_divisor ws = sym (total-weight_of ws) ∙ scaled in
    elim (cases_lt 0 (total (share_of ws) (length ws))) [
      | inl positive ↦ omega (arith, total-share_of ws some)
      | inr none ↦
          let e : total (share_of ws) (length ws) ≡ 0 = omega arith in
          let flat : sum ws ≡ 0 * common_divisor ws = rw e at whole in
          absurd (omega (arith, sum-positive ws some))
    ]

pub IsWeighted-from_period : (ws : List ℕ) → 0 < period_len ws → IsWeighted ws
IsWeighted-from_period ws h = elim (cases_lt 0 (sum ws)) [
  | inl some ↦ IsWeighted-from_sum ws some
  | inr none ↦ absurd (omega (arith, period_len-zero ws (omega arith)))
]

-- the sum and the divisor of all weights, at the end of a loop over them
pub whole_sum : (ws : List ℕ) (n s : ℕ) → length ws ≤ n → s ≡ sum (take n ws) → s ≡ sum ws
whole_sum ws n s past e = e ∙ ap sum (take_all n ws past)

pub at_end : (ws : List ℕ) (n g : ℕ) → n ≡ length ws → DividesFirst ws n g → DividesFirst ws (length ws) g
at_end ws n g e first = rw e at first
