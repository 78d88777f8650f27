-- Totals over the numbers below n: of weights, of shares and of pops.
use Rattle.std.proofs.Common.{◌≡◌, ℕ, zero, suc, ◌+◌, ◌*◌, ◌<◌, ◌≤◌, nat_eq, cond, inl, inr, List, [], ◌∷◌, ◌++◌, length, take, sum, refl, ◌∙◌, ap, arith, add-one}
use Rattle.std.proofs.lemmas.Bool.{cases_lt, eq-eqb, ne_eqb, cond-true, cond-false}
use Rattle.std.proofs.lemmas.List.{take_all}
use Rattle.std.proofs.lemmas.List.Sums.{sum_by_push, sum_by_more}
use Rattle.wrr_deadlines.specs.Schedule.{weight_of, times_popped}

-- f 0 + .. + f (n - 1)
unfoldable pub total : (ℕ → ℕ) → ℕ → ℕ
total f zero = 0
total f (suc n) = total f n + f n

pub total-le : (f g : ℕ → ℕ) (n : ℕ) → ((i : ℕ) → i < n → f i ≤ g i) → total f n ≤ total g n
unfolding total
total-le f g zero h = omega arith
total-le f g (suc n) h =
    let below = total-le f g n (λ i b. h i (omega arith)) in
    let here = h n (omega arith) in
    omega arith

-- terms that are no greater, with a total that is no less, are equal
pub total_same : (f g : ℕ → ℕ) (n : ℕ) → ((i : ℕ) → i < n → f i ≤ g i) → total g n ≤ total f n → (i : ℕ) → i < n → f i ≡ g i
unfolding total
total_same f g zero h t i b = absurd (omega arith)
total_same f g (suc n) h t i b =
    let below = total-le f g n (λ k c. h k (omega arith)) in
    let here = h n (omega arith) in
    elim (cases_lt i n) [
      | inl under ↦ total_same f g n (λ k c. h k (omega arith)) (omega arith) i under
      | inr top ↦ let e : i ≡ n = omega arith in rw e (omega arith)
    ]

-- one term that is one greater
pub total_past : (f g : ℕ → ℕ) (x n : ℕ) → ((i : ℕ) → g i ≡ f i + cond (nat_eq x i) 1 0) → n ≤ x → total g n ≡ total f n
unfolding total
total_past f g x zero h b = refl
total_past f g x (suc n) h b =
    let below = total_past f g x n h (omega arith) in
    let here = h n in
    let no : cond {A = ℕ} (nat_eq x n) 1 0 ≡ 0 = cond-false {A = ℕ} (nat_eq x n) 1 0 (ne_eqb x n (λ e. omega arith)) in
    omega arith

pub total_more : (f g : ℕ → ℕ) (x n : ℕ) → ((i : ℕ) → g i ≡ f i + cond (nat_eq x i) 1 0) → x < n → total g n ≡ total f n + 1
unfolding total
total_more f g x zero h b = absurd (omega arith)
total_more f g x (suc n) h b = elim (cases_lt x n) [
  | inl under ↦
      let below = total_more f g x n h under in
      let here = h n in
      let no : cond {A = ℕ} (nat_eq x n) 1 0 ≡ 0 = cond-false {A = ℕ} (nat_eq x n) 1 0 (ne_eqb x n (λ e. omega arith)) in
      omega arith
  | inr top ↦
      let e : x ≡ n = omega arith in
      let below = total_past f g x n h top in
      let here = h n in
      let yes : cond {A = ℕ} (nat_eq x n) 1 0 ≡ 1 = cond-true {A = ℕ} (nat_eq x n) 1 0 (eq-eqb x n e) in
      omega arith
]

pub total-zero : (f : ℕ → ℕ) (n : ℕ) → ((i : ℕ) → f i ≡ 0) → total f n ≡ 0
unfolding total
total-zero f zero h = refl
total-zero f (suc n) h = omega (arith, total-zero f n h, h n)

pub total_scaled : (f g : ℕ → ℕ) (d n : ℕ) → ((i : ℕ) → g i ≡ f i * d) → total g n ≡ total f n * d
unfolding total
total_scaled f g d zero h = omega arith
total_scaled f g d (suc n) h = omega (arith, total_scaled f g d n h, h n)

total_weights : (ws : List ℕ) (n : ℕ) → n ≤ length ws → total (weight_of ws) n ≡ sum (take n ws)
unfolding total
total_weights ws zero h = refl
total_weights ws (suc n) h =
    let below = total_weights ws n (omega arith) in
    let more = rw add-one at (sum_by_more (λ x. x) ws n 0 (omega arith)) in
    omega arith

pub total-weight_of : (ws : List ℕ) → total (weight_of ws) (length ws) ≡ sum ws
total-weight_of ws = total_weights ws (length ws) (omega arith) ∙ ap sum (take_all (length ws) ws (omega arith))

pub times_popped-push : (pops : List ℕ) (x i : ℕ) → times_popped (pops ++ x ∷ []) i ≡ times_popped pops i + cond (nat_eq x i) 1 0
unfolding times_popped
times_popped-push pops x i = sum_by_push (λ (c : ℕ). cond (nat_eq c i) 1 0) pops x

pub times_popped-nil : (i : ℕ) → times_popped [] i ≡ 0
unfolding times_popped
times_popped-nil i = refl
