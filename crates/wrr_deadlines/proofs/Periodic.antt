-- The laws of the period, at the period that the weights have.
use Rattle.std.proofs.Common.{◌≡◌, ℕ, zero, suc, ◌+◌, ◌-◌, ◌*◌, ◌%◌, ◌<◌, ◌≤◌, inl, inr, List, length, sym, ◌∙◌, arith}
use Rattle.std.proofs.lemmas.Bool.{cases_lt}
use Rattle.wrr_deadlines.specs.Schedule.{weight_of, times_popped, IsWeighted}
use Rattle.wrr_deadlines.specs.Turn.{next_child, first_pops, popped_child}
use Rattle.wrr_deadlines.specs.Reduced.{common_divisor, share_of, period_len}
use Rattle.wrr_deadlines.proofs.Pops.{popped_child-is}
use Rattle.wrr_deadlines.proofs.Totals.{total}
use Rattle.wrr_deadlines.proofs.Periods.{turns}
use Rattle.wrr_deadlines.proofs.Repeats.{turns-add_period, next-add_period, next-mod_period, turn_between}
use Rattle.wrr_deadlines.proofs.Divisors.{HasShares-reduced, total-share_of, IsWeighted-from_period}

pub weight_of-whole : (ws : List ℕ) (i : ℕ) → IsWeighted ws → weight_of ws i ≡ share_of ws i * common_divisor ws
weight_of-whole ws i some = (HasShares-reduced ws some).whole i

pub period_len-none : (ws : List ℕ) → ¬ (IsWeighted ws) → period_len ws ≡ 0
period_len-none ws none = elim (cases_lt 0 (period_len ws)) [
  | inl some ↦ absurd (none (IsWeighted-from_period ws some))
  | inr flat ↦ omega arith
]

pub times_popped-add_period : (ws : List ℕ) (n i : ℕ) → IsWeighted ws → times_popped (first_pops ws (n + period_len ws)) i ≡ times_popped (first_pops ws n) i + share_of ws i
times_popped-add_period ws n i some =
    let more = turns-add_period ws (share_of ws) (common_divisor ws) some (HasShares-reduced ws some) n i in
    let len : total (share_of ws) (length ws) + n ≡ n + period_len ws = omega (arith, total-share_of ws some) in
    let here : turns ws (n + period_len ws) i ≡ share_of ws i + turns ws n i = rw len at more in
    omega arith

pub popped_child-add_period : (ws : List ℕ) (n : ℕ) → IsWeighted ws → 1 ≤ n → popped_child ws (n + period_len ws) ≡ popped_child ws n
popped_child-add_period ws n some h =
    let again = next-add_period ws (share_of ws) (common_divisor ws) some (HasShares-reduced ws some) (n - 1) in
    let len : total (share_of ws) (length ws) + (n - 1) ≡ n + period_len ws - 1 = omega (arith, total-share_of ws some) in
    popped_child-is ws (n + period_len ws) ∙ (rw len at again) ∙ sym (popped_child-is ws n)

-- the child after n pops, found in the first period
pub next-in_period : (ws : List ℕ) (n : ℕ) → IsWeighted ws → next_child ws (first_pops ws n) ≡ next_child ws (first_pops ws (n % period_len ws))
next-in_period ws n some =
    rw (total-share_of ws some) at (next-mod_period ws (share_of ws) (common_divisor ws) some (HasShares-reduced ws some) n)

-- a share of something is something
share_positive : (w s u : ℕ) → w ≡ s * u → 0 < w → 0 < s
share_positive w zero u e h = absurd (omega arith)
share_positive w (suc s) u e h = omega arith

after_found : (ws : List ℕ) (m c : ℕ) → next_child ws (first_pops ws m) ≡ c → next_child ws (first_pops ws (m + 1 - 1)) ≡ c
after_found ws m c e = let back : m + 1 - 1 ≡ m = omega arith in rw back e

-- each child of positive weight has a pop among any that are as many as a period
pub popped_in_period : (ws : List ℕ) (start c : ℕ) → IsWeighted ws → 0 < weight_of ws c → (n : ℕ) × (start < n) × (n ≤ start + period_len ws) × (popped_child ws n ≡ c)
popped_in_period ws start c some heavy =
    let positive = share_positive (weight_of ws c) (share_of ws c) (common_divisor ws) (weight_of-whole ws c some) heavy in
    let found = turn_between ws (period_len ws) start c (omega (arith, times_popped-add_period ws start c some)) in
    (found.0 + 1, omega (arith, found.1), omega (arith, found.2), popped_child-is ws (found.0 + 1) ∙ after_found ws found.0 c found.3)
