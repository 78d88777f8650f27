-- The counter of a mirror is its share, rounded up.
use Rattle.std.proofs.Common.{◌≡◌, ℕ, zero, suc, ◌+◌, ◌-◌, ◌*◌, ◌/◌, ◌%◌, ◌≤◌, nat_lt, if◌then◌else◌, refl, sym, ap, ◌∙◌, arith, add-one}
use Rattle.std.proofs.lemmas.Bool.Decides.{nat_tests}
use Rattle.std.specs.Int.{div_ceil}
use Rattle.mirror_failover.specs.Mirrors.{mirror_count, selects}

-- one more turn, from a share `x` to the share `y`
one_more : (x y percent count : ℕ) → y ≡ x + percent → percent ≤ 100 → count ≡ div_ceil x 100 → count + (if nat_lt (100 * count) y then 1 else 0) ≡ div_ceil y 100
one_more x y percent count e p c = grind (arith, nat_tests)

next_share : (percent n : ℕ) → suc n * percent ≡ n * percent + percent
next_share percent n = grind arith

pub mirror_count-share : (percent n : ℕ) → percent ≤ 100 → mirror_count percent n ≡ div_ceil (n * percent) 100
unfolding mirror_count
mirror_count-share percent zero p = grind arith
mirror_count-share percent (suc n) p =
    one_more (n * percent) (suc n * percent) percent (mirror_count percent n) (next_share percent n) p (mirror_count-share percent n p)

-- a hundred turns more do not matter: `part` is the share of the hundreds before
same_place : (part x y : ℕ) → nat_lt (100 * div_ceil (100 * part + x) 100) (100 * part + y) ≡ nat_lt (100 * div_ceil x 100) y
same_place part x y = grind (arith, nat_tests)

split_share : (whole place percent : ℕ) → (100 * whole + place) * percent ≡ 100 * (whole * percent) + place * percent
split_share whole place percent = grind arith

-- the test at a place among a hundred turns is the test at the turn
pub selects-place : (percent n : ℕ) → percent ≤ 100 → 1 ≤ n → nat_lt (100 * div_ceil ((n - 1) % 100 * percent) 100) (((n - 1) % 100 + 1) * percent) ≡ selects percent n
selects-place percent n p h =
    let whole : ℕ = (n - 1) / 100 in
    let place : ℕ = (n - 1) % 100 in
    let before : n - 1 ≡ 100 * whole + place = omega arith in
    let here : n ≡ 100 * whole + (place + 1) = omega arith in
    let count : mirror_count percent (n - 1) ≡ div_ceil (100 * (whole * percent) + place * percent) 100 =
    mirror_count-share percent (n - 1) p ∙ ap (λ k. div_ceil (k * percent) 100) before ∙ ap (λ k. div_ceil k 100) (split_share whole place percent) in
    let due : n * percent ≡ 100 * (whole * percent) + (place + 1) * percent =
    ap (λ k. k * percent) here ∙ split_share whole (place + 1) percent in
    sym (same_place (whole * percent) (place * percent) ((place + 1) * percent))
    ∙ ap (λ k. nat_lt (100 * k) (100 * (whole * percent) + (place + 1) * percent)) (sym count)
    ∙ ap (λ k. nat_lt (100 * mirror_count percent (n - 1)) k) (sym due)

suc-pred : (n : ℕ) → suc n - 1 ≡ n
suc-pred n = omega arith

-- each turn raises the count where the mirror gets it
pub mirror_count-next : (percent n : ℕ) → mirror_count percent (n + 1) ≡ mirror_count percent n + (if selects percent (n + 1) then 1 else 0)
unfolding mirror_count
mirror_count-next percent n = rw (add-one, suc-pred n) refl
