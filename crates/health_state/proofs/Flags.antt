-- The bits of a list of flags.
use Rattle.std.proofs.Common.{◌≡◌, ℕ, zero, suc, ◌+◌, ◌*◌, ◌^◌, ◌/◌, ◌%◌, ◌<◌, ◌≤◌, Bool, true, false, List, [], ◌∷◌, length, if◌then◌else◌, refl, ap, ◌∙◌, Some, IsTrue, ◌↔◌, arith}
use Rattle.std.specs.Int.{bit_at}
use Rattle.std.specs.List.{slice_get}
use Rattle.std.proofs.lemmas.Nat.Bits.{bit_at-suc, bit_at_lowest, bit_at-zero}
use Rattle.std.proofs.Math.Nat.{pow-suc}
use Rattle.health_state.specs.Marks.{flags_mask}

lowest : (flag : Bool) (m : ℕ) → ((if flag then 1 else 0) + 2 * m) % 2 ≡ (if flag then 1 else 0)
lowest true m = omega arith
lowest false m = omega arith

higher : (flag : Bool) (m : ℕ) → ((if flag then 1 else 0) + 2 * m) / 2 ≡ m
higher true m = omega arith
higher false m = omega arith

bit_at-next : (first : Bool) (rest : List Bool) (i : ℕ) → bit_at (flags_mask (first ∷ rest)) (suc i) ≡ bit_at (flags_mask rest) i
bit_at-next first rest i = bit_at-suc (flags_mask (first ∷ rest)) i ∙ ap (λ m. bit_at m i) (higher first (flags_mask rest))

-- bit i of the mask is flag i
bit_at-flags : (flags : List Bool) (i : ℕ) (flag : Bool) → slice_get flags i ≡ Some flag → bit_at (flags_mask flags) i ≡ (if flag then 1 else 0)
bit_at-flags [] i flag e = cc
bit_at-flags (first ∷ rest) zero flag e =
    let same : first ≡ flag = cc in
    bit_at_lowest (flags_mask (first ∷ rest)) ∙ lowest first (flags_mask rest) ∙ ap (λ f. if f then 1 else 0) same
bit_at-flags (first ∷ rest) (suc i) flag e = bit_at-next first rest i ∙ bit_at-flags rest i flag e

one_when : (flag : Bool) (bit : ℕ) → bit ≡ (if flag then 1 else 0) → (bit ≡ 1) ↔ IsTrue flag
one_when true bit e = (λ _. refl, λ _. e)
one_when false bit e = (λ h. absurd (omega (arith, e, h)), λ h. absurd (cc))

pub bit_when-flag : (flags : List Bool) (i : ℕ) (flag : Bool) → slice_get flags i ≡ Some flag → (bit_at (flags_mask flags) i ≡ 1) ↔ IsTrue flag
bit_when-flag flags i flag e = one_when flag (bit_at (flags_mask flags) i) (bit_at-flags flags i flag e)

-- no bit is set past the flags
pub bit_at-past : (flags : List Bool) (i : ℕ) → length flags ≤ i → bit_at (flags_mask flags) i ≡ 0
bit_at-past [] i h = bit_at-zero i
bit_at-past (first ∷ rest) zero h = absurd (omega arith)
bit_at-past (first ∷ rest) (suc i) h = bit_at-next first rest i ∙ bit_at-past rest i (omega arith)

doubled : (flag : Bool) (m p : ℕ) → m < p → (if flag then 1 else 0) + 2 * m < p * 2
doubled true m p h = omega arith
doubled false m p h = omega arith

-- a mask of n flags is below 2 ^ n
pub flags_mask-below : (flags : List Bool) → flags_mask flags < 2 ^ length flags
flags_mask-below [] = omega arith
flags_mask-below (flag ∷ flags) =
    rw (pow-suc 2 (length flags)) (doubled flag (flags_mask flags) (2 ^ length flags) (flags_mask-below flags))
