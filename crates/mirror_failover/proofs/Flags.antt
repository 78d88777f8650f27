-- The bits of a list of flags.
use Rattle.std.proofs.Common.{◌≡◌, ℕ, zero, suc, ◌+◌, ◌*◌, ◌^◌, ◌/◌, ◌%◌, ◌<◌, ◌≤◌, Bool, true, false, List, [], ◌∷◌, length, if◌then◌else◌, refl, ◌∙◌, ap, Some, IsTrue, ◌↔◌, map, drop, arith}
use Rattle.std.specs.Int.{bit_at}
use Rattle.std.specs.List.{slice_get}
use Rattle.std.specs.Option.{option_map}
use Rattle.std.proofs.lemmas.Nat.Bits.{bit_at-suc, bit_at_lowest, bit_at-zero}
use Rattle.std.proofs.Math.Nat.{pow-suc}
use Rattle.std.proofs.Math.Pow.{pow_mono}
use Rattle.std.proofs.lemmas.List.{length-map, length-drop}
use Rattle.std.proofs.lemmas.Option.{slice_get-map}
use Rattle.mirror_failover.specs.Mirrors.{flags_mask, selects, selection}

lowest : (flag : Bool) (m : ℕ) → ((if flag then 1 else 0) + 2 * m) % 2 ≡ (if flag then 1 else 0)
lowest true m = omega arith
lowest false m = omega arith

others : (flag : Bool) (m : ℕ) → ((if flag then 1 else 0) + 2 * m) / 2 ≡ m
others true m = omega arith
others false m = omega arith

-- bit i of the mask is flag i
pub bit_at-flags : (flags : List Bool) (i : ℕ) (flag : Bool) → slice_get flags i ≡ Some flag → bit_at (flags_mask flags) i ≡ (if flag then 1 else 0)
bit_at-flags [] i flag e = cc
bit_at-flags (first ∷ rest) zero flag e =
    let same : first ≡ flag = cc in
    bit_at_lowest (flags_mask (first ∷ rest)) ∙ lowest first (flags_mask rest) ∙ ap (λ f. if f then 1 else 0) same
bit_at-flags (first ∷ rest) (suc i) flag e =
    bit_at-suc (flags_mask (first ∷ rest)) i ∙ ap (λ m. bit_at m i) (others first (flags_mask rest)) ∙ bit_at-flags rest i flag e

doubled : (flag : Bool) (m p : ℕ) → m < p → (if flag then 1 else 0) + 2 * m < p * 2
doubled true m p h = omega arith
doubled false m p h = omega arith

-- a mask of n flags is below 2 ^ n
pub flags_mask-below : (flags : List Bool) → flags_mask flags < 2 ^ length flags
flags_mask-below [] = omega arith
flags_mask-below (flag ∷ flags) =
    rw (pow-suc 2 (length flags)) (doubled flag (flags_mask flags) (2 ^ length flags) (flags_mask-below flags))

-- no bit is set past the flags
pub bit_at-past : (flags : List Bool) (i : ℕ) → length flags ≤ i → bit_at (flags_mask flags) i ≡ 0
bit_at-past [] i h = bit_at-zero i
bit_at-past (first ∷ rest) zero h = absurd (omega arith)
bit_at-past (first ∷ rest) (suc i) h =
    bit_at-suc (flags_mask (first ∷ rest)) i ∙ ap (λ m. bit_at m i) (others first (flags_mask rest)) ∙ bit_at-past rest i (omega arith)

-- the flags of all mirrors but the first leave room for one more bit
pub mask_room : (f : ℕ → Bool) (percents : List ℕ) (i mask : ℕ) → length percents ≤ 63 → 0 < i → mask ≡ flags_mask (map f (drop i percents)) → mask < 2 ^ 62
mask_room f percents i mask few past e =
    let flags : List Bool = map f (drop i percents) in
    let count : length flags ≤ 62 = omega (arith, length-map (drop i percents) f, length-drop i percents) in
    omega (arith, e, flags_mask-below flags, pow_mono {i = length flags} {j = 62} count)

one_when : (flag : Bool) (bit : ℕ) → bit ≡ (if flag then 1 else 0) → (bit ≡ 1) ↔ IsTrue flag
one_when true bit e = (λ _. refl, λ _. e)
one_when false bit e = (λ h. absurd (omega (arith, e, h)), λ h. absurd (cc))

-- each mirror's bit says whether it gets the turn
pub selection-bit : (percents : List ℕ) (n mirror percent : ℕ) → slice_get percents mirror ≡ Some percent → (bit_at (selection percents n) mirror ≡ 1) ↔ IsTrue (selects percent n)
selection-bit percents n mirror percent e =
    let f : ℕ → Bool = λ p. selects p n in
    let here : slice_get (map f percents) mirror ≡ Some (f percent) =
    slice_get-map f percents mirror ∙ ap (option_map f) e in
    one_when (f percent) (bit_at (selection percents n) mirror) (bit_at-flags (map f percents) mirror (f percent) here)

-- no bit is set past the mirrors
pub selection-past : (percents : List ℕ) (n mirror : ℕ) → length percents ≤ mirror → bit_at (selection percents n) mirror ≡ 0
selection-past percents n mirror past =
    let f : ℕ → Bool = λ p. selects p n in
    bit_at-past (map f percents) mirror (omega (arith, length-map percents f))
