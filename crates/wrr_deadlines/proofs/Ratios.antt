-- The schedule depends on the ratios of the weights alone.
use Rattle.std.proofs.Common.{◌≡◌, ℕ, ◌*◌, ◌<◌, ◌⊎◌, inl, inr, List, take, slice_index, sym, ◌∙◌, ap, arith}
use Rattle.std.proofs.Math.Nat.{mul-lt-mul_of_pos_left, lt_of_mul-lt-mul_left}
use Rattle.std.proofs.lemmas.Bool.{cases_order}
use Rattle.wrr_deadlines.specs.Schedule.{job_of, IsNext, IsDueBefore, IsEarliestDeadline, HaveRatio}
use Rattle.wrr_deadlines.proofs.Earliest.{positive_right, product_positive}

swap_in : (a b k w u : ℕ) → a * w ≡ b * u → a * (k * w) ≡ b * (k * u)
swap_in a b k w u e =
    let out : a * (k * w) ≡ k * (a * w) = omega arith in
    let back : k * (b * u) ≡ b * (k * u) = omega arith in
    out ∙ ap (λ (x : ℕ). k * x) e ∙ back

no_apart : (b x y : ℕ) → 0 < b → b * x ≡ b * y → (x < y) ⊎ (y < x) → ⊥
no_apart b x y pb e (inl less) = let up : b * x < b * y = mul-lt-mul_of_pos_left less pb in omega arith
no_apart b x y pb e (inr more) = let up : b * y < b * x = mul-lt-mul_of_pos_left more pb in omega arith

cancel_left : (b x y : ℕ) → 0 < b → b * x ≡ b * y → x ≡ y
cancel_left b x y pb e = elim (cases_order x y) [
  | inl same ↦ same
  | inr apart ↦ absurd (no_apart b x y pb e apart)
]

lt_scaled : (a b wi wj ui uj ki kj : ℕ) → 0 < a → a * wi ≡ b * ui → a * wj ≡ b * uj → ki * wj < kj * wi → ki * uj < kj * ui
lt_scaled a b wi wj ui uj ki kj pa ei ej less =
    let up : a * (ki * wj) < a * (kj * wi) = mul-lt-mul_of_pos_left less pa in
    let left : a * (ki * wj) ≡ b * (ki * uj) = swap_in a b ki wj uj ej in
    let right : a * (kj * wi) ≡ b * (kj * ui) = swap_in a b kj wi ui ei in
    let scaled : b * (ki * uj) < b * (kj * ui) = omega arith in
    lt_of_mul-lt-mul_left b scaled

eq_scaled : (a b wi wj ui uj ki kj : ℕ) → 0 < b → a * wi ≡ b * ui → a * wj ≡ b * uj → ki * wj ≡ kj * wi → ki * uj ≡ kj * ui
eq_scaled a b wi wj ui uj ki kj pb ei ej same =
    let left = swap_in a b ki wj uj ej in
    let right = swap_in a b kj wi ui ei in
    let scaled : b * (ki * uj) ≡ b * (kj * ui) = sym left ∙ ap (λ (x : ℕ). a * x) same ∙ right in
    cancel_left b (ki * uj) (kj * ui) pb scaled

IsDueBefore-scaled : (ws us : List ℕ) (a b : ℕ) → HaveRatio ws us a b → (pops : List ℕ) (i j : ℕ) → IsDueBefore ws pops i j → IsDueBefore us pops i j
IsDueBefore-scaled ws us a b ratio pops i j (inl less) =
    inl (lt_scaled a b _ _ _ _ (job_of pops i) (job_of pops j) ratio.left (ratio.each i) (ratio.each j) less)
IsDueBefore-scaled ws us a b ratio pops i j (inr both) =
    inr (eq_scaled a b _ _ _ _ (job_of pops i) (job_of pops j) ratio.right (ratio.each i) (ratio.each j) both.0, both.1)

heavy_scaled : (a b w u : ℕ) → 0 < a → a * w ≡ b * u → 0 < w → 0 < u
heavy_scaled a b w u pa e pw = positive_right b u (omega (arith, product_positive a w pa pw))

IsNext-scaled : (ws us : List ℕ) (a b : ℕ) → HaveRatio ws us a b → (pops : List ℕ) (i : ℕ) → IsNext ws pops i → IsNext us pops i
IsNext-scaled ws us a b ratio pops i next = record {
  weighs = heavy_scaled a b _ _ ratio.left (ratio.each i) next.weighs;
  first = λ j heavy other. IsDueBefore-scaled ws us a b ratio pops i j (next.first j (heavy_scaled b a _ _ ratio.right (sym (ratio.each j)) heavy) other);
}

pub IsEarliestDeadline-scaled : (ws us : List ℕ) (a b : ℕ) → HaveRatio ws us a b → (pops : List ℕ) → IsEarliestDeadline ws pops → IsEarliestDeadline us pops
IsEarliestDeadline-scaled ws us a b ratio pops lawful = λ p h. IsNext-scaled ws us a b ratio (take p pops) (slice_index pops p) (lawful p h)
