-- The child that `earliest` finds is due before each other child.
use Rattle.std.proofs.Common.{◌≡◌, ◌≢◌, ℕ, zero, suc, ◌*◌, ◌<◌, ◌≤◌, nat_lt, inl, inr, List, length, refl, sym, arith}
use Rattle.std.proofs.Math.Nat.{mul-le-mul_right, mul-lt-mul_of_pos_right}
use Rattle.std.proofs.lemmas.Bool.{ltb-true, ltb-false, cases_lt, cases_eq, cond_both}
use Rattle.std.proofs.lemmas.List.{get_or_past}
use native.Mathlib.Numerals.{unary_clauses}
use Rattle.wrr_deadlines.specs.Schedule.{weight_of, IsWeighted, job_of, IsDueBefore, IsNext}
use Rattle.wrr_deadlines.specs.Turn.{sooner, earliest, next_child}

pub product_positive : (a b : ℕ) → 0 < a → 0 < b → 0 < a * b
product_positive zero b pa pb = absurd (omega arith)
product_positive (suc a) zero pa pb = absurd (omega arith)
product_positive (suc a) (suc b) pa pb = omega arith

-- a / x < b / y and b / y ≤ c / z give a / x < c / z
pub fraction_lt_le : (a x b y c z : ℕ) → 0 < c → 0 < x → 0 < y → a * y < b * x → b * z ≤ c * y → a * z < c * x
fraction_lt_le a x b y c z pc px py less most =
    elim (cases_lt (a * z) (c * x)) [
      | inl h ↦ h
      | inr h ↦ elim (cases_lt 0 z) [
        | inl pz ↦
            let step : (a * y) * z < (b * x) * z = mul-lt-mul_of_pos_right less pz in
            let up : (b * z) * x ≤ (c * y) * x = mul-le-mul_right x most in
            let back : (c * x) * y ≤ (a * z) * y = mul-le-mul_right y h in
            absurd (omega arith)
        | inr nz ↦
            let none : z ≡ 0 = omega arith in
            let pos = product_positive c x pc px in
            let flat : a * z ≡ 0 = grind arith in
            omega arith
      ]
    ]

-- a product that is not 0 has no factor that is 0
pub positive_right : (a b : ℕ) → 0 < a * b → 0 < b
positive_right a zero h = absurd (omega arith)
positive_right a (suc b) h = omega arith

-- and a product that is 0, by a factor that is not, has the other factor 0
pub no_weight : (a b : ℕ) → 0 < a → a * b ≤ 0 → b ≡ 0
no_weight a zero pa h = refl
no_weight zero (suc b) pa h = absurd (omega arith)
no_weight (suc a) (suc b) pa h = absurd (omega arith)

-- a child that no weight reaches has none
pub weight_past : (ws : List ℕ) (i : ℕ) → 0 < weight_of ws i → i < length ws
weight_past ws i h = elim (cases_lt i (length ws)) [
  | inl below ↦ below
  | inr past ↦ let none : weight_of ws i ≡ 0 = get_or_past ws i 0 past in absurd (omega arith)
]

-- i is due before each of the first n children; before a lower child strictly, where i has weight
record Leads (ws : List ℕ) (job : ℕ → ℕ) (n i : ℕ) : Type 0 where
  least : (j : ℕ) → j < n → job i * weight_of ws j ≤ job j * weight_of ws i
  lower : (j : ℕ) → j < i → 0 < weight_of ws i → job i * weight_of ws j < job j * weight_of ws i

-- n is due before j where it is due before i, which is due no later than j
leads_over : (ws : List ℕ) (job : ℕ → ℕ) → ((j : ℕ) → 0 < job j) → (n i j : ℕ) → 0 < weight_of ws n → job n * weight_of ws i < job i * weight_of ws n → job i * weight_of ws j ≤ job j * weight_of ws i → job n * weight_of ws j < job j * weight_of ws n
leads_over ws job pos n i j pn less most = elim (cases_lt 0 (weight_of ws i)) [
  | inl some ↦ fraction_lt_le (job n) (weight_of ws n) (job i) (weight_of ws i) (job j) (weight_of ws j) (pos j) pn some less most
  | inr none ↦
      let e : weight_of ws i ≡ 0 = omega arith in
      let flat : job i * weight_of ws j ≤ 0 = omega (arith, simp (e, unary_clauses) at most) in
      let zero_j : weight_of ws j ≡ 0 = no_weight (job i) (weight_of ws j) (pos i) flat in
      let up = product_positive (job j) (weight_of ws n) (pos j) pn in
      rw zero_j (omega arith)
]

-- the later one takes the lead
leads_takes : (ws : List ℕ) (job : ℕ → ℕ) → ((j : ℕ) → 0 < job j) → (n i : ℕ) → Leads ws job n i → job n * weight_of ws i < job i * weight_of ws n → Leads ws job (suc n) n
leads_takes ws job pos n i before less =
    let pn : 0 < weight_of ws n = positive_right (job i) (weight_of ws n) (omega arith) in
    let strict : (j : ℕ) → j < n → job n * weight_of ws j < job j * weight_of ws n =
    λ j h. leads_over ws job pos n i j pn less (before.least j h) in
    record {
      least = λ j h. elim (cases_lt j n) [
        | inl below ↦ let e : job n * weight_of ws j < job j * weight_of ws n = strict j below in omega arith
        | inr above ↦ let e : j ≡ n = omega arith in rw e (omega arith)
      ];
      lower = λ j h _. strict j h;
    }

-- the earlier one keeps it
leads_keeps : (ws : List ℕ) (job : ℕ → ℕ) (n i : ℕ) → Leads ws job n i → job i * weight_of ws n ≤ job n * weight_of ws i → Leads ws job (suc n) i
leads_keeps ws job n i before most =
    record {
      least = λ j h. elim (cases_lt j n) [
        | inl below ↦ before.least j below
        | inr above ↦ let e : j ≡ n = omega arith in rw e most
      ];
      lower = before.lower;
    }

leads_sooner : (ws : List ℕ) (job : ℕ → ℕ) → ((j : ℕ) → 0 < job j) → (n i : ℕ) → Leads ws job n i → Leads ws job (suc n) (sooner ws job i n)
unfolding sooner
leads_sooner ws job pos n i before =
    cond_both (nat_lt (job n * weight_of ws i) (job i * weight_of ws n)) n i (λ k. Leads ws job (suc n) k)
    (λ e. leads_takes ws job pos n i before (ltb-true _ _ e))
    (λ e. leads_keeps ws job n i before (ltb-false _ _ e))

leads_earliest : (ws : List ℕ) (job : ℕ → ℕ) → ((j : ℕ) → 0 < job j) → (n : ℕ) → Leads ws job n (earliest ws job n)
unfolding earliest
leads_earliest ws job pos zero = record { least = λ j h. absurd (omega arith); lower = λ j h _. absurd (omega arith) }
leads_earliest ws job pos (suc n) = leads_sooner ws job pos n (earliest ws job n) (leads_earliest ws job pos n)

IsDueBefore-from_leads : (ws pops : List ℕ) (i j : ℕ) → job_of pops i * weight_of ws j ≤ job_of pops j * weight_of ws i → (j < i → job_of pops i * weight_of ws j < job_of pops j * weight_of ws i) → j ≢ i → IsDueBefore ws pops i j
IsDueBefore-from_leads ws pops i j most lower other = elim (cases_lt (job_of pops i * weight_of ws j) (job_of pops j * weight_of ws i)) [
  | inl less ↦ inl less
  | inr back ↦ elim (cases_lt i j) [
    | inl below ↦ inr (omega arith, below)
    | inr above ↦
        let under : j < i = omega arith in
        let strict : job_of pops i * weight_of ws j < job_of pops j * weight_of ws i = lower under in
        absurd (omega arith)
  ]
]

-- to lead all children is to be next, where a weight is positive
IsNext-from_leads : (ws pops : List ℕ) → IsWeighted ws → (i : ℕ) → Leads ws (job_of pops) (length ws) i → IsNext ws pops i
IsNext-from_leads ws pops some i leads =
    let within = weight_past ws some.heavy some.weighs in
    let first_least : job_of pops i * weight_of ws some.heavy ≤ job_of pops some.heavy * weight_of ws i = leads.least some.heavy within in
    let above : 0 < job_of pops i * weight_of ws some.heavy = product_positive (job_of pops i) (weight_of ws some.heavy) (omega arith) some.weighs in
    let pi : 0 < weight_of ws i = positive_right (job_of pops some.heavy) (weight_of ws i) (omega arith) in
    record {
      weighs = pi;
      first = λ j pj other. IsDueBefore-from_leads ws pops i j (leads.least j (weight_past ws j pj)) (λ h. leads.lower j h pi) other;
    }

-- where a weight is positive, the child that `next_child` names is next
pub IsNext-next_child : (ws pops : List ℕ) → IsWeighted ws → IsNext ws pops (next_child ws pops)
unfolding next_child
IsNext-next_child ws pops some =
    IsNext-from_leads ws pops some (earliest ws (job_of pops) (length ws)) (leads_earliest ws (job_of pops) (λ j. omega arith) (length ws))

not_both : (ws pops : List ℕ) (i k : ℕ) → IsDueBefore ws pops i k → IsDueBefore ws pops k i → ⊥
not_both ws pops i k (inl a) (inl b) = omega arith
not_both ws pops i k (inl a) (inr b) = omega arith
not_both ws pops i k (inr a) (inl b) = omega arith
not_both ws pops i k (inr a) (inr b) = omega arith

-- of two children only one is next
pub IsNext-alone : (ws pops : List ℕ) (i k : ℕ) → IsNext ws pops i → IsNext ws pops k → i ≡ k
IsNext-alone ws pops i k a b = elim (cases_eq i k) [
  | inl same ↦ same
  | inr other ↦ absurd (not_both ws pops i k (a.first k b.weighs (λ e. other (sym e))) (b.first i a.weighs other))
]
