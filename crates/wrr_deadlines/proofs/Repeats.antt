-- After a period the same child is next as at the beginning, and no child of positive weight is
-- without a pop for as long as a period.
use Rattle.std.proofs.Common.{◌≡◌, ℕ, zero, suc, ◌+◌, ◌*◌, ◌/◌, ◌%◌, ◌<◌, ◌≤◌, inl, inr, List, length, refl, sym, ◌∙◌, ap, arith}
use Rattle.std.proofs.lemmas.Bool.{cases_eq}
use Rattle.std.proofs.lemmas.Nat.{div-add-mod'}
use Rattle.wrr_deadlines.specs.Schedule.{times_popped, IsWeighted, IsDueBefore}
use Rattle.wrr_deadlines.specs.Turn.{next_child, first_pops}
use Rattle.wrr_deadlines.proofs.Earliest.{IsNext-next_child, IsNext-alone}
use Rattle.wrr_deadlines.proofs.Totals.{total}
use Rattle.wrr_deadlines.proofs.Periods.{turns, turns-zero, turns_same, turns_other, HasShares, turns-period}

shift_lt : (si sj bi bj u : ℕ) → (bi + 1) * (sj * u) < (bj + 1) * (si * u) → (si + bi + 1) * (sj * u) < (sj + bj + 1) * (si * u)
shift_lt si sj bi bj u h = omega arith

shift_eq : (si sj bi bj u : ℕ) → (bi + 1) * (sj * u) ≡ (bj + 1) * (si * u) → (si + bi + 1) * (sj * u) ≡ (sj + bj + 1) * (si * u)
shift_eq si sj bi bj u h = omega arith

-- one more period before changes no order
module _ (ws : List ℕ) (share : ℕ → ℕ) (unit : ℕ) (some : IsWeighted ws) (has : HasShares ws share unit) where
  IsDueBefore_later : (long short : List ℕ) → ((i : ℕ) → times_popped long i ≡ share i + times_popped short i) → (i j : ℕ) → IsDueBefore ws short i j → IsDueBefore ws long i j
  IsDueBefore_later long short more i j (inl less) =
      inl (rw (more i, more j, has.whole i, has.whole j) (shift_lt (share i) (share j) (times_popped short i) (times_popped short j) unit (rw (has.whole i, has.whole j) at less)))
  IsDueBefore_later long short more i j (inr both) =
      inr (rw (more i, more j, has.whole i, has.whole j) (shift_eq (share i) (share j) (times_popped short i) (times_popped short j) unit (rw (has.whole i, has.whole j) at both.0)), both.1)

  same_next : (long short : List ℕ) → ((i : ℕ) → times_popped long i ≡ share i + times_popped short i) → next_child ws long ≡ next_child ws short
  same_next long short more =
      let next = IsNext-next_child ws short some in
      IsNext-alone ws long _ _ (IsNext-next_child ws long some)
      (record {
        weighs = next.weighs;
        first = λ j heavy other. IsDueBefore_later long short more (next_child ws short) j (next.first j heavy other);
      })

  -- a period pops each child as often as its share, wherever it begins
  pub turns-add_period : (n i : ℕ) → turns ws (total share (length ws) + n) i ≡ share i + turns ws n i
  turns-add_period zero i =
      let first = turns-period ws share unit some has i in
      let whole : total share (length ws) + 0 ≡ total share (length ws) = omega arith in
      rw whole (omega (arith, turns-zero ws i))
  turns-add_period (suc n) i =
      let before = turns-add_period n i in
      let next = same_next (first_pops ws (total share (length ws) + n)) (first_pops ws n) (turns-add_period n) in
      let more : total share (length ws) + suc n ≡ suc (total share (length ws) + n) = omega arith in
      elim (cases_eq (next_child ws (first_pops ws n)) i) [
        | inl same ↦
            let a = turns_same ws n i same in
            let b = turns_same ws (total share (length ws) + n) i (next ∙ same) in
            rw more (omega arith)
        | inr other ↦
            let a = turns_other ws n i other in
            let b = turns_other ws (total share (length ws) + n) i (λ e. other (sym next ∙ e)) in
            rw more (omega arith)
      ]

  pub next-add_period : (n : ℕ) → next_child ws (first_pops ws (total share (length ws) + n)) ≡ next_child ws (first_pops ws n)
  next-add_period n = same_next (first_pops ws (total share (length ws) + n)) (first_pops ws n) (turns-add_period n)

  next-add_periods : (q n : ℕ) → next_child ws (first_pops ws (q * total share (length ws) + n)) ≡ next_child ws (first_pops ws n)
  next-add_periods zero n =
      let e : 0 * total share (length ws) + n ≡ n = omega arith in
      rw e refl
  next-add_periods (suc q) n =
      let e : suc q * total share (length ws) + n ≡ total share (length ws) + (q * total share (length ws) + n) = omega arith in
      rw e (next-add_period (q * total share (length ws) + n) ∙ next-add_periods q n)

  pub next-mod_period : (n : ℕ) → next_child ws (first_pops ws n) ≡ next_child ws (first_pops ws (n % total share (length ws)))
  next-mod_period n =
      ap (λ (m : ℕ). next_child ws (first_pops ws m)) (sym (div-add-mod' n (total share (length ws))))
      ∙ next-add_periods (n / total share (length ws)) (n % total share (length ws))

-- a child that is popped more often after k more pops is one of them
pub turn_between : (ws : List ℕ) (k start c : ℕ) → turns ws start c < turns ws (start + k) c → (m : ℕ) × (start ≤ m) × (m < start + k) × (next_child ws (first_pops ws m) ≡ c)
turn_between ws zero start c h =
    let e : start + 0 ≡ start = omega arith in
    let g : turns ws start c < turns ws start c = rw e at h in
    absurd (omega arith)
turn_between ws (suc k) start c h =
    let e : start + suc k ≡ suc (start + k) = omega arith in
    let g : turns ws start c < turns ws (suc (start + k)) c = rw e at h in
    elim (cases_eq (next_child ws (first_pops ws (start + k))) c) [
      | inl same ↦ (start + k, omega arith, omega arith, same)
      | inr other ↦
          let found = turn_between ws k start c (omega (arith, turns_other ws (start + k) c other)) in
          (found.0, found.1, omega (arith, found.2), found.3)
    ]
