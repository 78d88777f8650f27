-- How the counts of a schedule follow its pops.
use Rattle.std.proofs.Common.{◌≡◌, ℕ, zero, suc, ◌+◌, ◌-◌, ◌*◌, ◌/◌, ◌%◌, ◌^◌, ◌<◌, ◌≤◌, ◌==◌, nat_lt, nat_eq, if◌then◌else◌, cond, inl, inr, List, [], ◌∷◌, ◌++◌, length, get_or, replicate, slice_index, refl, sym, ◌∙◌, ap, arith, add-one}
use Rattle.std.proofs.Math.Nat.{zero-mod, mul-mod_left}
use Rattle.std.proofs.lemmas.Bool.{cases_lt, eqb-true, eqb-false, lt-ltb, le-ltb, cond-true, cond-false, cond_both}
use Rattle.std.proofs.lemmas.Nat.{div-add-mod', mod-mul-add, mod_below}
use Rattle.std.proofs.lemmas.List.{get_or_past, get_or-replicate, length-replicate}
use Rattle.wrr_deadlines.specs.Schedule.{weight_of, job_of, IsWeighted}
use Rattle.wrr_deadlines.specs.Turn.{sooner, earliest, next_child, first_pops, popped_child}
use Rattle.wrr_deadlines.specs.Reduced.{period_len}
use Rattle.wrr_deadlines.specs.Counted.{IsCounted, IsTabled}
use Rattle.wrr_deadlines.proofs.Pops.{popped_child-is, first_pops-zero, first_pops-suc, length-first_pops, at-first_pops}
use Rattle.wrr_deadlines.proofs.Totals.{times_popped-nil}
use Rattle.wrr_deadlines.proofs.Periods.{turns, turns-le, turns-suc}
use Rattle.wrr_deadlines.proofs.Divisors.{period_len-positive}
use Rattle.wrr_deadlines.proofs.Periodic.{next-in_period}

-- one more child is looked at, and takes the place of the first or leaves it
pub earliest-takes : (ws counts : List ℕ) (n first jn jf wf wn : ℕ) → jn ≡ slice_index counts n → jf ≡ slice_index counts first → wf ≡ slice_index ws first → wn ≡ slice_index ws n → first ≡ earliest ws (λ i. slice_index counts i + 1) n → (jn + 1) * wf < (jf + 1) * wn → n ≡ earliest ws (λ i. slice_index counts i + 1) (n + 1)
unfolding earliest sooner
earliest-takes ws counts n first jn jf wf wn en ef eg eh found less =
    rw (add-one, ← found, ← en, ← ef, ← eg, ← eh) (sym (cond-true _ n first (lt-ltb _ _ less)))

pub earliest-keeps : (ws counts : List ℕ) (n first jn jf wf wn : ℕ) → jn ≡ slice_index counts n → jf ≡ slice_index counts first → wf ≡ slice_index ws first → wn ≡ slice_index ws n → first ≡ earliest ws (λ i. slice_index counts i + 1) n → (jf + 1) * wn ≤ (jn + 1) * wf → first ≡ earliest ws (λ i. slice_index counts i + 1) (n + 1)
unfolding earliest sooner
earliest-keeps ws counts n first jn jf wf wn en ef eg eh found most =
    rw (add-one, ← found, ← en, ← ef, ← eg, ← eh) (sym (cond-false _ n first (le-ltb _ _ most)))

pub earliest-zero : (ws : List ℕ) (job : ℕ → ℕ) → 0 ≡ earliest ws job 0
unfolding earliest
earliest-zero ws job = refl

earliest-le : (ws : List ℕ) (job : ℕ → ℕ) (n : ℕ) → earliest ws job n ≤ n
unfolding earliest sooner
earliest-le ws job zero = omega arith
earliest-le ws job (suc n) =
    cond_both (nat_lt (job n * weight_of ws (earliest ws job n)) (job (earliest ws job n) * weight_of ws n)) n (earliest ws job n) (λ k. k ≤ suc n)
    (λ _. omega arith) (λ _. omega (arith, earliest-le ws job n))

-- only the jobs of the children that are looked at count
earliest-same : (ws : List ℕ) (f g : ℕ → ℕ) (n : ℕ) → ((i : ℕ) → i < n → f i ≡ g i) → earliest ws f n ≡ earliest ws g n
unfolding earliest sooner
earliest-same ws f g zero same = refl
earliest-same ws f g (suc n) same =
    let before = earliest-same ws f g n (λ i h. same i (omega arith)) in
    let low = earliest-le ws g n in
    rw (before, same n (omega arith), same (earliest ws g n) (omega arith)) refl

-- the child that the counts find is the next pop
pub due_first-popped : (ws counts : List ℕ) (period taken : ℕ) → IsWeighted ws → IsCounted ws counts period taken → earliest ws (λ i. slice_index counts i + 1) (length ws) ≡ popped_child ws (taken + 1)
unfolding next_child
due_first-popped ws counts period taken some state =
    let same = earliest-same ws (λ i. slice_index counts i + 1) (job_of (first_pops ws (taken % period))) (length ws)
    (λ i h. ap (λ (x : ℕ). x + 1) (state.counted i h)) in
    let again = rw (← state.small.exact) at (next-in_period ws taken some) in
    let back : taken + 1 - 1 ≡ taken = omega arith in
    same ∙ sym again ∙ sym (rw back at (popped_child-is ws (taken + 1)))

-- no count is past the period
pub counts-small : (ws counts : List ℕ) (period taken : ℕ) → IsWeighted ws → IsCounted ws counts period taken → (i : ℕ) → slice_index counts i ≤ 65536
counts-small ws counts period taken some state i = elim (cases_lt i (length ws)) [
  | inl child ↦
      let positive : 0 < period = omega (arith, period_len-positive ws some, state.small.exact) in
      omega (arith, state.counted i child, turns-le ws (taken % period) i, mod_below taken period positive, state.small.short)
  | inr past ↦
      let none : slice_index counts i ≡ 0 = get_or_past counts i 0 (omega (arith, state.same)) in
      omega arith
]

-- a place within the period, and the next
mod_next : (n p : ℕ) → 0 < p → ((n + 1) % p ≡ 0 → ⊥) → (n + 1) % p ≡ n % p + 1
mod_next n p pos apart =
    let split = div-add-mod' n p in
    let below = mod_below n p pos in
    elim (cases_lt (n % p + 1) p) [
      | inl room ↦
          let e : n + 1 ≡ n / p * p + (n % p + 1) = omega arith in
          rw e (mod-mul-add (n / p) p (n % p + 1) room)
      | inr full ↦
          let e : n + 1 ≡ (n / p + 1) * p = omega arith in
          absurd (apart (rw e (mul-mod_left (n / p + 1) p)))
    ]

count_step : (ws : List ℕ) (count period taken child i : ℕ) → IsWeighted ws → 0 < period → period ≡ period_len ws → child ≡ popped_child ws (taken + 1) → count ≡ turns ws (taken % period) i → (if ((taken + 1) % period == 0) then 0 else count + (if child == i then 1 else 0)) ≡ turns ws ((taken + 1) % period) i
count_step ws count period taken child i some positive exact popped counted =
    cond_both (nat_eq ((taken + 1) % period) 0) 0 (count + cond {A = ℕ} (nat_eq child i) 1 0) (λ x. x ≡ turns ws ((taken + 1) % period) i)
    (λ e. let over : (taken + 1) % period ≡ 0 = eqb-true _ 0 e in
    rw (over, first_pops-zero ws) (sym (times_popped-nil i)))
    (λ e. let next = mod_next taken period positive (eqb-false _ 0 e) in
    let back : taken + 1 - 1 ≡ taken = omega arith in
    let who : next_child ws (first_pops ws (taken % period)) ≡ child =
    sym (rw (← exact) at (next-in_period ws taken some)) ∙ sym (rw back at (popped_child-is ws (taken + 1))) ∙ sym popped in
    rw (next, add-one, counted) (sym (rw who at (turns-suc ws (taken % period) i))))

-- a pop is counted, and the end of a period begins the counts again
pub IsCounted-popped : (ws old new : List ℕ) (period taken child : ℕ) → IsWeighted ws → IsCounted ws old period taken → taken < 2 ^ 62 → child ≡ popped_child ws (taken + 1) → length new ≡ length old → ((i : ℕ) → i < length old → slice_index new i ≡ (if ((taken + 1) % period == 0) then 0 else slice_index old i + (if child == i then 1 else 0))) → IsCounted ws new period (taken + 1)
IsCounted-popped ws old new period taken child some state room popped len each = record {
  small = state.small;
  same = len ∙ state.same;
  so_far = omega arith;
  counted = λ i h. each i (omega (arith, state.same)) ∙ count_step ws (slice_index old i) period taken child i some (omega (arith, period_len-positive ws some, state.small.exact)) state.small.exact popped (state.counted i h);
}

pub IsCounted-new : (ws counts : List ℕ) (period : ℕ) → length ws ≤ 64 → period ≤ 65536 → period ≡ period_len ws → counts ≡ replicate (length ws) 0 → IsCounted ws counts period 0
IsCounted-new ws counts period few short exact zeros = record {
  small = record { few = few; short = short; exact = exact };
  same = rw zeros (length-replicate (length ws) 0);
  so_far = omega arith;
  counted = λ i h. rw (zeros, zero-mod period, first_pops-zero ws, times_popped-nil i) (get_or-replicate (length ws) i 0 0 h);
}

-- the table's entry at a place of the first period
pub tabled_child : (ws pops : List ℕ) (n place : ℕ) → IsWeighted ws → IsTabled ws pops → 1 ≤ n → place ≡ (n - 1) % period_len ws → get_or pops place 0 ≡ popped_child ws n
tabled_child ws pops n place some state first at_place =
    let positive = period_len-positive ws some in
    let low = mod_below (n - 1) (period_len ws) positive in
    let inside : place < length pops = omega (arith, state.small.exact) in
    ap (λ (xs : List ℕ). get_or xs place 0) state.tabled
    ∙ at-first_pops ws place (length pops) inside
    ∙ ap (λ (m : ℕ). next_child ws (first_pops ws m)) at_place
    ∙ sym (next-in_period ws (n - 1) some)
    ∙ sym (popped_child-is ws n)

-- the table grows by the next pop
pub table_grows : (ws table new : List ℕ) (place taken child : ℕ) → table ≡ first_pops ws place → taken ≡ place → child ≡ popped_child ws (taken + 1) → new ≡ table ++ child ∷ [] → new ≡ first_pops ws (place + 1)
table_grows ws table new place taken child e at_place popped grown =
    let back : taken + 1 - 1 ≡ place = omega arith in
    let next : child ≡ next_child ws (first_pops ws place) = popped ∙ (rw back at (popped_child-is ws (taken + 1))) in
    grown ∙ rw (e, next, add-one) (sym (first_pops-suc ws place))

-- and is whole with the period
pub IsTabled-whole : (ws own table : List ℕ) (period place : ℕ) → own ≡ ws → length ws ≤ 64 → period_len ws ≤ 65536 → period ≡ period_len ws → place ≡ period → table ≡ first_pops ws place → IsTabled own table
IsTabled-whole ws own table period place same few short exact whole tabled =
    let len : length table ≡ place = ap length tabled ∙ length-first_pops ws place in
    rw same (record {
      small = record { few = few; short = omega arith; exact = omega arith };
      tabled = rw len tabled;
    })
