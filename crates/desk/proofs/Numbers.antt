-- Generations under numbers that run up.
use Rattle.std.proofs.Common.{◌≡◌, ℕ, ◌+◌, ◌≤◌, List, [], ◌∷◌, ◌++◌, length, refl, sym, ap, ◌∙◌, subst, arith, append-nil, length-append}
use Rattle.conversation.specs.Plans.{Plan}
use Rattle.desk.specs.Desks.{IsNumbered, IsLast, IsGreatest, Grew}

-- the numbers run up from this one
abbrev IsRun : ℕ → List Plan → Type 0
IsRun n [] = Unit {0}
IsRun n (p ∷ ps) = (p.number ≡ n) × IsRun (n + 1) ps

run_of : (ps : List Plan) (p : Plan) → IsNumbered (p ∷ ps) → IsRun p.number (p ∷ ps)
run_of [] p h = (refl, tt)
run_of (q ∷ ps) p h = (refl, subst (λ (k : ℕ). IsRun k (q ∷ ps)) (h [] ps p q refl) (run_of ps q (λ before after x y e. h (p ∷ before) after x y (ap (λ (zs : List Plan). p ∷ zs) e))))

some_run : (ps : List Plan) (p : Plan) → IsNumbered (ps ++ p ∷ []) → (n : ℕ) × IsRun n (ps ++ p ∷ [])
some_run [] p h = (p.number, run_of [] p h)
some_run (x ∷ ps) p h = (x.number, run_of (ps ++ p ∷ []) x h)

next_of : (n : ℕ) (before after : List Plan) (p q : Plan) → IsRun n (before ++ p ∷ q ∷ after) → q.number ≡ p.number + 1
next_of n [] after p q r = r.1.0 ∙ ap (λ (k : ℕ). k + 1) (sym r.0)
next_of n (x ∷ before) after p q r = next_of (n + 1) before after p q r.1

numbered_of : (n : ℕ) (ps : List Plan) → IsRun n ps → IsNumbered ps
numbered_of n ps r = λ before after p q e. next_of n before after p q (subst (IsRun n) e r)

-- no number is below the first
run_from : (n : ℕ) (ps : List Plan) (p : Plan) → IsRun n (ps ++ p ∷ []) → n ≤ p.number
run_from n [] p h = omega (arith, h.0)
run_from n (q ∷ ps) p h = omega (arith, run_from (n + 1) ps p h.1)

greatest_of : (n : ℕ) (ps : List Plan) (p : Plan) → IsRun n (ps ++ p ∷ []) → IsGreatest (ps ++ p ∷ []) p
greatest_of n [] p h = (omega (arith), tt)
greatest_of n (q ∷ ps) p h = (omega (arith, h.0, run_from (n + 1) ps p h.1), greatest_of (n + 1) ps p h.1)

pub greatest_last : (ps : List Plan) (p : Plan) → IsNumbered (ps ++ p ∷ []) → IsGreatest (ps ++ p ∷ []) p
greatest_last ps p h = let r = some_run ps p h in greatest_of r.0 ps p r.1

pub greatest : (seen : List Plan) (issue : Plan) → IsNumbered seen → IsLast seen issue → IsGreatest seen issue
greatest seen issue h l = subst (λ (ps : List Plan). IsGreatest ps issue) (sym l.1) (greatest_last l.0 issue (subst IsNumbered l.1 h))

run_more : (n : ℕ) (ps : List Plan) (p q : Plan) → q.number ≡ p.number + 1 → IsRun n (ps ++ p ∷ []) → IsRun n ((ps ++ p ∷ []) ++ q ∷ [])
run_more n [] p q e h = (h.0, (e ∙ ap (λ (k : ℕ). k + 1) h.0, tt))
run_more n (r ∷ ps) p q e h = (h.0, run_more (n + 1) ps p q e h.1)

-- the next number may follow
pub numbered_more : (ps : List Plan) (p q : Plan) → q.number ≡ p.number + 1 → IsNumbered (ps ++ p ∷ []) → IsNumbered ((ps ++ p ∷ []) ++ q ∷ [])
numbered_more ps p q e h = let r = some_run ps p h in numbered_of r.0 ((ps ++ p ∷ []) ++ q ∷ []) (run_more r.0 ps p q e r.1)

pub numbered_one : (p : Plan) → IsNumbered (p ∷ [])
numbered_one p = numbered_of p.number (p ∷ []) (refl, tt)

-- the last number of a run tells how long it is
run_length : (n : ℕ) (ps : List Plan) (p : Plan) → IsRun n (ps ++ p ∷ []) → p.number ≡ n + length ps
run_length n [] p h = omega (arith, h.0)
run_length n (q ∷ ps) p h = omega (arith, run_length (n + 1) ps p h.1)

run_front : (n : ℕ) (ps qs : List Plan) → IsRun n (ps ++ qs) → IsRun n ps
run_front n [] qs h = tt
run_front n (p ∷ ps) qs h = (h.0, run_front (n + 1) ps qs h.1)

none_of : (ps : List Plan) → length ps ≡ 0 → ps ≡ []
none_of [] h = refl
none_of (p ∷ ps) h = absurd (omega (arith, h))

-- a list that grew and still ends with its number is the same
pub whole : (plans seen : List Plan) (p q : Plan) → IsNumbered seen → Grew plans seen → IsLast plans p → IsLast seen q → p.number ≡ q.number → seen ≡ plans
whole plans seen p q h g l m e =
    let r = some_run m.0 q (subst IsNumbered m.1 h) in
    let all : q.number ≡ r.0 + length m.0 = run_length r.0 m.0 q r.1 in
    let front : IsRun r.0 plans = run_front r.0 plans g.0 (subst (IsRun r.0) (sym m.1 ∙ g.1) r.1) in
    let some : p.number ≡ r.0 + length l.0 = run_length r.0 l.0 p (subst (IsRun r.0) l.1 front) in
    let seen_long : length seen ≡ length m.0 + length (q ∷ []) = ap length m.1 ∙ length-append m.0 (q ∷ []) in
    let plans_long : length plans ≡ length l.0 + length (p ∷ []) = ap length l.1 ∙ length-append l.0 (p ∷ []) in
    let both_long : length seen ≡ length plans + length g.0 = ap length g.1 ∙ length-append plans g.0 in
    let none : length g.0 ≡ 0 = omega (arith, all, some, e, seen_long, plans_long, both_long) in
    g.1 ∙ ap (λ (ms : List Plan). plans ++ ms) (none_of g.0 none) ∙ append-nil plans
