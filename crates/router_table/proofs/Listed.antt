-- Rows, one after another.
use Rattle.std.proofs.Common.{◌≡◌, ℕ, ◌+◌, ◌-◌, ◌^◌, ◌<◌, ◌≤◌, min, zero, suc, true, false, Bool, ◌&&◌, List, [], ◌∷◌, ◌++◌, length, map, drop, get_or, count_by, refl, sym, ap, ◌∙◌, subst, append_assoc, append-nil, add-one, arith, cond}
use Rattle.std.proofs.lemmas.Bool.{false≢true, leb-true}
use Rattle.std.proofs.Math.Seq.{drop-cons}
use Rattle.std.proofs.lemmas.List.{drop_all}
use Rattle.std.proofs.lemmas.List.Sums.{sum_by_push}
use Rattle.std.specs.List.{list_all}
use Rattle.px_base.specs.Bytes.{Rose}
use Rattle.dyn_config.specs.Joined.{is_qualified}
use Rattle.router_table.specs.Settings.{Setting, RouterEntry}
use Rattle.router_table.specs.Rows.{AreRows, IsRow, Leaves, is_refused}
use Rattle.router_table.specs.declared.row.Row.{Row}

-- one more row
pub row_more : (s : Setting) (spare left after : ℕ) (e : RouterEntry) (es all : List RouterEntry) (old new : List Row) (row : Row)
    → IsRow s left e row → Leaves left e.def after → new ≡ old ++ row ∷ []
    → ((rs : List Row) → AreRows s left (e ∷ es) rs → AreRows s spare all (old ++ rs))
    → (rs : List Row) → AreRows s after es rs → AreRows s spare all (new ++ rs)
row_more s spare left after e es all old new row is leaves grown before rs rest =
    let same : old ++ (row ∷ rs) ≡ new ++ rs = sym (append_assoc old (row ∷ []) rs) ∙ ap (λ w. w ++ rs) (sym grown) in
    subst (AreRows s spare all) same (before (row ∷ rs) (is, (after, leaves, rest)))

-- the same, where the router is the next one
pub row_next : (s : Setting) (spare left after : ℕ) (all items : List RouterEntry) (i : ℕ) (e : RouterEntry) (old new : List Row) (row : Row)
    → items ≡ all → i < length items → e ≡ get_or items i e → IsRow s left e row → Leaves left e.def after → new ≡ old ++ row ∷ []
    → ((rs : List Row) → AreRows s left (drop i all) rs → AreRows s spare all (old ++ rs))
    → (rs : List Row) → AreRows s after (drop (i + 1) all) rs → AreRows s spare all (new ++ rs)
row_next s spare left after all items i e old new row same inside at is leaves grown before =
    let P : List RouterEntry → Type 0 = λ es. i < length es in
    let l : i < length all = subst P same inside in
    let here : get_or all i e ≡ e = sym (at ∙ ap (λ es. get_or es i e) same) in
    let cut : drop i all ≡ e ∷ drop (i + 1) all = rw add-one (drop-cons all i e l ∙ ap (λ x. x ∷ drop (suc i) all) here) in
    row_more s spare left after e (drop (i + 1) all) all old new row is leaves grown (λ rs are. let Q : List RouterEntry → Type 0 = λ es. AreRows s left es rs in before rs (subst Q (sym cut) are))

-- all rows are there
pub rows_done : (s : Setting) (spare left : ℕ) (all items : List RouterEntry) (i : ℕ) (rows : List Row) → items ≡ all → length items ≤ i
    → ((rs : List Row) → AreRows s left (drop i all) rs → AreRows s spare all (rows ++ rs)) → AreRows s spare all rows
rows_done s spare left all items i rows same over before =
    let P : List RouterEntry → Type 0 = λ es. length es ≤ i in
    let none : drop i all ≡ [] = drop_all i all (subst P same over) in
    let Q : List RouterEntry → Type 0 = λ es. AreRows s left es [] in
    subst (AreRows s spare all) (append-nil rows) (before [] (subst Q (sym none) tt))

-- the rows have the names of the routers
pub rows_named : (s : Setting) (left : ℕ) (es : List RouterEntry) (rows : List Row) → AreRows s left es rows
    → map (λ (r : Row). r.name) rows ≡ map (λ (e : RouterEntry). e.name) es
rows_named s left [] [] are = refl
rows_named s left [] (r ∷ rs) are = absurd are
rows_named s left (e ∷ es) [] are = absurd are
rows_named s left (e ∷ es) (r ∷ rs) (is, (after, leaves, rest)) =
    ap (λ n. n ∷ map (λ (r : Row). r.name) rs) is.name ∙ ap (λ ns. e.name ∷ ns) (rows_named s after es rs rest)

and_left : (a b : Bool) → (a && b) ≡ true → a ≡ true
and_left true b e = refl
and_left false b e = e

and_right : (a b : Bool) → (a && b) ≡ true → b ≡ true
and_right true b e = e
and_right false b e = absurd (false≢true e)

provider_of : (e : RouterEntry) → is_qualified e ≡ true → e.provider ≤ 1
provider_of e q = leb-true e.provider 1 (and_left _ _ (and_left _ _ q))

-- each router's provider is 0 or 1
pub provider_at : (es : List RouterEntry) → list_all is_qualified es ≡ true → (k : ℕ) (d : RouterEntry) → k < length es → (get_or es k d).provider ≤ 1
provider_at [] all k d l = absurd (omega (arith, l))
provider_at (e ∷ es) all zero d l = provider_of e (and_left _ _ all)
provider_at (e ∷ es) all (suc k) d l = provider_at es (and_right (is_qualified e) _ all) k d (omega (arith, l))

counted : (r c : ℕ) (b : Bool) (old new : ℕ) → min (r + c) (2 ^ 64 - 1) ≤ old → old ≤ new → (b ≡ true → Rose old new) → min (r + (c + cond b 1 0)) (2 ^ 64 - 1) ≤ new
counted r c true old new before later rose = let h : min (old + 1) (2 ^ 64 - 1) ≤ new = rose refl in omega (arith, before, h)
counted r c false old new before later rose = omega (arith, before, later)

-- the count of refusals after one more row
pub refused_more : (start : ℕ) (rows grown : List Row) (row : Row) (old new : ℕ)
    → min (start + count_by (λ (r : Row). is_refused r.state) rows) (2 ^ 64 - 1) ≤ old → old ≤ new → (is_refused row.state ≡ true → Rose old new)
    → grown ≡ rows ++ row ∷ [] → min (start + count_by (λ (r : Row). is_refused r.state) grown) (2 ^ 64 - 1) ≤ new
refused_more start rows grown row old new before later rose e =
    let sums : count_by (λ (r : Row). is_refused r.state) grown ≡ count_by (λ (r : Row). is_refused r.state) rows + cond (is_refused row.state) 1 0 =
    ap (count_by (λ (r : Row). is_refused r.state)) e ∙ sum_by_push (λ (r : Row). cond (is_refused r.state) 1 0) rows row in
    rw sums (counted start (count_by (λ (r : Row). is_refused r.state) rows) (is_refused row.state) old new before later rose)
