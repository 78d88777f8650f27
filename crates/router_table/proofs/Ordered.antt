-- The order in which rows are asked.
use Rattle.std.proofs.Common.{◌≡◌, ℕ, ℤ, pos, ◌+◌, ◌<◌, ◌<ℤ◌, inl, inr, true, false, List, [], ◌∷◌, ◌++◌, length, map, get_or, slice_get, Some, All, Any, refl, sym, ap, ◌∙◌, subst, arith, nat_lt, ◌==◌, ◌&&◌, Ordering, Less, Equal, nat_cmp}
use Rattle.std.specs.List.{list_any, list_all}
use Rattle.std.specs.List.Sorted.{IsSorted, IsStrictlySortedBy, IsPermutation}
use Rattle.std.specs.Ordering.{int_cmp, ordering_then, is_lt}
use Rattle.std.specs.Cmp.{IsTotalOrder}
use Rattle.std.specs.Cmp.Lexicographic.{slice_cmp}
use Rattle.std.proofs.lemmas.Bool.{false≢true, lt-ltb, eq-eqb, cases_lt}
use Rattle.std.proofs.lemmas.List.Elements.{All-head, All-tail, Contains-append_left, Contains-push}
use Rattle.std.proofs.lemmas.Cmp.{int_ranked, ranked, by_ranked, int_cmp_total, nat_cmp_total, nat_list_cmp_total, tied_itself, then_total, on_total, back_total}
use Rattle.std.proofs.lemmas.List.{length-map, get_or-map}
use Rattle.std.proofs.lemmas.List.Sorted.{sorted_far, ranks_by, Contains-permutation}
use Rattle.std.proofs.lemmas.Map.Keys.{Less-from_sorted, any_passes_from_place}
use Rattle.std.proofs.lemmas.Option.{slice_get_within, slice_get-get_or, get_or_from_slice_get}
use Rattle.std.proofs.lemmas.Int.{ints}
use Rattle.router_table.specs.Orders.{AreAll, AreInOrder, Rank, IsRank, AreRanked}
use Rattle.router_table.specs.Winner.{Beats, is_enabled}
use Rattle.router_table.specs.declared.row.Row.{Row}

-- the order of ranks: the greater priority first, then the lesser number
abbrev pub rank_cmp : Rank → Rank → Ordering
rank_cmp x y = ordering_then (int_cmp y.0.0 x.0.0) (nat_cmp x.1 y.1)

equal_less : Equal ≡ Less → ⊥
equal_less e = cc

less_z : (a b : ℤ) → a <ℤ b → int_cmp a b ≡ Less
less_z a b l = by_ranked (a <ℤ b) (a ≡ b) (b <ℤ a) (int_cmp a b) (int_ranked a b (int_cmp a b) refl) (λ e _. e)
    (λ e h. absurd (omega (arith, ints, h, l))) (λ e h. absurd (omega (arith, ints, h, l)))

less_n : (a b : ℕ) → a < b → nat_cmp a b ≡ Less
less_n a b l = by_ranked (a < b) (a ≡ b) (b < a) (nat_cmp a b) (ranked a b (nat_cmp a b) refl) (λ e _. e)
    (λ e h. absurd (omega (arith, h, l))) (λ e h. absurd (omega (arith, h, l)))

then_first : (o p : Ordering) → o ≡ Less → is_lt (ordering_then o p) ≡ true
then_first o p e = ap (λ w. is_lt (ordering_then w p)) e

then_second : (o p : Ordering) → o ≡ Equal → p ≡ Less → is_lt (ordering_then o p) ≡ true
then_second o p e f = ap (λ w. is_lt (ordering_then w p)) e ∙ ap is_lt f

-- of two ranks in order, the later row doesn't beat the other
pub not_beaten : (x y : Rank) (p q : Row) → x.0.0 ≡ p.priority → y.0.0 ≡ q.priority
    → (slice_cmp nat_cmp q.name p.name ≡ Less → y.1 < x.1)
    → is_lt (ordering_then (int_cmp x.0.0 y.0.0) (nat_cmp y.1 x.1)) ≡ false → ¬ (Beats q p)
not_beaten x y p q xp yq named not_less (inl more) =
    let P : ℤ → Type 0 = λ z. z <ℤ y.0.0 in
    let Q : ℤ → Type 0 = λ z. p.priority <ℤ z in
    let l : x.0.0 <ℤ y.0.0 = subst P (sym xp) (subst Q (sym yq) more) in
    false≢true (sym not_less ∙ then_first (int_cmp x.0.0 y.0.0) (nat_cmp y.1 x.1) (less_z x.0.0 y.0.0 l))
not_beaten x y p q xp yq named not_less (inr (same, less)) =
    let e : x.0.0 ≡ y.0.0 = xp ∙ sym same ∙ sym yq in
    let tied : int_cmp x.0.0 y.0.0 ≡ Equal = ap (λ z. int_cmp x.0.0 z) (sym e) ∙ tied_itself int_cmp_total x.0.0 in
    false≢true (sym not_less ∙ then_second (int_cmp x.0.0 y.0.0) (nat_cmp y.1 x.1) tied (less_n y.1 x.1 (named less)))

pub rank_total : IsTotalOrder rank_cmp
rank_total = then_total (on_total (λ (t : Rank). t.0.0) (back_total int_cmp_total)) (on_total (λ (t : Rank). t.1) nat_cmp_total)

nowhere : Rank
nowhere = (record { 0 = pos 0 }, 0)

-- a number in the list of numbers is that of the rank there
number_at : (ranks : List Rank) (i m : ℕ) → slice_get (map (λ (x : Rank). x.1) ranks) i ≡ Some m
    → (i < length ranks) × ((get_or ranks i nowhere).1 ≡ m)
number_at ranks i m at =
    let inside : i < length (map (λ (x : Rank). x.1) ranks) = slice_get_within (map (λ (x : Rank). x.1) ranks) i m at in
    let l : i < length ranks = omega (arith, inside, length-map ranks (λ (x : Rank). x.1)) in
    (l, sym (get_or-map (λ (x : Rank). x.1) ranks i nowhere 0 l) ∙ get_or_from_slice_get (map (λ (x : Rank). x.1) ranks) i m 0 at)

same_row : (rows : List Row) (m n : ℕ) (p q : Row) → m ≡ n → slice_get rows m ≡ Some p → slice_get rows n ≡ Some q → p ≡ q
same_row rows m n p q e a b = let h : Some p ≡ Some q = sym a ∙ ap (λ k. slice_get rows k) e ∙ b in cc

-- the priority of a rank is that of its row
rank_priority : (rows : List Row) (x : Rank) (m : ℕ) (p : Row) → IsRank rows x → x.1 ≡ m → slice_get rows m ≡ Some p → x.0.0 ≡ p.priority
rank_priority rows x m p (row, at, own) e here = own ∙ ap (λ (r : Row). r.priority) (same_row rows x.1 m row p e at here)

pub name_at : (rows : List Row) (m : ℕ) (p : Row) → slice_get rows m ≡ Some p → get_or (map (λ (r : Row). r.name) rows) m [] ≡ p.name
name_at rows m p at =
    let l : m < length rows = slice_get_within rows m p at in
    get_or-map (λ (r : Row). r.name) rows m p [] l ∙ ap (λ (r : Row). r.name) (get_or_from_slice_get rows m p p at)

-- names rise with the numbers of their rows
name_falls : (rows : List Row) (m n : ℕ) (p q : Row) → IsStrictlySortedBy (slice_cmp nat_cmp) (map (λ (r : Row). r.name) rows)
    → slice_get rows m ≡ Some p → slice_get rows n ≡ Some q → slice_cmp nat_cmp q.name p.name ≡ Less → n < m
name_falls rows m n p q rise at_m at_n less =
    by_ranked (n < m) (n ≡ m) (m < n) (nat_cmp n m) (ranked n m (nat_cmp n m) refl) (λ _ l. l)
    (λ _ e.
    let one : q ≡ p = same_row rows n m q p e at_n at_m in
    let itself : slice_cmp nat_cmp p.name p.name ≡ Less = ap (λ (r : Row). slice_cmp nat_cmp r.name p.name) (sym one) ∙ less in
    absurd (equal_less (sym (tied_itself nat_list_cmp_total p.name) ∙ itself)))
    (λ _ l.
    let inside : n < length (map (λ (r : Row). r.name) rows) = omega (arith, length-map rows (λ (r : Row). r.name), slice_get_within rows n q at_n) in
    let up : slice_cmp nat_cmp (get_or (map (λ (r : Row). r.name) rows) m []) (get_or (map (λ (r : Row). r.name) rows) n []) ≡ Less = Less-from_sorted (slice_cmp nat_cmp) (map (λ (r : Row). r.name) rows) m n [] rise l inside in
    let over : slice_cmp nat_cmp p.name q.name ≡ Less = rw (name_at rows m p at_m, name_at rows n q at_n) at up in
    let there : slice_cmp nat_cmp q.name q.name ≡ Less = nat_list_cmp_total.trans q.name p.name q.name less over in
    absurd (equal_less (sym (tied_itself nat_list_cmp_total q.name) ∙ there)))

-- the numbers of ranks in order are in order
pub numbers_in_order : (rows : List Row) (ranks : List Rank) → All (IsRank rows) ranks → IsSorted rank_cmp ranks
    → IsStrictlySortedBy (slice_cmp nat_cmp) (map (λ (r : Row). r.name) rows) → AreInOrder rows (map (λ (x : Rank). x.1) ranks)
numbers_in_order rows ranks are up rise i j m n p q le at_i at_j at_m at_n =
    let a = number_at ranks i m at_i in
    let b = number_at ranks j n at_j in
    let x = get_or ranks i nowhere in
    let y = get_or ranks j nowhere in
    let not_less = sorted_far (λ s t. is_lt (rank_cmp s t)) (ranks_by rank_total (λ (t : Rank). t)) ranks up i j nowhere le b.0 in
    not_beaten x y p q (rank_priority rows x m p (are i nowhere a.0) a.1 at_m) (rank_priority rows y n q (are j nowhere b.0) b.1 at_n)
    (λ less. let h : n < m = name_falls rows m n p q rise at_m at_n less in omega (arith, h, a.1, b.1)) not_less

-- each number is that of a row
pub numbers_within : (rows : List Row) (ranks : List Rank) → All (IsRank rows) ranks → list_all (λ n. nat_lt n (length rows)) (map (λ (x : Rank). x.1) ranks) ≡ true
numbers_within rows [] are = refl
numbers_within rows (x ∷ ranks) are =
    let here = All-head (IsRank rows) x ranks are in
    let l : x.1 < length rows = slice_get_within rows x.1 here.0 here.1 in
    ap (λ b. b && list_all (λ n. nat_lt n (length rows)) (map (λ (y : Rank). y.1) ranks)) (lt-ltb x.1 (length rows) l)
    ∙ numbers_within rows ranks (All-tail (IsRank rows) x ranks are)

-- the number of a rank is among the numbers
number_listed : (ranks : List Rank) (n : ℕ) → Any (λ (x : Rank). x.1 ≡ n) ranks → list_any (λ m. m == n) (map (λ (x : Rank). x.1) ranks) ≡ true
number_listed ranks n (k, x, l, at, same) =
    let inside : k < length (map (λ (y : Rank). y.1) ranks) = omega (arith, l, length-map ranks (λ (y : Rank). y.1)) in
    let here : get_or (map (λ (y : Rank). y.1) ranks) k n ≡ n = get_or-map (λ (y : Rank). y.1) ranks k x n l ∙ ap (λ (y : Rank). y.1) at ∙ same in
    any_passes_from_place (λ m. m == n) (map (λ (y : Rank). y.1) ranks) k n (slice_get-get_or (map (λ (y : Rank). y.1) ranks) k n inside ∙ ap Some here) (eq-eqb n n refl)

any_moved : (P : Rank → Type 0) (xs ys : List Rank) → IsPermutation xs ys → Any P xs → Any P ys
any_moved P xs ys moved (k, x, l, at, p) =
    let (i, li, there) = Contains-permutation xs ys x moved (k, l, at) in (i, x, li, there, p)

-- each enabled row's number is among them, in whatever order
pub numbers_all : (rows : List Row) (xs ys : List Rank) → AreRanked rows (length rows) xs → IsPermutation xs ys → AreAll rows (map (λ (x : Rank). x.1) ys)
numbers_all rows xs ys are moved n row at on =
    number_listed ys n (any_moved (λ (x : Rank). x.1 ≡ n) xs ys moved (are n row (slice_get_within rows n row at) at on))

any_left : (old : List Rank) (rank : Rank) (m : ℕ) → Any (λ (x : Rank). x.1 ≡ m) old → Any (λ (x : Rank). x.1 ≡ m) (old ++ rank ∷ [])
any_left old rank m (k, x, l, at, same) =
    let (i, li, there) = Contains-append_left old (rank ∷ []) x (k, l, at) in (i, x, li, there, same)

any_last : (old : List Rank) (rank : Rank) (m : ℕ) → rank.1 ≡ m → Any (λ (x : Rank). x.1 ≡ m) (old ++ rank ∷ [])
any_last old rank m e = let (i, li, there) = Contains-push old rank in (i, rank, li, there, e)

-- the rank of one more row
pub ranks_more : (rows : List Row) (n : ℕ) (row : Row) (rank : Rank) (old new : List Rank) → AreRanked rows n old → slice_get rows n ≡ Some row → rank.1 ≡ n
    → new ≡ old ++ rank ∷ [] → AreRanked rows (n + 1) new
ranks_more rows n row rank old new before at own grown m other l at_m on =
    let P : List Rank → Type 0 = λ ranks. Any (λ (x : Rank). x.1 ≡ m) ranks in
    elim (cases_lt m n) [
      | inl lower ↦ subst P (sym grown) (any_left old rank m (before m other lower at_m on))
      | inr le ↦
          let e : rank.1 ≡ m = omega (arith, l, le, own) in
          subst P (sym grown) (any_last old rank m e)
    ]

-- a row that is not enabled needs none
pub ranks_skip : (rows : List Row) (n : ℕ) (row : Row) (ranks : List Rank) → AreRanked rows n ranks → slice_get rows n ≡ Some row → is_enabled row ≡ false
    → AreRanked rows (n + 1) ranks
ranks_skip rows n row ranks before at off m other l at_m on =
    elim (cases_lt m n) [
      | inl lower ↦ before m other lower at_m on
      | inr le ↦ absurd (false≢true (sym off ∙ ap is_enabled (same_row rows n m row other (omega (arith, l, le)) at at_m) ∙ on))
    ]
