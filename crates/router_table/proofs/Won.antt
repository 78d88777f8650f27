-- The first row in order that serves a request.
use Rattle.std.proofs.Common.{◌≡◌, ℕ, ◌<◌, ◌≤◌, ◌==◌, ◌+◌, inl, inr, true, List, length, get_or, nat_lt, slice_get, Some, Contains, refl, sym, ap, ◌∙◌, subst, arith}
use Rattle.std.proofs.lemmas.Bool.{cases_lt, eqb-true, ltb-true}
use Rattle.std.specs.List.{list_all}
use Rattle.std.proofs.lemmas.List.Sums.{AllPass-from_list_all}
use Rattle.std.proofs.lemmas.List.Folds.{Any-from_list_any}
use Rattle.std.proofs.lemmas.Option.{slice_get-get_or}
use Rattle.rule_eval.specs.Truth.{Asked}
use Rattle.ip_net.specs.declared.ip.Ip.{Ip}
use Rattle.router_table.specs.Orders.{AreWithin, AreAll, AreInOrder}
use Rattle.router_table.specs.Winner.{Serves, ServesAs, IsWinner, NoWinner, is_enabled_state}
use Rattle.router_table.specs.declared.row.RouterState.{RouterState}
use Rattle.router_table.specs.declared.row.RouterState.TheVariants.{Enabled, Disabled}
use Rattle.router_table.specs.declared.row.Row.{Row}

-- none of the rows that were asked serves the request
abbrev pub NoneBefore : List Row → List ℕ → ℕ → List ℕ → Asked → Ip → Type 0
NoneBefore rows order i entry asked peer =
    (k n : ℕ) (row : Row) → k < i → slice_get order k ≡ Some n → slice_get rows n ≡ Some row → ¬ (Serves entry asked peer row)

enabled_as : (entry : List ℕ) (asked : Asked) (peer : Ip) (state : RouterState) → ServesAs entry asked peer state → is_enabled_state state ≡ true
enabled_as entry asked peer (Enabled service chain found) served = refl
enabled_as entry asked peer (Disabled fault) served = absurd served

-- the place of a row that serves, among those that are asked
asked_at : (rows : List Row) (order : List ℕ) (entry : List ℕ) (asked : Asked) (peer : Ip) (q : Row) → AreAll rows order → Contains rows q
    → Serves entry asked peer q → (j : ℕ) × ((n : ℕ) × (j < length order) × (slice_get order j ≡ Some n) × (slice_get rows n ≡ Some q))
asked_at rows order entry asked peer q all (n, l, at) served =
    let here : slice_get rows n ≡ Some q = slice_get-get_or rows n q l ∙ ap Some at in
    let (j, m, lj, there, same) = Any-from_list_any (λ k. k == n) order (all n q here (enabled_as entry asked peer q.state served)) in
    (j, (n, lj, slice_get-get_or order j m lj ∙ ap Some (there ∙ eqb-true m n same), here))

-- the first that serves is the winner
pub first_wins : (rows : List Row) (order : List ℕ) (entry : List ℕ) (asked : Asked) (peer : Ip) (i n : ℕ) (row : Row) → AreAll rows order → AreInOrder rows order
    → NoneBefore rows order i entry asked peer → slice_get order i ≡ Some n → slice_get rows n ≡ Some row → Serves entry asked peer row
    → IsWinner rows entry asked peer n
first_wins rows order entry asked peer i n row all sorted before here at serves = record {
  row = row;
  at = at;
  serves = serves;
  best = λ q has served.
      let (j, (m, lj, there, at_m)) = asked_at rows order entry asked peer q all has served in
      elim (cases_lt j i) [ inl l ↦ absurd (before j m q l there at_m served) | inr le ↦ sorted i j n m row q le here there at at_m ];
}

-- where none serves, there is no winner
pub none_wins : (rows : List Row) (order : List ℕ) (entry : List ℕ) (asked : Asked) (peer : Ip) (i : ℕ) → length order ≤ i → AreAll rows order
    → NoneBefore rows order i entry asked peer → NoWinner rows entry asked peer
none_wins rows order entry asked peer i over all before q has served =
    let (j, (m, lj, there, at_m)) = asked_at rows order entry asked peer q all has served in
    before j m q (omega (arith, lj, over)) there at_m served

-- the next row doesn't serve either
pub one_more_asked : (rows : List Row) (order : List ℕ) (entry : List ℕ) (asked : Asked) (peer : Ip) (i n : ℕ) (row : Row) → NoneBefore rows order i entry asked peer
    → slice_get order i ≡ Some n → slice_get rows n ≡ Some row → ¬ (Serves entry asked peer row) → NoneBefore rows order (i + 1) entry asked peer
one_more_asked rows order entry asked peer i n row before here at none k m q l there at_m served =
    elim (cases_lt k i) [
      | inl lower ↦ before k m q lower there at_m served
      | inr le ↦
          let e : k ≡ i = omega (arith, l, le) in
          let same : Some m ≡ Some n = sym there ∙ ap (λ w. slice_get order w) e ∙ here in
          let number : m ≡ n = cc in
          let rows_same : Some q ≡ Some row = sym at_m ∙ ap (λ w. slice_get rows w) number ∙ at in
          let one : q ≡ row = cc in
          none (subst (Serves entry asked peer) one served)
    ]

within_at : (len : ℕ) (numbers : List ℕ) → list_all (λ n. nat_lt n len) numbers ≡ true → (i : ℕ) → i < length numbers → get_or numbers i 0 < len
within_at len numbers all i l = ltb-true (get_or numbers i 0) len (AllPass-from_list_all (λ n. nat_lt n len) numbers all i 0 l)

-- the next number and its row
pub next_row : (rows row_items : List Row) (order numbers : List ℕ) (i : ℕ) (row : Row) → row_items ≡ rows → numbers ≡ order → AreWithin rows order
    → i < length numbers → row ≡ get_or row_items (get_or numbers i 0) row
    → (slice_get order i ≡ Some (get_or numbers i 0)) × (slice_get rows (get_or numbers i 0) ≡ Some row)
next_row rows row_items order numbers i row same_rows same_order within l at =
    let P : List ℕ → Type 0 = λ ns. list_all (λ n. nat_lt n (length rows)) ns ≡ true in
    let small : get_or numbers i 0 < length rows = within_at (length rows) numbers (subst P (sym same_order) within) i l in (
      ap (λ ns. slice_get ns i) (sym same_order) ∙ slice_get-get_or numbers i 0 l,
      slice_get-get_or rows (get_or numbers i 0) row small ∙ ap Some (ap (λ rs. get_or rs (get_or numbers i 0) row) (sym same_rows) ∙ sym at),
    )
