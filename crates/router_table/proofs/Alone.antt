-- A request has one winner at most.
use Rattle.std.proofs.Common.{[], refl, ◌≡◌, ℕ, ◌<◌, ◌<ℤ◌, inl, inr, List, map, length, slice_get, Some, None, Option, Contains, sym, ap, arith, nat_cmp}
use Rattle.std.specs.List.Sorted.{IsStrictlySortedBy}
use Rattle.std.specs.Cmp.Lexicographic.{slice_cmp}
use Rattle.std.specs.Ordering.{int_cmp}
use Rattle.std.proofs.lemmas.Bool.{cases_order}
use Rattle.std.proofs.lemmas.Cmp.{int_ranked, by_ranked}
use Rattle.std.proofs.lemmas.List.{length-map}
use Rattle.std.proofs.lemmas.Map.Keys.{Less-from_sorted}
use Rattle.std.proofs.lemmas.Option.{slice_get_within, get_or_from_slice_get}
use Rattle.rule_eval.specs.Truth.{Asked}
use Rattle.ip_net.specs.declared.ip.Ip.{Ip}
use Rattle.router_table.specs.Winner.{Beats, IsWinner, WinnerIs}
use Rattle.router_table.specs.declared.row.Row.{Row}
use Rattle.router_table.proofs.Ordered.{name_at}

row_held : (rows : List Row) (n : ℕ) (row : Row) → slice_get rows n ≡ Some row → Contains rows row
row_held rows n row at = (n, slice_get_within rows n row at, get_or_from_slice_get rows n row row at)

-- an earlier row with the same priority beats a later one
beats_later : (rows : List Row) (m n : ℕ) (p q : Row) → IsStrictlySortedBy (slice_cmp nat_cmp) (map (λ (r : Row). r.name) rows)
    → slice_get rows m ≡ Some p → slice_get rows n ≡ Some q → m < n → p.priority ≡ q.priority → Beats p q
beats_later rows m n p q rise at_m at_n l same =
    let inside : n < length (map (λ (r : Row). r.name) rows) = omega (arith, length-map rows (λ (r : Row). r.name), slice_get_within rows n q at_n) in
    let up = Less-from_sorted (slice_cmp nat_cmp) (map (λ (r : Row). r.name) rows) m n [] rise l inside in
    inr (same, rw (name_at rows m p at_m, name_at rows n q at_n) at up)

same_priority : (p q : Row) → ¬ (Beats p q) → ¬ (Beats q p) → p.priority ≡ q.priority
same_priority p q a b =
    by_ranked (p.priority <ℤ q.priority) (p.priority ≡ q.priority) (q.priority <ℤ p.priority) (int_cmp p.priority q.priority) (int_ranked p.priority q.priority _ refl)
    (λ _ l. absurd (b (inl l))) (λ _ e. e) (λ _ l. absurd (a (inl l)))

number_same : (rows : List Row) (entry : List ℕ) (asked : Asked) (peer : Ip) (m n : ℕ) → IsStrictlySortedBy (slice_cmp nat_cmp) (map (λ (r : Row). r.name) rows)
    → IsWinner rows entry asked peer m → IsWinner rows entry asked peer n → m ≡ n
number_same rows entry asked peer m n rise a b =
    let not_a = b.best a.row (row_held rows m a.row a.at) a.serves in
    let not_b = a.best b.row (row_held rows n b.row b.at) b.serves in
    let same = same_priority a.row b.row not_a not_b in
    elim (cases_order m n) [
      | inl e ↦ e
      | inr apart ↦ elim apart [
        | inl l ↦ absurd (not_a (beats_later rows m n a.row b.row rise a.at b.at l same))
        | inr l ↦ absurd (not_b (beats_later rows n m b.row a.row rise b.at a.at l (sym same)))
      ]
    ]

pub winner_same : (rows : List Row) (entry : List ℕ) (asked : Asked) (peer : Ip) (a b : Option ℕ) → IsStrictlySortedBy (slice_cmp nat_cmp) (map (λ (r : Row). r.name) rows)
    → WinnerIs rows entry asked peer a → WinnerIs rows entry asked peer b → a ≡ b
winner_same rows entry asked peer None None rise a b = refl
winner_same rows entry asked peer None (Some n) rise a b = absurd (a b.row (row_held rows n b.row b.at) b.serves)
winner_same rows entry asked peer (Some m) None rise a b = absurd (b a.row (row_held rows m a.row a.at) a.serves)
winner_same rows entry asked peer (Some m) (Some n) rise a b = ap Some (number_same rows entry asked peer m n rise a b)
