-- The order in which rows are asked.
use Rattle.std.specs.Prelude.{◌≡◌, ℕ, ℤ, ◌<◌, ◌≤◌, ◌==◌, nat_lt, true, List, length, slice_get, Some, Any}
use Rattle.std.specs.declared.cmp.Reverse.{Reverse}
use Rattle.std.specs.List.{list_any, list_all}
use Rattle.router_table.specs.Winner.{Beats, is_enabled}
use Rattle.router_table.specs.declared.row.Row.{Row}

-- each number is that of a row
abbrev pub AreWithin : List Row → List ℕ → Type 0
AreWithin rows numbers = list_all (λ n. nat_lt n (length rows)) numbers ≡ true

-- each enabled row's number is among them
abbrev pub AreAll : List Row → List ℕ → Type 0
AreAll rows numbers = (n : ℕ) (row : Row) → slice_get rows n ≡ Some row → is_enabled row ≡ true → list_any (λ m. m == n) numbers ≡ true

-- no row beats one that is asked before it
abbrev pub AreInOrder : List Row → List ℕ → Type 0
AreInOrder rows numbers =
    (i j : ℕ) (m n : ℕ) (p q : Row) → i ≤ j → slice_get numbers i ≡ Some m → slice_get numbers j ≡ Some n
    → slice_get rows m ≡ Some p → slice_get rows n ≡ Some q → ¬ (Beats q p)

-- the priority and the number of a row, as it is put in order
abbrev pub Rank : Type 0
Rank = Reverse ℤ × ℕ

-- the rank is that of a row
abbrev pub IsRank : List Row → Rank → Type 0
IsRank rows rank = (row : Row) × (slice_get rows rank.1 ≡ Some row) × (rank.0.0 ≡ row.priority)

-- of the rows below a number, each enabled one has its rank among these
abbrev pub AreRanked : List Row → ℕ → List Rank → Type 0
AreRanked rows upto ranks =
    (n : ℕ) (row : Row) → n < upto → slice_get rows n ≡ Some row → is_enabled row ≡ true
    → Any (λ (rank : Rank). (rank.1 ≡ n)) ranks
