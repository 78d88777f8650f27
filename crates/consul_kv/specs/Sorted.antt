-- Keys in the order in which each stands right before those below it.
use Rattle.std.specs.Prelude.{◌≡◌, ℕ, ◌+◌, ◌<◌, ◌⊎◌, true, if◌then◌else◌, List, length, Option, Some, None}
use Rattle.std.specs.Ordering.{nat_cmp, is_lt}
use Rattle.std.specs.List.Sorted.{IsSortedBy}
use Rattle.std.specs.Cmp.Lexicographic.{slice_cmp}
use Rattle.consul_kv.specs.Keys.{Pair, key_cmp, key_at, has_empty_part, path_of, leads}

abbrev pub AreKeysSorted : List Pair → Type 0
AreKeysSorted pairs = IsSortedBy (λ (a b : Pair). is_lt (key_cmp a.0 b.0)) pairs

-- the key has an empty part, or leads to the next one
abbrev pub IsFound : List ℕ → List Pair → ℕ → Type 0
IsFound root pairs i = (has_empty_part (path_of root (key_at pairs i)) ≡ true) ⊎ ((i + 1 < length pairs) × (leads (key_at pairs i) (key_at pairs (i + 1)) ≡ true))

-- the lesser of two keys by their bytes, where there are two
abbrev pub lesser_of : Option (List ℕ) → List ℕ → List ℕ
lesser_of None key = key
lesser_of (Some least) key = if is_lt (slice_cmp nat_cmp key least) then key else least
