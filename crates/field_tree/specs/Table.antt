-- Tables: values under keys that rise by their bytes.
use Rattle.std.specs.Prelude.{ℕ, List, Option, bytes_eq}
use Rattle.std.specs.Ordering.{nat_cmp}
use Rattle.std.specs.List.Sorted.{IsStrictlySortedBy}
use Rattle.std.specs.Cmp.Lexicographic.{slice_cmp}
use Rattle.std.specs.Map.{keys_of, lookup}

-- Each key is below those after it, by bytes.
abbrev pub KeysRise : {T : Type 0} → List (List ℕ × T) → Type 0
KeysRise fields = IsStrictlySortedBy (slice_cmp nat_cmp) (keys_of fields)

-- The value under a key.
abbrev pub value_at : {T : Type 0} → List (List ℕ × T) → List ℕ → Option T
value_at fields key = lookup (bytes_eq key) fields
