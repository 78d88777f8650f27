-- Keys of a store, whose parts stand between slashes.
use Rattle.std.specs.Prelude.{◌≡◌, ◌≢◌, ℕ, suc, ◌+◌, ◌-◌, ◌<◌, ◌==◌, ◌⊎◌, ◌&&◌, ◌||◌, Bool, true, false, not, nat_lt, if◌then◌else◌, List, [], ◌∷◌, length, take, drop, map, filter, bytes_eq, slice_index, slice_index_or}
use Rattle.std.specs.declared.cmp.Ordering.{Ordering}
use Rattle.std.specs.List.{list_all}
use Rattle.std.specs.Ordering.{nat_cmp, is_lt}
use Rattle.std.specs.Cmp.Lexicographic.{slice_cmp}

-- a key and its value
abbrev pub Pair : Type 0
Pair = List ℕ × List ℕ

-- it stands below the root, and isn't the name of a folder, which ends with a slash
abbrev pub is_counted : List ℕ → List ℕ → Bool
is_counted root key =
    nat_lt (length root) (length key) && bytes_eq (take (length root) key) root && (slice_index key (length root) == 47) && not (slice_index key (length key - 1) == 47)

abbrev pub counted : List ℕ → List Pair → List Pair
counted root pairs = filter (λ (p : Pair). is_counted root p.0) pairs

abbrev pub AreBelow : List ℕ → List Pair → Type 0
AreBelow root pairs = list_all (λ (p : Pair). is_counted root p.0) pairs ≡ true

-- what a key of the store names below the root
abbrev pub path_of : List ℕ → List ℕ → List ℕ
path_of root key = drop (length root + 1) key

-- a slash stands where a part would begin; `fresh` says that one begins here
abbrev pub misses_part : Bool → List ℕ → Bool
misses_part fresh [] = false
misses_part fresh (b ∷ bs) = if b == 47 then (if fresh then true else misses_part true bs) else misses_part false bs

abbrev pub has_empty_part : List ℕ → Bool
has_empty_part path = misses_part true path

-- it goes on behind this one with a slash
abbrev pub is_below : List ℕ → List ℕ → Bool
is_below parent key = nat_lt (length parent) (length key) && bytes_eq (take (length parent) key) parent && (slice_index key (length parent) == 47)

-- the second key is the first one, or stands below it
abbrev pub leads : List ℕ → List ℕ → Bool
leads parent key = bytes_eq key parent || is_below parent key

abbrev pub key_at : List Pair → ℕ → List ℕ
key_at pairs i = (slice_index_or pairs i ([], [])).0

-- the key at i has an empty part, or occurs twice, or is the parent of another key
abbrev pub IsClash : List ℕ → List Pair → ℕ → Type 0
IsClash root pairs i = (i < length pairs)
    × ((has_empty_part (path_of root (key_at pairs i)) ≡ true) ⊎ ((j : ℕ) × (j < length pairs) × (j ≢ i) × (leads (key_at pairs i) (key_at pairs j) ≡ true)))

-- of the keys that clash, none is less by its bytes
abbrev pub IsFirstClash : List ℕ → List Pair → List ℕ → Type 0
IsFirstClash root pairs key = (i : ℕ) × IsClash root pairs i × (key_at pairs i ≡ key)
    × ((k : ℕ) → IsClash root pairs k → is_lt (slice_cmp nat_cmp (key_at pairs k) key) ≡ false)

abbrev pub HasNoClash : List ℕ → List Pair → Type 0
HasNoClash root pairs = (i : ℕ) → ¬ (IsClash root pairs i)

-- the order in which a key stands right before the keys below it
abbrev pub rank : ℕ → ℕ
rank b = if b == 47 then 0 else suc b

abbrev pub key_cmp : List ℕ → List ℕ → Ordering
key_cmp a b = slice_cmp nat_cmp (map rank a) (map rank b)
