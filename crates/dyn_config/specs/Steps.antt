-- What single functions answer.
use Rattle.std.specs.Prelude.{◌≡◌, ℕ, ◌+◌, ◌<◌, ◌^◌, ◌==◌, Bool, false, List, [], ◌∷◌, length, drop, slice_get, Some}
use Rattle.std.specs.Map.{keys_of, values_of}
use Rattle.field_tree.specs.declared.tree.Tree.{Tree}
use Rattle.dyn_config.specs.Walk.{Entry, under_key}

-- The next entry under a key stands at `at`, and none stands between `from` and it.
pub record NextUnder (key : List ℕ) (entries : List Entry) (from at : ℕ) : Type 0 where
  pub within : at < length entries
  pub room : at + 1 < 2 ^ 64
  pub found : (name : List ℕ) (value : Tree) → slice_get (keys_of entries) at ≡ Some name →
      slice_get (values_of entries) at ≡ Some value →
      under_key key (drop from entries) ≡ (name, value) ∷ under_key key (drop (at + 1) entries)

abbrev pub is_zero_first : List ℕ → Bool
is_zero_first [] = false
is_zero_first (byte ∷ bytes) = byte == 48
