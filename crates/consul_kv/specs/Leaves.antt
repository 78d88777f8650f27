-- The texts of a tree, each under the keys that lead to it, with a slash before each key.
use Rattle.std.specs.Prelude.{ℕ, ◌==◌, ◌&&◌, Bool, true, false, not, nat_lt, List, [], ◌∷◌, ◌++◌, length, map}
use Rattle.std.specs.List.{flat_map, list_all}
use Rattle.std.specs.Ordering.{nat_cmp, is_lt}
use Rattle.std.specs.Cmp.Lexicographic.{slice_cmp}
use Rattle.std.specs.Map.{keys_of}
use Rattle.field_tree.specs.declared.tree.Tree.{Tree, fold-Tree}
use Rattle.field_tree.specs.declared.tree.Tree.TheOpen.{Tree-F}
use Rattle.consul_kv.specs.Keys.{Pair}

abbrev pub under : List ℕ → Pair → Pair
under key leaf = (47 ∷ key ++ leaf.0, leaf.1)

abbrev pub leaves_below : List (List ℕ × List Pair) → List Pair
leaves_below fields = flat_map (λ (f : List ℕ × List Pair). map (under f.0) f.1) fields

abbrev pub leaves_step : Tree-F (List Pair) → List Pair
leaves_step (Tree-F.Text text) = ([], text) ∷ []
leaves_step (Tree-F.Table fields) = leaves_below fields
leaves_step _ = []

abbrev pub leaves : Tree → List Pair
leaves = fold-Tree (List Pair) leaves_step

abbrev pub field_leaves : List (List ℕ × Tree) → List Pair
field_leaves fields = leaves_below (map (λ (f : List ℕ × Tree). (f.0, leaves f.1)) fields)

-- no slash stands in the key
abbrev pub is_part : List ℕ → Bool
is_part key = list_all (λ b. not (b == 47)) key

-- each key is below those after it, by bytes, so that none stands there twice
abbrev pub keys_rise : List (List ℕ) → Bool
keys_rise [] = true
keys_rise (key ∷ keys) = list_all (λ (k : List ℕ). is_lt (slice_cmp nat_cmp key k)) keys && keys_rise keys

abbrev pub are_grown : List (List ℕ × Bool) → Bool
are_grown fields = keys_rise (keys_of fields) && list_all (λ (f : List ℕ × Bool). is_part f.0 && f.1) fields

abbrev pub grown_step : Tree-F Bool → Bool
grown_step (Tree-F.Text text) = true
grown_step (Tree-F.Table fields) = nat_lt 0 (length fields) && are_grown fields
grown_step _ = false

-- it is a text, or a table that isn't empty, of such trees under keys without a slash that rise
abbrev pub is_grown : Tree → Bool
is_grown = fold-Tree Bool grown_step

abbrev pub fields_grown : List (List ℕ × Tree) → Bool
fields_grown fields = are_grown (map (λ (f : List ℕ × Tree). (f.0, is_grown f.1)) fields)
