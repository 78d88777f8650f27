-- Paths in order, none of which leads to another.
use Rattle.std.specs.Prelude.{◌≡◌, ◌≢◌, ℕ, ◌<◌, ◌≤◌, ◌==◌, ◌⊎◌, true, if◌then◌else◌, List, [], ◌∷◌, length, take, drop, map}
use Rattle.std.specs.Ordering.{nat_cmp}
use Rattle.std.specs.declared.cmp.Ordering.TheVariants.{Less}
use Rattle.std.specs.Cmp.Lexicographic.{slice_cmp}
use Rattle.std.specs.List.{AllByRecursion}
use Rattle.field_tree.specs.declared.tree.Tree.{Tree}
use Rattle.consul_kv.specs.Keys.{Pair, rank}
use Rattle.consul_kv.specs.Leaves.{leaves, is_part, is_grown, under}

-- the second path is the first one, or stands below it
abbrev pub Leads : List ℕ → List ℕ → Type 0
Leads [] [] = Unit {0}
Leads [] (y ∷ ys) = y ≡ 47
Leads (x ∷ xs) [] = ⊥
Leads (x ∷ xs) (y ∷ ys) = (x ≡ y) × Leads xs ys

-- the first stands before the second, and neither leads to the other
abbrev pub GoesBefore : List ℕ → List ℕ → Type 0
GoesBefore [] [] = ⊥
GoesBefore [] (y ∷ ys) = y ≢ 47
GoesBefore (x ∷ xs) [] = ⊥
GoesBefore (x ∷ xs) (y ∷ ys) = (rank x < rank y) ⊎ ((x ≡ y) × GoesBefore xs ys)

-- each path stands so before those after it
abbrev pub Rises : List Pair → Type 0
Rises [] = Unit {0}
Rises (p ∷ ps) = AllByRecursion (λ (q : Pair). GoesBefore p.0 q.0) ps × Rises ps

-- the first part of a path
abbrev pub first_part : List ℕ → List ℕ
first_part [] = []
first_part (b ∷ bs) = if b == 47 then [] else b ∷ first_part bs

-- a leaf with a slash before its path
abbrev pub slashed : Pair → Pair
slashed leaf = (47 ∷ leaf.0, leaf.1)

-- a leaf without its first bytes
abbrev pub cut : ℕ → Pair → Pair
cut len leaf = (drop len leaf.0, leaf.1)

-- its first path begins with this part
abbrev pub HasFirstPart : List ℕ → List Pair → Type 0
HasFirstPart part [] = ⊥
HasFirstPart part (p ∷ ps) = part ≡ first_part p.0

-- each key is below the first part of the first path, by bytes
abbrev pub IsAhead : List (List ℕ) → List Pair → Type 0
IsAhead keys [] = Unit {0}
IsAhead keys (p ∷ ps) = AllByRecursion (λ (k : List ℕ). slice_cmp nat_cmp k (first_part p.0) ≡ Less) keys

-- what stands under the first part of the first path, of so many paths
pub record IsBranch (paths : List Pair) (name : List ℕ) (tree : Tree) (taken : ℕ) : Type 0 where
  pub some_ : 0 < taken
  pub within : taken ≤ length paths
  pub named : HasFirstPart name paths
  pub texts : map (under name) (leaves tree) ≡ map slashed (take taken paths)
  pub part : is_part name ≡ true
  pub grown : is_grown tree ≡ true
  pub ahead : IsAhead (name ∷ []) (drop taken paths)
