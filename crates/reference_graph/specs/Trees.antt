-- The tree of an object: itself, and below it the trees of the objects that it refers to, in order, each as often as it is named.
use Rattle.std.specs.Prelude.{◌≡◌, ℕ, ◌+◌, ◌≤◌, ◌<◌, ◌⊎◌, max, List, [], ◌∷◌, Option, Some, None, ⊤}
use Rattle.reference_graph.specs.Links.{Links, links_at}

-- trees one beside another: an object, what is below it, and what is beside it
pub data Trees : Type 0 where
  bare : Trees
  tree : ℕ → Trees → Trees → Trees

-- the trees of the objects that these references lead to
abbrev pub AreTrees : Links → List (Option ℕ) → Trees → Type 0
AreTrees links [] bare = ⊤
AreTrees links [] (tree at below beside) = ⊥
AreTrees links (None ∷ rest) trees = ⊥
AreTrees links (Some at ∷ rest) bare = ⊥
AreTrees links (Some at ∷ rest) (tree root below beside) =
    (at ≡ root) × AreTrees links (links_at links at) below × AreTrees links rest beside

-- the most objects that stand one below another
abbrev pub depth : Trees → ℕ
depth bare = 0
depth (tree at below beside) = max (depth below + 1) (depth beside)

-- how many objects stand in them
abbrev pub size : Trees → ℕ
size bare = 0
size (tree at below beside) = size below + 1 + size beside

-- what is below an object leaves its tree within the limits: at most 8 objects deep, and at most 64 in all
abbrev pub IsSmall : Trees → Type 0
IsSmall below = (depth below + 1 ≤ 8) × (size below + 1 ≤ 64)

abbrev pub IsLarge : Trees → Type 0
IsLarge below = (8 < depth below + 1) ⊎ (64 < size below + 1)
