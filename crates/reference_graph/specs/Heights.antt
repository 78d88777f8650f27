-- Which objects are sound: nothing stands against them, all that they refer to is sound, and their trees are within the limits.
use Rattle.std.specs.Prelude.{◌≡◌, ℕ, ◌+◌, ◌<◌, ◌≤◌, ◌⊎◌, Bool, true, false, List, length, Option, Some, None, is_some, min, sum_by, if◌then◌else◌}
use Rattle.std.specs.List.{slice_index_or, list_all}
use Rattle.reference_graph.specs.Links.{Links, links_at, refers, is_among}
use Rattle.reference_graph.specs.Trees.{Trees, AreTrees, depth, size, IsSmall, IsLarge}
use Rattle.reference_graph.specs.declared.height.Height.{Height}

abbrev pub Heights : Type 0
Heights = List (Option Height)

-- the height of the object at a place, where it was found sound
abbrev pub height_at : Heights → ℕ → Option Height
height_at heights at = slice_index_or heights at None

abbrev pub is_sound : Heights → ℕ → Bool
is_sound heights at = is_some (height_at heights at)

-- a reference leads to a sound object
abbrev pub is_sound_link : Heights → Option ℕ → Bool
is_sound_link heights None = false
is_sound_link heights (Some at) = is_sound heights at

abbrev pub are_sound : Heights → List (Option ℕ) → Bool
are_sound heights places = list_all (is_sound_link heights) places

abbrev pub is_blocked : List Bool → ℕ → Bool
is_blocked blocked at = slice_index_or blocked at true

abbrev pub depth_of : Option Height → ℕ
depth_of None = 0
depth_of (Some h) = h.depth

-- how high the object's tree is, which is within the limits
pub record IsTall (links : Links) (at : ℕ) (h : Height) : Type 0 where
  pub below : Trees
  pub trees : AreTrees links (links_at links at) below
  pub small : IsSmall below
  pub depth_is : h.depth ≡ depth below + 1
  pub size_is : h.size ≡ size below + 1

abbrev pub AreTall : Links → Heights → Type 0
AreTall links heights = (at : ℕ) (h : Height) → height_at heights at ≡ Some h → IsTall links at h

-- the object is sound, and this is its height
pub record IsHeight (links : Links) (blocked : List Bool) (heights : Heights) (at : ℕ) (h : Height) : Type 0 where
  pub free : is_blocked blocked at ≡ false
  pub sound : are_sound heights (links_at links at) ≡ true
  pub tall : IsTall links at h
  pub higher : (to : ℕ) → refers links at to ≡ true → depth_of (height_at heights to) < h.depth

abbrev pub AreHeights : Links → List Bool → Heights → Type 0
AreHeights links blocked heights = (at : ℕ) (h : Height) → height_at heights at ≡ Some h → IsHeight links blocked heights at h

-- nothing stands against the object itself, but it refers to one that isn't sound, or its tree is too large
abbrev pub IsHeld : Links → Heights → ℕ → Type 0
IsHeld links heights at =
    (are_sound heights (links_at links at) ≡ false) ⊎ ((below : Trees) × AreTrees links (links_at links at) below × IsLarge below)

-- the object is sound, or blocked, or held
abbrev pub IsJudged : Links → List Bool → Heights → ℕ → Type 0
IsJudged links blocked heights at = height_at heights at ≡ None → is_blocked blocked at ≡ false → IsHeld links heights at

abbrev pub unknown : Option Height → ℕ
unknown h = if is_some h then 0 else 1

-- how many were not found sound
abbrev pub unsettled : Heights → ℕ
unsettled heights = sum_by unknown heights

-- the height behind a reference, where it leads to a sound object
abbrev pub height_behind : Heights → Option ℕ → Option Height
height_behind heights None = None
height_behind heights (Some at) = height_at heights at

-- the references lead to sound objects, and this is how high their trees are beside one another; a size stays at 2^32 - 1
pub record IsBeside (links : Links) (heights : Heights) (places : List (Option ℕ)) (h : Height) : Type 0 where
  pub sound : are_sound heights places ≡ true
  pub trees : Trees
  pub are_trees : AreTrees links places trees
  pub depth_is : h.depth ≡ depth trees
  pub size_is : h.size ≡ min (size trees) 4294967295
  pub within : (to : ℕ) → is_among to places ≡ true → depth_of (height_at heights to) ≤ h.depth

-- the objects that were found sound are so, and where none was found in this round, each other one is judged too
pub record IsSettling (links : Links) (blocked : List Bool) (before heights : Heights) (upto : ℕ) (found : Bool) : Type 0 where
  pub long : length heights ≡ length links
  pub are_heights : AreHeights links blocked heights
  pub fewer : found ≡ true → unsettled heights < unsettled before
  pub same : found ≡ false → heights ≡ before
  pub judged : found ≡ false → (at : ℕ) → at < upto → IsJudged links blocked heights at
