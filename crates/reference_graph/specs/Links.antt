-- What declared objects refer to. An object is known by its place among the declared ones.
use Rattle.std.specs.Prelude.{◌≡◌, ℕ, ◌<◌, ◌==◌, Bool, true, false, List, [], length, Option, Some, None}
use Rattle.std.specs.List.{slice_index_or, list_any}

-- for each object, the places that its references lead to, in order: none, where a reference leads to nothing declared
abbrev pub Links : Type 0
Links = List (List (Option ℕ))

-- the references of the object at a place
abbrev pub links_at : Links → ℕ → List (Option ℕ)
links_at links at = slice_index_or links at []

-- a reference leads to this place
abbrev pub is_to : ℕ → Option ℕ → Bool
is_to at None = false
is_to at (Some place) = place == at

abbrev pub is_among : ℕ → List (Option ℕ) → Bool
is_among at places = list_any (is_to at) places

-- the one object refers to the other
abbrev pub refers : Links → ℕ → ℕ → Bool
refers links from to = is_among to (links_at links from)

-- each reference leads to an object, or nowhere
abbrev pub AreWithin : Links → Type 0
AreWithin links = (from to : ℕ) → refers links from to ≡ true → to < length links
