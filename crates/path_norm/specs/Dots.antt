-- Dot segments (RFC 3986 section 5.2.4), said of the list of a path's segments.
use Rattle.std.specs.Prelude.{ℕ, ◌-◌, Bool, false, ◌||◌, if◌then◌else◌, List, [], ◌∷◌, ◌++◌, length, take, flat_map, fold, bytes_eq}
use Rattle.path_norm.specs.Escapes.{slash}

-- the path of these segments, a slash before each
abbrev pub path_of : List (List ℕ) → List ℕ
path_of segments = flat_map (λ s. slash ∷ s) segments

-- `.` and `..`
abbrev pub is_dot : List ℕ → Bool
is_dot s = bytes_eq s (46 ∷ [])

abbrev pub is_dot_dot : List ℕ → Bool
is_dot_dot s = bytes_eq s (46 ∷ 46 ∷ [])

abbrev pub is_dots : List ℕ → Bool
is_dots s = is_dot s || is_dot_dot s

-- the list without its last segment, if there is one
abbrev pub parent : List (List ℕ) → List (List ℕ)
parent segments = take (length segments - 1) segments

-- what the segments are with one more: `.` adds none, `..` takes the last one away
abbrev pub with_segment : List (List ℕ) → List ℕ → List (List ℕ)
with_segment before s =
    if is_dot s then before else (if is_dot_dot s then parent before else before ++ s ∷ [])

-- the segments that are left
abbrev pub resolved : List (List ℕ) → List (List ℕ)
resolved segments = fold with_segment [] segments

-- whether the last segment is a dot segment
abbrev pub ends_in_dots : List (List ℕ) → Bool
ends_in_dots segments = fold (λ _ s. is_dots s) false segments

-- a path without its dot segments: one that ended in a dot segment ends in a slash
abbrev pub without_dots : List (List ℕ) → List (List ℕ)
without_dots segments =
    if ends_in_dots segments then resolved segments ++ [] ∷ [] else resolved segments
