-- The normal form of a path.
use Rattle.std.specs.Prelude.{◌≡◌, ◌≢◌, ℕ, ◌<◌, List, [], ◌∷◌, length, map}
use Rattle.std.specs.List.{AllByRecursion}
use Rattle.path_norm.specs.Escapes.{Piece, AreSegment, segment_text, segment_written, slash, HasWholeEscapes, IsFirstBadEscape}
use Rattle.path_norm.specs.Dots.{path_of, without_dots}
use Rattle.path_norm.specs.declared.normal.PathFault.{PathFault}
use Rattle.path_norm.specs.declared.normal.PathFault.TheVariants.{BadEscape, Memory}

-- the path begins with a slash
abbrev pub IsRooted : List ℕ → Type 0
IsRooted path = (rest : List ℕ) × (path ≡ slash ∷ rest)

-- `normal` is the normal form of `path`: its segments with their escapes normalised, without dot
-- segments
pub record Normalises (path normal : List ℕ) : Type 0 where
  pub segments : List (List Piece)
  pub are_segments : AllByRecursion AreSegment segments
  pub path_is : path ≡ path_of (map segment_text segments)
  pub normal_is : normal ≡ path_of (without_dots (map segment_written segments))

-- no slash stands in the segment
abbrev pub IsSlashless : List ℕ → Type 0
IsSlashless s = AllByRecursion (λ b. b ≢ slash) s

-- the segment is no dot segment
abbrev pub IsNoDots : List ℕ → Type 0
IsNoDots s = (s ≢ 46 ∷ []) × (s ≢ 46 ∷ 46 ∷ [])

-- the path has a segment, and none is a dot segment
pub record HasNoDots (path : List ℕ) : Type 0 where
  pub segments : List (List ℕ)
  pub some : 0 < length segments
  pub slashless : AllByRecursion IsSlashless segments
  pub no_dots : AllByRecursion IsNoDots segments
  pub path_is : path ≡ path_of segments

-- a bad escape is told at the first one, whether or not memory would have run out
abbrev pub IsFaultOf : List ℕ → PathFault → Type 0
IsFaultOf path (BadEscape at) = IsFirstBadEscape path at
IsFaultOf path Memory = HasWholeEscapes path
