-- The order of keys.
use Rattle.std.specs.Prelude.{ℕ, List}
use Rattle.std.specs.declared.cmp.Ordering.{Ordering}
use Rattle.std.specs.Ordering.{nat_cmp, ordering_then}
use Rattle.std.specs.Cmp.Lexicographic.{slice_cmp}
use Rattle.std.specs.Str.{str_to_ascii_lowercase}

-- By the bytes of the lower-case forms.
abbrev pub fold_cmp : List ℕ → List ℕ → Ordering
fold_cmp a b = slice_cmp nat_cmp (str_to_ascii_lowercase a) (str_to_ascii_lowercase b)

-- By the lower-case forms, and where these are equal by the bytes as written.
abbrev pub walk_cmp : List ℕ → List ℕ → Ordering
walk_cmp a b = ordering_then (fold_cmp a b) (slice_cmp nat_cmp a b)
