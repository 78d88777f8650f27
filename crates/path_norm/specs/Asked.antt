-- What a segment asks for, as the code sees it.
use Rattle.std.specs.Prelude.{ℕ, List, if◌then◌else◌}
use Rattle.path_norm.specs.Dots.{is_dot, is_dot_dot}
use Rattle.path_norm.specs.declared.segments.Dots.{Dots}
use Rattle.path_norm.specs.declared.segments.Dots.TheVariants as Ask

abbrev pub dots_of : List ℕ → Dots
dots_of s = if is_dot s then Ask.Here else (if is_dot_dot s then Ask.Parent else Ask.None)
