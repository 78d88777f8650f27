-- Field lines that are set, removed and looked up by their names, which are compared without case.
use Rattle.std.specs.Prelude.{ℕ, not, List, [], ◌∷◌, filter, Option, Some, None, if◌then◌else◌}
use Rattle.head_view.specs.Lines.{Line as Field, has_name}

-- the lines without those of this name
abbrev pub without : List ℕ → List Field → List Field
without name lines = filter (λ line. not (has_name name line)) lines

-- the lines with this value in the place of the first line of that name, and without its others; at the end where
-- there was none
abbrev pub set_in : List ℕ → List ℕ → List Field → List Field
set_in name value [] = (name, value) ∷ []
set_in name value (line ∷ lines) = if has_name name line then (name, value) ∷ without name lines else line ∷ set_in name value lines

-- the value of the first line of this name
abbrev pub first_in : List ℕ → List Field → Option (List ℕ)
first_in name [] = None
first_in name (line ∷ lines) = if has_name name line then Some line.1 else first_in name lines
