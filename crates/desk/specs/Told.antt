-- What was done at the seats, one thing after another, each with its number.
use Rattle.std.specs.Prelude.{◌≡◌, ℕ, ◌==◌, ◌&&◌, Bool, true, false, List, [], ◌∷◌, ◌++◌, if◌then◌else◌}
use Rattle.link_world.specs.declared.note.Look.{Look}
use Rattle.link_world.specs.declared.note.NodePick.{NodePick}
use Rattle.desk.specs.declared.told.Told.{Told}
use Rattle.desk.specs.declared.told.Told.TheVariants.{Began, Looked, Drew}
use Rattle.desk.specs.declared.told.NodeCount.{NodeCount}

-- the looks at a seat after this was done at it, or elsewhere
abbrev pub looks_by : Bool → List Look → Told → List Look
looks_by false looks told = looks
looks_by true looks Began = []
looks_by true looks (Looked look) = looks ++ look ∷ []
looks_by true looks (Drew pick) = looks

-- the picks
abbrev pub picks_by : Bool → List NodePick → Told → List NodePick
picks_by false picks told = picks
picks_by true picks Began = []
picks_by true picks (Looked look) = picks
picks_by true picks (Drew pick) = picks ++ pick ∷ []

-- the looks and the picks of a number, after these and all that was done then
abbrev pub looks_after : ℕ → List Look → List (ℕ × Told) → List Look
looks_after number looks [] = looks
looks_after number looks (e ∷ es) = looks_after number (looks_by (e.0 == number) looks e.1) es

abbrev pub picks_after : ℕ → List NodePick → List (ℕ × Told) → List NodePick
picks_after number picks [] = picks
picks_after number picks (e ∷ es) = picks_after number (picks_by (e.0 == number) picks e.1) es

-- since the beginning
abbrev pub looks_told : List (ℕ × Told) → ℕ → List Look
looks_told told number = looks_after number [] told

abbrev pub picks_told : List (ℕ × Told) → ℕ → List NodePick
picks_told told number = picks_after number [] told

-- where the last pick at the node ends, or else this count
abbrev pub last_end : ℕ → ℕ → List NodePick → ℕ
last_end node count [] = count
last_end node count (p ∷ ps) = last_end node (if p.node == node then p.pick.to else count) ps

abbrev pub is_count : NodeCount → ℕ → ℕ → Bool
is_count c number node = (c.number == number) && (c.node == node)

-- the last count of this number and node, or else this one
abbrev pub last_count : ℕ → ℕ → ℕ → List NodeCount → ℕ
last_count number node count [] = count
last_count number node count (c ∷ cs) = last_count number node (if is_count c number node then c.pops else count) cs

-- the count of each number and node is the end of its last pick there
abbrev pub AreCounted : List NodeCount → List (ℕ × Told) → Type 0
AreCounted counts told = (number node : ℕ) → last_count number node 0 counts ≡ last_end node 0 (picks_told told number)
