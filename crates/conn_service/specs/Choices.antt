-- Under which number each look, each pick and each refused draw was made: that of the last pin before it.
use Rattle.std.specs.Prelude.{ℕ, ◌==◌, List, [], ◌∷◌, ◌++◌}
use Rattle.link_world.specs.Log.{only_if}
use Rattle.link_world.specs.declared.note.Look.{Look}
use Rattle.link_world.specs.declared.note.NodePick.{NodePick}
use Rattle.conversation.specs.Plans.{Plan}
use Rattle.conversation.specs.Steps.{Step, pins_by, looks_by, picks_by, spents_by}

-- the number of the last of these pins, or else this one
abbrev pub last_of : ℕ → List Plan → ℕ
last_of number [] = number
last_of number (p ∷ ps) = last_of p.number ps

-- the number of the last pin after these steps, where it was this before them
abbrev pub last_number : ℕ → List Step → ℕ
last_number number [] = number
last_number number (s ∷ steps) = last_number (last_of number (pins_by s)) steps

-- the looks and the picks among these steps that were made under number n
abbrev pub looks_under : ℕ → ℕ → List Step → List Look
looks_under n number [] = []
looks_under n number (s ∷ steps) = only_if (n == number) (looks_by s) ++ looks_under n (last_of number (pins_by s)) steps

abbrev pub picks_under : ℕ → ℕ → List Step → List NodePick
picks_under n number [] = []
picks_under n number (s ∷ steps) = only_if (n == number) (picks_by s) ++ picks_under n (last_of number (pins_by s)) steps

-- the nodes whose draw was refused under number n
abbrev pub spents_under : ℕ → ℕ → List Step → List ℕ
spents_under n number [] = []
spents_under n number (s ∷ steps) = only_if (n == number) (spents_by s) ++ spents_under n (last_of number (pins_by s)) steps
