-- How the picks at one node of one configuration lie one behind the other, and who was told of them.
use Rattle.std.specs.Prelude.{◌≡◌, ℕ, ◌==◌, ◌&&◌, List, [], ◌∷◌}
use Rattle.std.specs.List.{flat_map, AllByRecursion}
use Rattle.link_world.specs.Log.{only_if}
use Rattle.link_world.specs.declared.note.NodePick.{NodePick}
use Rattle.conversation.specs.Steps.{picks_by}
use Rattle.wrr_deadlines.specs.Choice.{LawfulPick}
use Rattle.wrr_deadlines.specs.declared.choice.Pick.{Pick}
use Rattle.system_core.specs.Records.{Telling, tells, Picked, one_server}

abbrev pub pick_at : ℕ → ℕ → Picked → List Pick
pick_at number node p = only_if ((p.number == number) && (p.pick.node == node)) (p.pick.pick ∷ [])

-- the picks at this node of the configuration with this number, in order
abbrev pub picks_at : ℕ → ℕ → List Picked → List Pick
picks_at number node = flat_map (pick_at number node)

-- the first begins behind pop `from`, each other one where the one before it ends, and the last ends with pop `to`
abbrev pub Tiles : ℕ → List Pick → ℕ → Type 0
Tiles from [] to = from ≡ to
Tiles from (p ∷ ps) to = (p.from ≡ from) × Tiles p.to ps to

-- each is a lawful pick of the one server, which is up
abbrev pub AreLawful : List Pick → Type 0
AreLawful = AllByRecursion (LawfulPick one_server 1)

abbrev pub pick_of : Picked → NodePick
pick_of p = p.pick

abbrev pub picks_by_telling : Telling → List NodePick
picks_by_telling (tells i s) = picks_by s

-- the picks that connections were told of, in order
abbrev pub picks_told : List Telling → List NodePick
picks_told = flat_map picks_by_telling
