-- The records of a run: what the connections were told, in whatever order, and what was published.
use Rattle.std.specs.Prelude.{◌≡◌, ℕ, ◌==◌, ◌&&◌, Bool, List, [], ◌∷◌, ◌++◌, map, Option, Some, None, if◌then◌else◌}
use Rattle.std.specs.List.{flat_map}
use Rattle.link_world.specs.declared.note.Note.{Note}
use Rattle.link_world.specs.declared.note.NodePick.{NodePick}
use Rattle.link_world.specs.Log.{only_if, noted, note_by}
use Rattle.conversation.specs.Plans.{Plan}
use Rattle.conversation.specs.Steps.{Step, happened, failed, pinned, looked, drew, spent, ticked, stopped}

-- the connection that came at this place was told this
pub data Telling : Type 0 where
  tells : ℕ → Step → Telling

-- a pick under the number of a configuration
pub record Picked : Type 0 where
  pub number : ℕ
  pub pick : NodePick

pub record Records : Type 0 where
  -- the configurations that were published, the newest last, and the one that waits
  pub plans : List Plan
  pub waiting : Option Plan
  -- the client's link of each connection
  pub clients : List ℕ
  -- the place of the connection of each link
  pub owners : List ℕ
  pub told : List Telling
  pub picks : List Picked
  pub stopped : Bool

abbrev pub step_by : ℕ → Telling → List Step
step_by i (tells j s) = only_if (i == j) (s ∷ [])

-- what the connection at this place was told
abbrev pub steps_of : ℕ → List Telling → List Step
steps_of i = flat_map (step_by i)

abbrev pub note_of_step : Step → List Note
note_of_step (happened link e) = note_by e
note_of_step (failed link) = []
note_of_step (pinned p) = []
note_of_step (looked l) = []
note_of_step (drew p) = []
note_of_step (spent n) = []
note_of_step (ticked now) = []
note_of_step stopped = []

abbrev pub note_of_telling : Telling → List Note
note_of_telling (tells i s) = note_of_step s

-- the notes of all connections, in order
abbrev pub notes_of : List Telling → List Note
notes_of = flat_map note_of_telling

-- the note is told on this link
abbrev pub noting : ℕ → Note → Step
noting link note = happened link (noted note)

-- the end of the last of these picks that is of this number at this node, or else this count
abbrev pub last_pop : ℕ → ℕ → ℕ → List Picked → ℕ
last_pop number node count [] = count
last_pop number node count (p ∷ ps) = last_pop number node (if (p.number == number) && (p.pick.node == node) then p.pick.pick.to else count) ps

-- how many pops were taken at a node of a configuration
abbrev pub pops : ℕ → ℕ → List Picked → ℕ
pops number node picks = last_pop number node 0 picks

-- the weights of a balancer of one server
abbrev pub one_server : List ℕ
one_server = 1 ∷ []
