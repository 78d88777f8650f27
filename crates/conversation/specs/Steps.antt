-- What a connection's machine is told, in order. All that is known of a link, of the pins and of the choices is a part
-- of it.
use Rattle.std.specs.Prelude.{◌≡◌, ℕ, List, [], ◌∷◌, ◌==◌, not}
use Rattle.std.specs.List.{flat_map}
use Rattle.link_world.specs.declared.note.Look.{Look}
use Rattle.link_world.specs.declared.note.NodePick.{NodePick}
use Rattle.link_world.specs.Log.{LinkEvent, only_if}
use Rattle.conversation.specs.Plans.{Plan}

pub data Step : Type 0 where
  -- something happened on a link
  happened : ℕ → LinkEvent → Step
  -- a link failed
  failed : ℕ → Step
  -- the current request was pinned to this configuration
  pinned : Plan → Step
  looked : Look → Step
  drew : NodePick → Step
  -- the schedule of this node had no pops left
  spent : ℕ → Step
  -- the clock's answer, in milliseconds
  ticked : ℕ → Step
  -- a stop was asked for
  stopped : Step

abbrev pub history_by : ℕ → Step → List LinkEvent
history_by link (happened l e) = only_if (link == l) (e ∷ [])
history_by link (failed l) = []
history_by link (pinned p) = []
history_by link (looked l) = []
history_by link (drew p) = []
history_by link (spent n) = []
history_by link (ticked n) = []
history_by link stopped = []

abbrev pub failures_by : ℕ → Step → List (Unit {0})
failures_by link (happened l e) = []
failures_by link (failed l) = only_if (link == l) (tt ∷ [])
failures_by link (pinned p) = []
failures_by link (looked l) = []
failures_by link (drew p) = []
failures_by link (spent n) = []
failures_by link (ticked n) = []
failures_by link stopped = []

abbrev pub elsewhere_by : ℕ → Step → List ℕ
elsewhere_by link (happened l e) = only_if (not (link == l)) (l ∷ [])
elsewhere_by link (failed l) = only_if (not (link == l)) (l ∷ [])
elsewhere_by link (pinned p) = []
elsewhere_by link (looked l) = []
elsewhere_by link (drew p) = []
elsewhere_by link (spent n) = []
elsewhere_by link (ticked n) = []
elsewhere_by link stopped = []

abbrev pub pins_by : Step → List Plan
pins_by (happened l e) = []
pins_by (failed l) = []
pins_by (pinned p) = p ∷ []
pins_by (looked l) = []
pins_by (drew p) = []
pins_by (spent n) = []
pins_by (ticked n) = []
pins_by stopped = []

abbrev pub looks_by : Step → List Look
looks_by (happened l e) = []
looks_by (failed l) = []
looks_by (pinned p) = []
looks_by (looked l) = l ∷ []
looks_by (drew p) = []
looks_by (spent n) = []
looks_by (ticked n) = []
looks_by stopped = []

abbrev pub picks_by : Step → List NodePick
picks_by (happened l e) = []
picks_by (failed l) = []
picks_by (pinned p) = []
picks_by (looked l) = []
picks_by (drew p) = p ∷ []
picks_by (spent n) = []
picks_by (ticked n) = []
picks_by stopped = []

abbrev pub spents_by : Step → List ℕ
spents_by (happened l e) = []
spents_by (failed l) = []
spents_by (pinned p) = []
spents_by (looked l) = []
spents_by (drew p) = []
spents_by (spent n) = n ∷ []
spents_by (ticked n) = []
spents_by stopped = []

abbrev pub stops_by : Step → List (Unit {0})
stops_by (happened l e) = []
stops_by (failed l) = []
stops_by (pinned p) = []
stops_by (looked l) = []
stops_by (drew p) = []
stops_by (spent n) = []
stops_by (ticked n) = []
stops_by stopped = tt ∷ []

-- what is chosen for a request: its configuration, a look, a pick, or that the draw at this node is refused
pub data Choice : Type 0 where
  of_plan : Plan → Choice
  of_look : Look → Choice
  of_pick : NodePick → Choice
  of_refused : ℕ → Choice

abbrev pub choices_by : Step → List Choice
choices_by (happened l e) = []
choices_by (failed l) = []
choices_by (pinned p) = of_plan p ∷ []
choices_by (looked l) = of_look l ∷ []
choices_by (drew p) = of_pick p ∷ []
choices_by (spent n) = of_refused n ∷ []
choices_by (ticked n) = []
choices_by stopped = []

-- what happened on the link, and its faults
abbrev pub history : ℕ → List Step → List LinkEvent
history link = flat_map (history_by link)

abbrev pub failures : ℕ → List Step → List (Unit {0})
failures link = flat_map (failures_by link)

-- of each step that is of another link than this, that link
abbrev pub elsewhere : ℕ → List Step → List ℕ
elsewhere link = flat_map (elsewhere_by link)

-- the pins, the looks, the picks, the refused draws and the stops
abbrev pub pins : List Step → List Plan
pins = flat_map pins_by

abbrev pub looks : List Step → List Look
looks = flat_map looks_by

abbrev pub picks : List Step → List NodePick
picks = flat_map picks_by

abbrev pub spents : List Step → List ℕ
spents = flat_map spents_by

abbrev pub stops : List Step → List (Unit {0})
stops = flat_map stops_by

-- all that was chosen, in order
abbrev pub choices : List Step → List Choice
choices = flat_map choices_by

-- the steps tell nothing of the link
pub record IsNew (link : ℕ) (steps : List Step) : Type 0 where
  pub quiet : history link steps ≡ []
  pub sound : failures link steps ≡ []
