-- Whose link is whose: a link belongs to the connection whose steps tell of it.
use Rattle.std.specs.Prelude.{◌≡◌, ◌⊎◌, ℕ, ◌==◌, List, [], if◌then◌else◌, IfSome, false}
use Rattle.std.specs.List.{AllByRecursion, Contains}
use Rattle.link_world.specs.Log.{Event, history_of, failures_of}
use Rattle.link_world.specs.Seen.{Seen}
use Rattle.conversation.specs.Plans.{Plan}
use Rattle.conversation.specs.Steps.{Step, history, failures, pins, stops, IsNew}
use Rattle.conn_machine.specs.declared.conn.Conn.{Conn}
use Rattle.conn_service.specs.Moments.{Stands, IsReady}

-- no link is told of by both
abbrev pub AreApart : List Step → List Step → Type 0
AreApart a b = (l : ℕ) → IsNew l a ⊎ IsNew l b

-- of this link the steps tell all that the log tells: what happened on it, and its faults
pub record TellsAll (link : ℕ) (steps : List Step) (log : List Event) : Type 0 where
  pub events : history link steps ≡ history_of link log
  pub faults : failures link steps ≡ failures_of link log

-- of each link the steps tell nothing, or all that the log tells
abbrev pub Shows : List Step → List Event → Type 0
Shows steps log = (l : ℕ) → IsNew l steps ⊎ TellsAll l steps log

-- the links of which the steps tell have come
abbrev pub HaveCome : Seen → List Step → Type 0
HaveCome now steps = (l : ℕ) → now.come l ≡ false → IsNew l steps

-- an open connection was told these steps, which are all that its links did
pub record Tracks (now : Seen) (generations : List Plan) (steps : List Step) (c : Conn) : Type 0 where
  pub stands : Stands now steps c
  pub ready : IsReady now generations c
  pub held : AllByRecursion (Contains generations) (pins steps)
  pub unstopped : stops steps ≡ []
  pub shows : IfSome now.log (Shows steps)
  pub untold : c.notes.items ≡ []

-- the steps at one key replaced
abbrev pub put : (ℕ → List Step) → ℕ → List Step → ℕ → List Step
put steps key next k = if k == key then next else steps k
