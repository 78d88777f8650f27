-- What each event does to the records, and the runs that lists of events make.
use Rattle.std.specs.Prelude.{◌≡◌, ℕ, ◌+◌, List, [], ◌∷◌, ◌++◌, length, map, Option, Some, None, Bool, true, false, slice_get}
use Rattle.ip_net.specs.declared.ip.Ip.{Ip}
use Rattle.link_world.specs.declared.note.Note.{Note}
use Rattle.link_world.specs.declared.note.NodePick.{NodePick}
use Rattle.link_world.specs.Log.{came, dialled, gave, gave_end, took}
use Rattle.conversation.specs.Plans.{Plan}
use Rattle.conversation.specs.Steps.{Step, happened, failed, pinned, looked, drew, spent, stopped, pins}
use Rattle.conn_machine.specs.declared.event.BackEvent.{BackEvent}
use Rattle.conn_machine.specs.declared.event.BackEvent.TheVariants as back
use Rattle.wrr_deadlines.specs.Choice.{Draws}
use Rattle.wrr_deadlines.specs.declared.choice.Drawn.{Drawn}
use Rattle.wrr_deadlines.specs.declared.choice.Drawn.TheVariants as drawn
use Rattle.system_core.specs.Records.{Telling, tells, Picked, Records, steps_of, noting, pops, one_server}
use Rattle.system_core.specs.Issues.{plan_at, IsLast}
use Rattle.system_core.specs.declared.event.Event.{Event}
use Rattle.system_core.specs.declared.event.Event.TheVariants as event

-- the step and then these notes
abbrev pub with_told : Records → ℕ → ℕ → Step → List Note → Records
with_told r i client step notes = record r { told = r.told ++ map (tells i) (step ∷ map (noting client) notes) }

-- the connection at this place is told the step, and then tells some notes
pub record Tells (r : Records) (i : ℕ) (step : Step) (s : Records) : Type 0 where
  pub client : ℕ
  pub is_client : slice_get r.clients i ≡ Some client
  pub notes : List Note
  pub same : s ≡ with_told r i client step notes

-- the link is the client's of the connection at this place
abbrev pub IsClientOf : Records → ℕ → ℕ → Type 0
IsClientOf r link i = (slice_get r.owners link ≡ Some i) × (slice_get r.clients i ≡ Some link)

-- the step that something on a link tells
abbrev pub Says : ℕ → BackEvent → Step → Type 0
Says link (back.Bytes piece) step = step ≡ happened link (gave piece.now)
Says link back.End step = step ≡ happened link gave_end
Says link back.Failed step = step ≡ failed link
Says link (back.Took n) step = (bytes : List ℕ) × (length bytes ≡ n) × (step ≡ happened link (took bytes))

-- the connection of a link is told such a step
pub record TellsOn (r : Records) (link : ℕ) (P : Step → Type 0) (s : Records) : Type 0 where
  pub place : ℕ
  pub owned : slice_get r.owners link ≡ Some place
  pub step : Step
  pub says : P step
  pub does : Tells r place step s

-- the connection at this place is pinned to the newest configuration
abbrev pub PinsAt : Records → ℕ → Records → Type 0
PinsAt r i s = (plan : Plan) × IsLast r.plans plan × Tells r i (pinned plan) s

-- it looks at a node, where the server is up
abbrev pub LooksAt : Records → ℕ → Records → Type 0
LooksAt r i s = (node : ℕ) × Tells r i (looked (record { node = node; mask = 1 })) s

-- a pick is kept under the number of its configuration; a draw that is refused leaves none
abbrev pub DrawTells : Drawn → Records → (number node i : ℕ) → Records → Type 0
DrawTells (drawn.Pick pick) r number node i s =
    Tells (record r { picks = r.picks ++ (record { number = number; pick = record { node = node; pick = pick } }) ∷ [] }) i (drew (record { node = node; pick = pick })) s
DrawTells drawn.NoneUp r number node i s = ⊥
DrawTells drawn.Spent r number node i s = Tells r i (spent node) s

-- it draws at a node of the configuration that it was pinned to last, after the pops that were taken there
pub record DrawsAt (r : Records) (i : ℕ) (s : Records) : Type 0 where
  pub plan : Plan
  pub pinned : IsLast (pins (steps_of i r.told)) plan
  pub node : ℕ
  pub result_ : Drawn
  pub draws : Draws one_server 1 (pops plan.number node r.picks) result_
  pub does : DrawTells result_ r plan.number node i s

-- the next link is dialled for it
abbrev pub DialsAt : Records → ℕ → Records → Type 0
DialsAt r i s = (host : List ℕ) × (port : ℕ)
    × Tells (record r { owners = r.owners ++ i ∷ [] }) i (happened (length r.owners) (dialled host port)) s

-- this is done for the connection whose client's link it is
pub record Does (At : Records → ℕ → Records → Type 0) (r : Records) (link : ℕ) (s : Records) : Type 0 where
  pub place : ℕ
  pub owned : IsClientOf r link place
  pub does : At r place s

-- connections are told that a stop was asked for, one after another
pub data Stops : Records → Records → Type 0 where
  none : (r : Records) → Stops r r
  more : (r s t : Records) (i : ℕ) → Stops r s → Tells s i stopped t → Stops r t

-- a client comes on the next link
abbrev pub with_client : Records → List ℕ → Ip → Records
with_client r entry peer = record r {
  clients = r.clients ++ length r.owners ∷ [];
  owners = r.owners ++ length r.clients ∷ [];
  told = r.told ++ tells (length r.clients) (happened (length r.owners) (came entry peer)) ∷ [];
}

-- what an event makes of the records
abbrev pub Happens : Records → Event → Records → Type 0
Happens r (event.Config issue) s = ((plan_at issue).number ≡ length r.plans) × (s ≡ record r { waiting = Some (plan_at issue) })
Happens r event.Publish s = (p : Plan) × (r.waiting ≡ Some p) × (s ≡ record r { plans = r.plans ++ p ∷ []; waiting = None })
Happens r (event.Arrive entry peer) s = s ≡ with_client r entry peer
Happens r (event.Bytes link bytes) s = TellsOn r link (λ step. step ≡ happened link (gave bytes)) s
Happens r (event.End link) s = TellsOn r link (λ step. step ≡ happened link gave_end) s
Happens r (event.Fail link) s = TellsOn r link (λ step. step ≡ failed link) s
Happens r (event.Pin link) s = Does PinsAt r link s
Happens r (event.Look link) s = Does LooksAt r link s
Happens r (event.Draw link) s = Does DrawsAt r link s
Happens r (event.Dial link) s = Does DialsAt r link s
Happens r (event.Took link n) s = TellsOn r link (λ step. (bytes : List ℕ) × (length bytes ≡ n) × (step ≡ happened link (took bytes))) s
Happens r event.Stop s = Stops (record r { stopped = true }) s

-- the records before the first event: one configuration, under number 0
abbrev pub start : Plan → Records
start first = record { plans = first ∷ []; waiting = None; clients = []; owners = []; told = []; picks = []; stopped = false }

-- the events, one after another, make these records of a first configuration
pub data Runs (first : Plan) : List Event → Records → Type 0 where
  begun : first.number ≡ 0 → Runs first [] (start first)
  next : (es : List Event) (r : Records) (e : Event) (s : Records) → Runs first es r → Happens r e s → Runs first (es ++ e ∷ []) s
