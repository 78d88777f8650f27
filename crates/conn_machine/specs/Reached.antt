-- The machine, and the relation with the steps that it was told, which each call keeps.
use Rattle.std.specs.Prelude.{◌≡◌, ◌≢◌, ◌⊎◌, ℕ, ◌+◌, ◌<◌, List, [], ◌∷◌, drop, Bool, true, false, Option, Some, None, Some, vec_len, vec_capacity}
use Rattle.std.specs.List.{AllByRecursion}
use Rattle.link_world.specs.declared.note.Note.{Note}
use Rattle.link_world.specs.declared.note.NoteBody.{NoteBody}
use Rattle.link_world.specs.declared.note.NoteBody.TheVariants as body
use Rattle.link_world.specs.declared.note.EndCause.{EndCause}
use Rattle.link_world.specs.declared.note.EndCause.TheVariants as ending
use Rattle.link_world.specs.Log.{notes}
use Rattle.conversation.specs.Steps.{Step, history, failures, stops}
use Rattle.conversation.specs.Turns.{Turn}
use Rattle.conversation.specs.Served.{of_last, notes_of, IsKept, EndHolds, end_note}
use Rattle.conversation.specs.Holding.{told, Holds, Sound}
use Rattle.conn_machine.specs.Parts.{Trail, TiedBy, AtStage}
use Rattle.back_machine.specs.Exchanges.{BackView}
use Rattle.conn_machine.specs.declared.parts.Aim.{Aim}
use Rattle.conn_machine.specs.declared.parts.Client.{Client}
use Rattle.conn_machine.specs.declared.parts.Current.{Current}
use Rattle.conn_machine.specs.declared.parts.Stage.{Stage}
use Rattle.conn_machine.specs.declared.parts.Stage.TheVariants as stage
use Rattle.conn_machine.specs.declared.parts.Phase.{Phase}
use Rattle.conn_machine.specs.declared.parts.Phase.TheVariants.{Open, Broken, Over, Told}
use Rattle.conn_machine.specs.declared.wants.Want.{Want}
use Rattle.conn_machine.specs.declared.wants.Want.TheVariants as want
use Rattle.conn_machine.specs.declared.conn.Conn.{Conn}

abbrev pub ending_note : ℕ → Phase → List Note
ending_note link Open = []
ending_note link Broken = []
ending_note link (Over cause) = []
ending_note link (Told cause) = end_note link cause ∷ []

-- the note of the last request, once the machine doesn't keep it any more
abbrev pub closed_by : Bool → ℕ → Option Turn → List Note
closed_by true link last = []
closed_by false link last = of_last (notes_of link) last

abbrev pub trail_of : Conn → Trail
trail_of c = record { looks = c.looks.items; picks = c.picks.items; backs = c.backs.items }

-- whether the client has ended, of a machine that is open
abbrev pub open_over : Phase → Bool → Bool
open_over Open over = over
open_over Broken over = false
open_over (Over cause) over = false
open_over (Told cause) over = false

abbrev pub pending_of : Conn → List ℕ
pending_of c = drop c.sent c.out.items

-- what is kept in every phase
pub record Kept (steps : List Step) (k : Client) (m : Current) (trail : Trail) (waiting ending : List Note) (over : Bool) (done : List Turn) (last : Option Turn) (rest left : List ℕ) : Type 0 where
  pub next : ℕ
  pub holds : Holds (told k.link steps) k.link k.entry k.peer done last rest left waiting (closed_by m.pinned k.link last) ending over m.number next
  pub sound : Sound steps k.entry k.peer done last
  pub tied : TiedBy m.pinned m trail last

-- what an open machine keeps besides: nothing of the bytes is lost, and the client's link didn't fail
pub record Opened (steps : List Step) (k : Client) (m : Current) (trail : Trail) (input pending : List ℕ) (waiting : List Note) (over : Bool) (at : Stage) : Type 0 where
  pub done : List Turn
  pub last : Option Turn
  pub rest : List ℕ
  pub holds : Holds (told k.link steps) k.link k.entry k.peer done last rest pending waiting (closed_by m.pinned k.link last) [] over m.number m.index
  pub sound : Sound steps k.entry k.peer done last
  pub tied : TiedBy m.pinned m trail last
  pub kept : AllByRecursion IsKept done
  pub unfailed : failures k.link steps ≡ []
  pub stage : AtStage at k m input pending done last rest

-- While it is open the machine stores what was read and not answered, and what of the replies was not taken, and no fault
-- of the client's link was told. Broken it may not.
abbrev pub PhaseHolds : Phase → List Step → Conn → List Turn → Option Turn → (rest left : List ℕ) → (next : ℕ) → Type 0
PhaseHolds Open steps c done last rest left next =
    (next ≡ c.current.index) × (left ≡ pending_of c) × AllByRecursion IsKept done × AtStage c.stage c.client c.current c.input.items (pending_of c) done last rest
    × (failures c.client.link steps ≡ [])
PhaseHolds Broken steps c done last rest left next = Unit {0}
PhaseHolds (Over cause) steps c done last rest left next =
    EndHolds cause (history c.client.link steps) done last rest left (failures c.client.link steps ≢ []) (stops steps ≢ [])
PhaseHolds (Told cause) steps c done last rest left next =
    (c.current.pinned ≡ false) × EndHolds cause (history c.client.link steps) done last rest left (failures c.client.link steps ≢ []) (stops steps ≢ [])

-- the machine was told these steps
pub record Reached (steps : List Step) (c : Conn) : Type 0 where
  pub done : List Turn
  pub last : Option Turn
  pub rest : List ℕ
  pub left : List ℕ
  pub kept : Kept steps c.client c.current (trail_of c) c.notes.items (ending_note c.client.link c.phase) (open_over c.phase c.over) done last rest left
  pub phase : PhaseHolds c.phase steps c done last rest left kept.next

abbrev pub IsEnding : Phase → Type 0
IsEnding Open = ⊥
IsEnding Broken = ⊥
IsEnding (Over cause) = Unit {0}
IsEnding (Told cause) = Unit {0}

abbrev pub IsOpen : Conn → Type 0
IsOpen c = c.phase ≡ Open

-- it waits at this stage
pub record Waits (at : Stage) (c : Conn) : Type 0 where
  pub phase : c.phase ≡ Open
  pub stage : c.stage ≡ at

-- it waits at one of these stages
abbrev pub WaitsIn : Stage → Stage → Conn → Type 0
WaitsIn at or c = Waits at c ⊎ Waits or c

-- it looks and draws at this node
abbrev pub WantsNode : Conn → ℕ → Type 0
WantsNode c node = (a : Aim) → c.current.aim ≡ Some a → node ≡ a.node

-- it waits at this stage, or ends
abbrev pub WaitsOver : Stage → Conn → Type 0
WaitsOver at c = Waits at c ⊎ IsEnding c.phase

-- an exchange that goes on is on the same link
abbrev pub KeepsServer : Conn → Conn → Type 0
KeepsServer old new = Waits stage.Exchange new → Waits stage.Exchange old × (new.current.link ≡ old.current.link)

-- what of its message the link to the server hasn't taken
abbrev pub pending_to : Option BackView → List ℕ
pending_to None = []
pending_to (Some b) = b.pending

abbrev pub back_pending_of : Conn → List ℕ
back_pending_of c = pending_to c.current.back

-- what it waits for, and so which calls may come
abbrev pub IsWant : Want → Conn → Type 0
IsWant want.Bytes c = Waits stage.Head c
IsWant want.Pin c = Waits stage.Pin c
IsWant (want.Look node) c = Waits stage.Look c × WantsNode c node
IsWant (want.Walk node) c = Waits stage.Walk c × WantsNode c node
IsWant want.Dial c = Waits stage.Dial c
IsWant (want.Exchange link) c = Waits stage.Exchange c × (link ≡ c.current.link)
IsWant want.Links c = c.phase ≡ Open
IsWant want.Ended c = c.phase ≢ Open

-- there is room for a note, a look, a pick and a link
pub record HasRoom (c : Conn) : Type 0 where
  pub notes : vec_len c.notes < vec_capacity c.notes
  pub looks : vec_len c.looks < vec_capacity c.looks
  pub picks : vec_len c.picks < vec_capacity c.picks
  pub backs : vec_len c.backs < vec_capacity c.backs

-- another cause than want of memory
abbrev pub HasMemory : EndCause → Type 0
HasMemory ending.Memory = ⊥
HasMemory _ = Unit {0}

-- the machine isn't broken, and doesn't end for want of memory
abbrev pub IsGoing : Phase → Type 0
IsGoing Open = Unit {0}
IsGoing Broken = ⊥
IsGoing (Over cause) = HasMemory cause
IsGoing (Told cause) = Unit {0}

abbrev pub IsTold : Phase → Type 0
IsTold Open = ⊥
IsTold Broken = ⊥
IsTold (Over cause) = ⊥
IsTold (Told cause) = Unit {0}

abbrev pub IsFinished : Conn → Type 0
IsFinished c = (c.notes.items ≡ []) × IsTold c.phase

abbrev pub IsNotOver : Phase → Type 0
IsNotOver Open = Unit {0}
IsNotOver Broken = Unit {0}
IsNotOver (Over cause) = ⊥
IsNotOver (Told cause) = Unit {0}

-- it ends for this cause
abbrev pub EndsBy : EndCause → Phase → Type 0
EndsBy cause phase = (phase ≡ Over cause) ⊎ (phase ≡ Told cause)

-- it has nothing to note
abbrev pub IsDrained : Conn → Type 0
IsDrained c = (c.notes.items ≡ []) × IsNotOver c.phase

-- the note is no end
abbrev pub IsRequestBody : NoteBody → Type 0
IsRequestBody (body.Request r) = Unit {0}
IsRequestBody (body.End cause) = ⊥

abbrev pub IsRequestNote : Note → Type 0
IsRequestNote n = IsRequestBody n.body

abbrev pub end_left : Phase → ℕ
end_left Open = 0
end_left Broken = 0
end_left (Over cause) = 1
end_left (Told cause) = 0

abbrev pub pin_left : Bool → ℕ
pin_left true = 1
pin_left false = 0

-- how many notes it has to tell at most
abbrev pub notes_left : Conn → ℕ
notes_left c = (vec_len c.notes + pin_left c.current.pinned) + end_left c.phase

-- no end of it was noted
abbrev pub IsUnended : Conn → Type 0
IsUnended c = (steps : List Step) → Reached steps c → AllByRecursion IsRequestNote (notes (history c.client.link steps))
