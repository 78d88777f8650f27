-- What an event tells a machine, and when it may come.
use Rattle.std.specs.Prelude.{◌≡◌, ◌≢◌, ℕ, ◌+◌, ◌<◌, ◌≤◌, Bool, true, false, List, [], ◌∷◌, length, take, codes, Option, Some, None, vec_len}
use Rattle.std.specs.Arc.{arc_value}
use Rattle.link_world.specs.Log.{gave, gave_end, took, dialled}
use Rattle.conversation.specs.Steps.{Step, happened, failed, pinned, looked, drew, spent, stopped, IsNew}
use Rattle.generation.specs.Meaning.{plan_of}
use Rattle.conn_machine.specs.declared.parts.Aim.{Aim}
use Rattle.conn_machine.specs.declared.parts.Stage.{Stage}
use Rattle.conn_machine.specs.declared.parts.Stage.TheVariants as stage
use Rattle.conn_machine.specs.declared.parts.Phase.{Phase}
use Rattle.conn_machine.specs.declared.parts.Phase.TheVariants.{Open, Broken, Over, Told}
use Rattle.conn_machine.specs.declared.event.ConnEvent.{ConnEvent}
use Rattle.conn_machine.specs.declared.event.ConnEvent.TheVariants as event
use Rattle.conn_machine.specs.declared.event.BackEvent.{BackEvent}
use Rattle.conn_machine.specs.declared.event.BackEvent.TheVariants as back
use Rattle.conn_machine.specs.declared.event.EventShape.{EventShape}
use Rattle.conn_machine.specs.declared.event.EventShape.TheVariants as shape
use Rattle.conn_machine.specs.declared.event.BackShape.{BackShape}
use Rattle.conn_machine.specs.declared.event.BackShape.TheVariants as back_shape
use Rattle.conn_machine.specs.declared.event.EventKind.{EventKind}
use Rattle.conn_machine.specs.declared.event.EventKind.TheVariants as kind
use Rattle.conn_machine.specs.declared.event.StateName.{StateName}
use Rattle.conn_machine.specs.declared.event.StateName.TheVariants as state
use Rattle.conn_machine.specs.declared.conn.Conn.{Conn}
use Rattle.conn_machine.specs.Reached.{IsOpen, Waits, WantsNode, KeepsServer, pending_of, back_pending_of}

-- the most bytes that a client's buffer holds, from the head of the current request on
abbrev pub buffer_limit : ℕ
buffer_limit = 32768

abbrev pub back_shape_of : BackEvent → BackShape
back_shape_of (back.Bytes piece) = back_shape.Bytes (length piece.now)
back_shape_of back.End = back_shape.End
back_shape_of back.Failed = back_shape.Failed
back_shape_of (back.Took n) = back_shape.Took n

abbrev pub shape_of : ConnEvent → EventShape
shape_of (event.Bytes piece) = shape.Bytes (length piece.now)
shape_of event.End = shape.End
shape_of event.Failed = shape.Failed
shape_of (event.Pinned issue) = shape.Pinned
shape_of (event.Looked look) = shape.Looked
shape_of (event.Drew pick) = shape.Drew
shape_of (event.Spent node) = shape.Drew
shape_of (event.Dialled link) = shape.Dialled
shape_of (event.Back link e) = shape.Back link (back_shape_of e)
shape_of (event.Took n) = shape.Took n
shape_of event.Stop = shape.Stop

abbrev pub back_kind_of : BackShape → EventKind
back_kind_of (back_shape.Bytes n) = kind.Bytes
back_kind_of back_shape.End = kind.End
back_kind_of back_shape.Failed = kind.Fail
back_kind_of (back_shape.Took n) = kind.Took

abbrev pub kind_of : EventShape → EventKind
kind_of (shape.Bytes n) = kind.Bytes
kind_of shape.End = kind.End
kind_of shape.Failed = kind.Fail
kind_of shape.Pinned = kind.Pin
kind_of shape.Looked = kind.Look
kind_of shape.Drew = kind.Draw
kind_of shape.Dialled = kind.Dial
kind_of (shape.Back link e) = back_kind_of e
kind_of (shape.Took n) = kind.Took
kind_of shape.Stop = kind.Stop

-- the word of a kind in a script
abbrev pub kind_text : EventKind → List ℕ
kind_text kind.Bytes = codes "bytes"
kind_text kind.End = codes "end"
kind_text kind.Fail = codes "fail"
kind_text kind.Pin = codes "pin"
kind_text kind.Look = codes "look"
kind_text kind.Draw = codes "draw"
kind_text kind.Dial = codes "dial"
kind_text kind.Took = codes "took"
kind_text kind.Stop = codes "stop"

-- the name of a state
abbrev pub state_text : StateName → List ℕ
state_text state.Idle = codes "Idle"
state_text state.Head = codes "Head"
state_text state.Pin = codes "Pin"
state_text state.Look = codes "Look"
state_text state.Walk = codes "Walk"
state_text state.Dial = codes "Dial"
state_text state.Exchange = codes "Exchange"
state_text state.Reply = codes "Reply"
state_text state.Ended = codes "Ended"

-- the state of an open machine, which holds these bytes of its client
abbrev pub head_state : List ℕ → StateName
head_state [] = state.Idle
head_state (b ∷ bs) = state.Head

abbrev pub stage_state : Stage → List ℕ → StateName
stage_state stage.Head input = head_state input
stage_state stage.Pin input = state.Pin
stage_state stage.Route input = state.Pin
stage_state stage.Look input = state.Look
stage_state stage.Down input = state.Look
stage_state stage.Walk input = state.Walk
stage_state stage.Spent input = state.Walk
stage_state stage.Dial input = state.Dial
stage_state stage.Dialled input = state.Dial
stage_state stage.Exchange input = state.Exchange
stage_state stage.Reply input = state.Reply

abbrev pub phase_state : Phase → StateName → StateName
phase_state Open s = s
phase_state Broken s = state.Ended
phase_state (Over cause) s = state.Ended
phase_state (Told cause) s = state.Ended

abbrev pub state_of : Conn → StateName
state_of c = phase_state c.phase (stage_state c.stage c.input.items)

-- the step that an event on a link to a server tells, for which these bytes were pending
abbrev pub back_step_of : ℕ → List ℕ → BackEvent → Step
back_step_of link pending (back.Bytes piece) = happened link (gave piece.now)
back_step_of link pending back.End = happened link gave_end
back_step_of link pending back.Failed = failed link
back_step_of link pending (back.Took n) = happened link (took (take n pending))

-- the link was dialled to the server of the aim
abbrev pub dial_step : ℕ → Option Aim → Step
dial_step link None = happened link (dialled [] 0)
dial_step link (Some a) = happened link (dialled a.server.host a.server.port)

-- the step that an event tells the machine
abbrev pub step_of : Conn → ConnEvent → Step
step_of c (event.Bytes piece) = happened c.client.link (gave piece.now)
step_of c event.End = happened c.client.link gave_end
step_of c event.Failed = failed c.client.link
step_of c (event.Pinned issue) = pinned (plan_of (arc_value issue))
step_of c (event.Looked look) = looked look
step_of c (event.Drew pick) = drew pick
step_of c (event.Spent node) = spent node
step_of c (event.Dialled link) = dial_step link c.current.aim
step_of c (event.Back link e) = back_step_of link (back_pending_of c) e
step_of c (event.Took n) = happened c.client.link (took (take n (pending_of c)))
step_of c event.Stop = stopped

-- an event of this shape may come on the link to the server, for which these bytes are pending
abbrev pub IsBackEnabled : BackShape → List ℕ → Type 0
IsBackEnabled (back_shape.Bytes n) pending = 0 < n
IsBackEnabled back_shape.End pending = Unit {0}
IsBackEnabled back_shape.Failed pending = Unit {0}
IsBackEnabled (back_shape.Took n) pending = (0 < n) × (n ≤ length pending)

-- An event of this shape may come. Bytes and the end of the client while its link is in use and hasn't ended, bytes
-- where the client's buffer has room for them; what was asked for in the state that waits for it; what happens on the
-- link to the server during the exchange.
abbrev pub IsEnabled : EventShape → Conn → Type 0
IsEnabled (shape.Bytes n) c = IsOpen c × (c.over ≡ false) × (0 < n) × (vec_len c.input + n ≤ buffer_limit)
IsEnabled shape.End c = IsOpen c × (c.over ≡ false)
IsEnabled shape.Failed c = IsOpen c
IsEnabled shape.Pinned c = Waits stage.Pin c
IsEnabled shape.Looked c = Waits stage.Look c
IsEnabled shape.Drew c = Waits stage.Walk c
IsEnabled shape.Dialled c = Waits stage.Dial c
IsEnabled (shape.Back link e) c = Waits stage.Exchange c × (link ≡ c.current.link) × IsBackEnabled e (back_pending_of c)
IsEnabled (shape.Took n) c = IsOpen c × (0 < n) × (n ≤ length (pending_of c))
IsEnabled shape.Stop c = IsOpen c

-- What the event carries is what was asked for: a configuration whose number is no lower than the last, a look or a pick
-- of the node that is wanted.
abbrev pub IsAsked : ConnEvent → Conn → Type 0
IsAsked (event.Pinned issue) c = c.current.number ≤ (plan_of (arc_value issue)).number
IsAsked (event.Looked look) c = WantsNode c look.node
IsAsked (event.Drew pick) c = WantsNode c pick.node × (pick.pick.child ≡ 0)
IsAsked (event.Spent node) c = WantsNode c node
IsAsked _ c = Unit {0}

-- a link that was dialled is one of which the steps tell nothing
abbrev pub IsFresh : ConnEvent → List Step → Type 0
IsFresh (event.Dialled link) steps = IsNew link steps
IsFresh _ steps = Unit {0}

-- the number of the last pin after the event
abbrev pub number_after : ConnEvent → ℕ → ℕ
number_after (event.Pinned issue) number = (plan_of (arc_value issue)).number
number_after _ number = number

-- a link that was dialled is the server's, and else an exchange that goes on is on the same link
abbrev pub ServerAfter : ConnEvent → Conn → Conn → Type 0
ServerAfter (event.Dialled link) old new = Waits stage.Exchange new → new.current.link ≡ link
ServerAfter _ old new = KeepsServer old new
