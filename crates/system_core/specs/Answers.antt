-- When an event may come, and what a call answers.
use Rattle.std.specs.Prelude.{◌≡◌, ℕ, ◌==◌, Bool, true, false, List, length, Option, Some, None, Result, Ok, Err, codes, slice_get}
use Rattle.conn_machine.specs.declared.conn.Conn.{Conn}
use Rattle.conn_machine.specs.declared.event.BackShape.{BackShape}
use Rattle.conn_machine.specs.declared.event.BackShape.TheVariants as back
use Rattle.conn_machine.specs.declared.event.EventShape.{EventShape}
use Rattle.conn_machine.specs.declared.event.EventShape.TheVariants as shape
use Rattle.conn_machine.specs.declared.event.EventKind.TheVariants as kind
use Rattle.conn_machine.specs.declared.event.StateName.TheVariants as state
use Rattle.conn_machine.specs.Events.{IsEnabled, state_of, kind_text}
use Rattle.conversation.specs.Plans.{Plan}
use Rattle.system_core.specs.Issues.{plan_at}
use Rattle.system_core.specs.Views.{IsConnOf, waiting_of}
use Rattle.system_core.specs.declared.event.Event.{Event}
use Rattle.system_core.specs.declared.event.Event.TheVariants as event
use Rattle.system_core.specs.declared.event.Kind.{Kind}
use Rattle.system_core.specs.declared.event.Kind.TheVariants as kinds
use Rattle.system_core.specs.declared.event.Refused.{Refused}
use Rattle.system_core.specs.declared.event.Refused.TheVariants as refused
use Rattle.system_core.specs.declared.system.System.{System}

-- what happens on the client's link, and on another one
abbrev pub client_shape : BackShape → EventShape
client_shape (back.Bytes n) = shape.Bytes n
client_shape back.End = shape.End
client_shape back.Failed = shape.Failed
client_shape (back.Took n) = shape.Took n

abbrev pub shape_on : Bool → ℕ → BackShape → EventShape
shape_on true link s = client_shape s
shape_on false link s = shape.Back link s

-- this may happen on the link
abbrev pub MayHappen : ℕ → BackShape → Conn → Type 0
MayHappen link s c = IsEnabled (shape_on (link == c.client.link) link s) c

-- this may be done for a client's link
abbrev pub MayBeDone : ℕ → EventShape → Conn → Type 0
MayBeDone link s c = (link ≡ c.client.link) × IsEnabled s c

-- an event of this shape may come for the connection at this place
abbrev pub IsAt : EventShape → ℕ → System → Type 0
IsAt shape i s = (c : Conn) × (slice_get s.clients.conns.items i ≡ Some c) × IsEnabled shape c

-- The answer to an event of a link. A refusal changes nothing: there is no such link, or the event may not come in the
-- state of its connection.
abbrev pub LinkAnswers : System → ℕ → (Conn → Type 0) → Kind → Result (Unit {0}) Refused → System → Type 0
LinkAnswers old link may k (Ok done) new = (i : ℕ) × (c : Conn) × IsConnOf old link i c × may c
LinkAnswers old link may k (Err (refused.NoSuchLink l)) new = (l ≡ link) × ((i : ℕ) (c : Conn) → ¬ (IsConnOf old link i c)) × (new ≡ old)
LinkAnswers old link may k (Err (refused.NotEnabled kind name)) new =
    (i : ℕ) × (c : Conn) × IsConnOf old link i c × (¬ (may c)) × (kind ≡ k) × (name ≡ state_of c) × (new ≡ old)
LinkAnswers old link may k (Err refused.Memory) new = Unit {0}

-- the answer to an event of no connection
abbrev pub LoneAnswers : System → Type 0 → Kind → Result (Unit {0}) Refused → System → Type 0
LoneAnswers old may k (Ok done) new = may
LoneAnswers old may k (Err (refused.NoSuchLink l)) new = ⊥
LoneAnswers old may k (Err (refused.NotEnabled kind name)) new = (¬ may) × (kind ≡ k) × (name ≡ state.Idle) × (new ≡ old)
LoneAnswers old may k (Err refused.Memory) new = Unit {0}

-- a configuration waits to be published
abbrev pub HasWaiting : System → Type 0
HasWaiting s = (p : Plan) × (waiting_of s.clients.timeline ≡ Some p)

-- The answer to each event. A configuration may come while none waits, and be published while one waits; a client and a
-- stop until a stop was asked for.
abbrev pub Answers : System → Event → Result (Unit {0}) Refused → System → Type 0
Answers old (event.Config issue) r new = LoneAnswers old (waiting_of old.clients.timeline ≡ None) kinds.Config r new
Answers old event.Publish r new = LoneAnswers old (HasWaiting old) kinds.Publish r new
Answers old (event.Arrive entry peer) r new = LoneAnswers old (old.stopped ≡ false) kinds.Arrive r new
Answers old (event.Bytes link bytes) r new = LinkAnswers old link (MayHappen link (back.Bytes (length bytes))) (kinds.Conn kind.Bytes) r new
Answers old (event.End link) r new = LinkAnswers old link (MayHappen link back.End) (kinds.Conn kind.End) r new
Answers old (event.Fail link) r new = LinkAnswers old link (MayHappen link back.Failed) (kinds.Conn kind.Fail) r new
Answers old (event.Pin link) r new = LinkAnswers old link (MayBeDone link shape.Pinned) (kinds.Conn kind.Pin) r new
Answers old (event.Look link) r new = LinkAnswers old link (MayBeDone link shape.Looked) (kinds.Conn kind.Look) r new
Answers old (event.Draw link) r new = LinkAnswers old link (MayBeDone link shape.Drew) (kinds.Conn kind.Draw) r new
Answers old (event.Dial link) r new = LinkAnswers old link (MayBeDone link shape.Dialled) (kinds.Conn kind.Dial) r new
Answers old (event.Took link n) r new = LinkAnswers old link (MayHappen link (back.Took n)) (kinds.Conn kind.Took) r new
Answers old event.Stop r new = LoneAnswers old (old.stopped ≡ false) (kinds.Conn kind.Stop) r new

-- a configuration has the next number
abbrev pub IsNext : Event → ℕ → Type 0
IsNext (event.Config issue) n = (plan_at issue).number ≡ n
IsNext _ n = Unit {0}

-- the word of a kind in a script
abbrev pub kind_word : Kind → List ℕ
kind_word kinds.Config = codes "config"
kind_word kinds.Publish = codes "publish"
kind_word kinds.Arrive = codes "arrive"
kind_word (kinds.Conn k) = kind_text k
