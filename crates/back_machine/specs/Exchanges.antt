-- One exchange with a backend: what its link took and gave so far, and the machine.
use Rattle.std.specs.Prelude.{◌≡◌, ℕ, ◌+◌, ◌==◌, if◌then◌else◌, Bool, true, false, List, [], ◌++◌, length, Option, Some, None, ⊤}
use Rattle.http_wire.specs.declared.message.Reply.{Reply}
use Rattle.back_machine.specs.Replies.{HasNoReplyYet, HasNoReply, IsBegun, content_length, HasReply, IsWhole, IsShort}
use Rattle.back_machine.specs.declared.state.BackState.{BackState}
use Rattle.back_machine.specs.declared.state.BackState.TheVariants.{Waiting, HeadRead, Done, Broken}
use Rattle.back_machine.specs.declared.state.BackCause.{BackCause}
use Rattle.back_machine.specs.declared.state.BackCause.TheVariants.{Failed, Bad, Ended}

-- the machine
pub record BackView : Type 0 where
  -- the method of the request
  pub method : List ℕ
  -- what of the request the link hasn't taken
  pub pending : List ℕ
  -- what has come of a head that isn't whole
  pub head : List ℕ
  pub reply : Option Reply
  -- how many bytes of the content haven't come
  pub left : ℕ
  pub state : BackState

-- bytes may come
abbrev pub IsOpen : BackState → Type 0
IsOpen Waiting = ⊤
IsOpen HeadRead = ⊤
IsOpen Done = ⊥
IsOpen (Broken cause) = ⊥

-- what the link's end or its fault makes of a state
abbrev pub broken_by : BackCause → BackState → BackState
broken_by cause Waiting = Broken cause
broken_by cause HeadRead = Broken cause
broken_by cause Done = Done
broken_by cause (Broken first) = Broken first

-- whole, or not
abbrev pub state_with : ℕ → BackState
state_with left = if left == 0 then Done else HeadRead

-- so many bytes of the content are left
abbrev pub with_left : BackView → ℕ → BackView
with_left b left = record b { left = left; state = state_with left }

-- what has come of a reply: none yet, or this reply with this content
abbrev pub Receives : List ℕ → List ℕ → List ℕ → Option Reply → Type 0
Receives method gave content None = HasNoReplyYet method gave × (content ≡ [])
Receives method gave content (Some reply) = HasReply method gave reply content

-- a reply that has begun is short of content
abbrev pub IsCut : List ℕ → Option Reply → Type 0
IsCut content None = ⊤
IsCut content (Some reply) = IsShort reply content

-- the link is in use
pub record InUse (ended failed : Bool) : Type 0 where
  pub goes_on : ended ≡ false
  pub works : failed ≡ false

-- no head is whole
pub record Waits (gave : List ℕ) (b : BackView) : Type 0 where
  pub none : b.reply ≡ None
  pub kept : b.head ≡ gave
  pub begun : IsBegun gave

-- the head is whole, and its content isn't
pub record Continues (content : List ℕ) (b : BackView) : Type 0 where
  pub reply : Reply
  pub reply_is : b.reply ≡ Some reply
  pub left_is : b.left + length content ≡ content_length reply.framing
  pub short : IsShort reply content

-- the content is whole
pub record Ends (content : List ℕ) (b : BackView) : Type 0 where
  pub reply : Reply
  pub reply_is : b.reply ≡ Some reply
  pub whole : IsWhole reply content

-- why an exchange is broken
abbrev pub Breaks : BackCause → (method gave content : List ℕ) → (ended failed : Bool) → Option Reply → Type 0
Breaks Bad method gave content ended failed reply = HasNoReply method gave × (reply ≡ None)
Breaks Ended method gave content ended failed reply = (ended ≡ true) × IsCut content reply
Breaks Failed method gave content ended failed reply = (failed ≡ true) × IsCut content reply

-- what each state says
abbrev pub StateHolds : BackState → (method gave content : List ℕ) → (ended failed : Bool) → BackView → Type 0
StateHolds Waiting method gave content ended failed b = InUse ended failed × Waits gave b
StateHolds HeadRead method gave content ended failed b = InUse ended failed × Continues content b
StateHolds Done method gave content ended failed b = Ends content b
StateHolds (Broken cause) method gave content ended failed b = Breaks cause method gave content ended failed b.reply

-- The link was to take this message, took these bytes and gave those, of which this content was handed on; it gave its
-- end or not, and failed or not. The machine is the one that this leaves.
pub record Exchanged (message method took gave content : List ℕ) (ended failed : Bool) (b : BackView) : Type 0 where
  pub method_is : b.method ≡ method
  pub sent : message ≡ took ++ b.pending
  pub received : Receives method gave content b.reply
  pub state : StateHolds b.state method gave content ended failed b
