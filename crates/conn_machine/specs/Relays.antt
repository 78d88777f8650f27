-- What a piece of a link to the server adds to the reply.
use Rattle.std.specs.Prelude.{◌≡◌, ◌≢◌, ℕ, Bool, true, false, List, [], ◌++◌, Option, Some, None, is_some}
use Rattle.http_wire.specs.Spelling.{reply_text}
use Rattle.http_wire.specs.declared.message.Reply.{Reply}
use Rattle.http_wire.specs.declared.message.Request.{Request as HttpRequest}
use Rattle.link_world.specs.declared.note.Cause.{Cause}
use Rattle.link_world.specs.declared.note.Cause.TheVariants as causes
use Rattle.back_machine.specs.Exchanges.{BackView, Exchanged, IsOpen}
use Rattle.back_machine.specs.declared.state.BackState.TheVariants.{Done, Broken}
use Rattle.back_machine.specs.declared.state.BackCause.{BackCause}
use Rattle.back_machine.specs.declared.state.BackCause.TheVariants.{Failed, Bad, Ended}
use Rattle.conn_machine.specs.declared.parts.Asked.{Asked}
use Rattle.conn_machine.specs.declared.parts.Asked.TheVariants.{Request}
use Rattle.conn_machine.specs.declared.passing.Outcome.{Outcome}
use Rattle.conn_machine.specs.declared.passing.Outcome.TheVariants as out

-- the head, where it wasn't whole before and is now
abbrev pub new_head : Bool → Option Reply → ℕ → Bool → List ℕ
new_head true o version close = []
new_head false None version close = []
new_head false (Some a) version close = reply_text a version close

-- the exchange goes on by this piece, and the reply by its head and its content
abbrev pub Relays : BackView → BackView → List ℕ → ℕ → Bool → (out new_out : List ℕ) → Type 0
Relays b c piece version close out new_out =
    (message method took gave content : List ℕ) → Exchanged message method took gave content false false b
    → (fresh : List ℕ) × Exchanged message method took (gave ++ piece) (content ++ fresh) false false c
    × (new_out ≡ (out ++ new_head (is_some b.reply) c.reply version close) ++ fresh)

-- the status and the cause of a request, once there is a reply
abbrev pub heard_status : Option Reply → ℕ → ℕ
heard_status None status = status
heard_status (Some a) status = a.status

abbrev pub heard_cause : Option Reply → Cause → Cause
heard_cause None cause = cause
heard_cause (Some a) cause = causes.Passed

-- the exchange, where there is one, goes on
abbrev pub IsOpenBack : Option BackView → Type 0
IsOpenBack None = Unit {0}
IsOpenBack (Some b) = IsOpen b.state

-- how far an exchange is
abbrev pub IsOutcome : Outcome → Option BackView → Type 0
IsOutcome out.Going o = IsOpenBack o
IsOutcome out.Whole o = (b : BackView) × (o ≡ Some b) × (b.state ≡ Done)
IsOutcome out.Cut o = (b : BackView) × (cause : BackCause) × (o ≡ Some b) × (b.state ≡ Broken cause) × (b.reply ≢ None)
IsOutcome (out.Lost cause) o = (b : BackView) × (o ≡ Some b) × (b.state ≡ Broken cause) × (b.reply ≡ None)

-- why a request whose server gave no reply is answered
abbrev pub lost_cause : BackCause → ℕ → Cause
lost_cause Failed link = causes.BackFailed link
lost_cause Bad link = causes.BackBad link
lost_cause Ended link = causes.BackBad link

-- the version of what was asked
abbrev pub IsVersion : Asked → ℕ → Type 0
IsVersion asked version = (r : HttpRequest) → asked ≡ Request r → version ≡ r.version
