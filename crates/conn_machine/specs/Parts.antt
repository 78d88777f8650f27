-- The parts of a machine, and what each stage says of them.
use Rattle.std.specs.Prelude.{◌≡◌, ◌≢◌, ℕ, ◌≤◌, ◌<◌, Bool, true, false, List, [], ◌++◌, length, take, drop, Option, Some, None}
use Rattle.std.specs.List.{AllByRecursion}
use Rattle.std.specs.declared.sync.Arc.{Arc}
use Rattle.std.specs.declared.alloc.Global.{Global}
use Rattle.std.specs.Arc.{arc_value}
use Rattle.ip_net.specs.declared.ip.Ip.{Ip}
use Rattle.httparse.specs.Grammar.{RequestHead, MayBecomeRequest}
use Rattle.link_world.specs.declared.note.Note.{Note}
use Rattle.link_world.specs.declared.note.NoteBody.TheVariants as body
use Rattle.link_world.specs.declared.note.Look.{Look}
use Rattle.link_world.specs.declared.note.NodePick.{NodePick}
use Rattle.link_world.specs.declared.note.Cause.{Cause}
use Rattle.link_world.specs.declared.note.Cause.TheVariants as causes
use Rattle.link_world.specs.declared.note.HeadName.TheVariants as name
use Rattle.link_world.specs.declared.note.EndCause.{EndCause}
use Rattle.link_world.specs.declared.note.EndCause.TheVariants as ending
use Rattle.conversation.specs.Plans.{Plan, Target, IsWinner}
use Rattle.link_world.specs.Log.{given, taken, ends}
use Rattle.head_view.specs.Scans.{HasHead}
use Rattle.conversation.specs.Asks.{Ask, asks, IsHead, IsItem, judged, refusal, head_limit, line_limit}
use Rattle.conversation.specs.Turns.{Stage as TurnStage, Turn, BackLink, links_of, ends_asked, closes, message_to, IsUndecided, unrouted, routed, down, up, refused, picked, sent, IsSent}
use Rattle.generation.specs.declared.generation.Generation.{Generation}
use Rattle.generation.specs.Meaning.{plan_of}
use Rattle.back_machine.specs.Exchanges.{BackView, Exchanged}
use Rattle.back_machine.specs.Forwarding.{forwarded}
use Rattle.back_machine.specs.declared.state.BackState.{BackState}
use Rattle.back_machine.specs.declared.state.BackState.TheVariants as backs
use Rattle.back_machine.specs.declared.state.BackCause.TheVariants as why
use Rattle.http_wire.specs.Spelling.{reply_text}
use Rattle.http_wire.specs.declared.message.Reply.{Reply as HttpReply}
use Rattle.conn_machine.specs.declared.parts.Aim.{Aim}
use Rattle.conn_machine.specs.declared.parts.Asked.{Asked}
use Rattle.conn_machine.specs.declared.parts.Asked.TheVariants.{Nothing, Request, Refused}
use Rattle.conn_machine.specs.declared.parts.Client.{Client}
use Rattle.conn_machine.specs.declared.parts.Current.{Current}
use Rattle.conn_machine.specs.declared.parts.Stage.{Stage}
use Rattle.conn_machine.specs.declared.parts.Stage.TheVariants.{Head, Pin, Route, Look as Looking, Down, Walk, Spent, Dial, Dialled, Exchange, Reply}
use Rattle.http_wire.specs.declared.message.Request.{Request as HttpRequest}
use Rattle.conn_machine.specs.declared.pins.Routed.{Routed}
use Rattle.conn_machine.specs.declared.pins.Routed.TheVariants as route
use Rattle.conn_machine.specs.declared.heads.Found.{Found}
use Rattle.conn_machine.specs.declared.heads.Found.TheVariants as found

-- the status of a refusal
abbrev pub refused_status : Cause → ℕ
refused_status (causes.Head name.BadCoding) = 501
refused_status causes.HeadTooLarge = 431
refused_status _ = 400

-- what was asked for, as the machine keeps it
abbrev pub Fits : Asked → Ask → Type 0
Fits Nothing ask = ⊥
Fits (Request r) ask = ask ≡ asks r
Fits (Refused cause) ask = refusal ask ≡ Some (refused_status cause, cause)

-- the bytes are a part of a head: none is whole, one may become, and there is room for more
pub record IsPart (buf : List ℕ) : Type 0 where
  pub unfinished : ¬ (HasHead line_limit buf)
  pub continues : MayBecomeRequest buf
  pub room : length buf < head_limit

-- what was found at the front of the client's bytes
abbrev pub IsFound : Ip → List ℕ → Found → Type 0
IsFound peer buf found.Part = IsPart buf
IsFound peer buf (found.Head asked n) = (n ≤ length buf) × (ask : Ask) × IsItem peer (take n buf) ask × Fits asked ask

-- why the connection ends after the reply
abbrev pub end_by : ℕ → Asked → Option EndCause
end_by index Nothing = Some ending.Refused
end_by index (Request r) = ends_asked index r.keep
end_by index (Refused cause) = Some ending.Refused

-- the machine aims at this target
pub record IsAim (a : Aim) (t : Target) : Type 0 where
  pub node : a.node ≡ t.node
  pub host : a.server.host ≡ t.host
  pub port : a.server.port ≡ t.port
  pub pass_host : a.pass_host ≡ t.pass_host

-- the row that the configuration finds for the request with these bytes, by whatever head they are
abbrev pub FindsRow : Plan → List ℕ → List ℕ → Ip → HttpRequest → Option ℕ → Type 0
FindsRow plan item entry peer r won = (h : RequestHead) → IsHead item h → IsWinner plan entry (judged h r) peer won

-- what is made of the request with these bytes by its configuration
abbrev pub IsRoute : List ℕ → Ip → List ℕ → Asked → Option Plan → Routed → Type 0
IsRoute entry peer item asked plan route.Unknown = Unit {0}
IsRoute entry peer item asked plan (route.Refused cause) = asked ≡ Refused cause
IsRoute entry peer item asked plan route.Lost = (r : HttpRequest) × (p : Plan) × (asked ≡ Request r) × (plan ≡ Some p) × FindsRow p item entry peer r None
IsRoute entry peer item asked plan (route.Won row aim) = (r : HttpRequest) × (p : Plan) × (asked ≡ Request r) × (plan ≡ Some p) × FindsRow p item entry peer r (Some row) × IsAim aim (p.target row)

-- what was looked up, drawn and dialled for the current request
pub record Trail : Type 0 where
  pub looks : List Look
  pub picks : List NodePick
  pub backs : List ℕ

-- the note that the machine's parts make
abbrev pub note_by : ℕ → Current → List Look → List NodePick → List ℕ → Note
note_by link m looks picks backs = record {
  link = link;
  body = body.Request (record {
    index = m.index;
    generation = m.number;
    router = m.router;
    status = m.status;
    cause = m.cause;
    looks = looks;
    picks = picks;
    turns = [];
    backs = backs;
  });
}

abbrev pub no_trail : Trail
no_trail = record { looks = []; picks = []; backs = [] }

-- the machine keeps what the note of this request says
pub record Tied (m : Current) (trail : Trail) (t : Turn) : Type 0 where
  pub index : t.index ≡ m.index
  pub number : t.plan.number ≡ m.number
  pub router : t.router ≡ m.router
  pub status : t.status ≡ m.status
  pub cause : t.cause ≡ m.cause
  pub looks : t.looks ≡ trail.looks
  pub picks : t.picks ≡ trail.picks
  pub backs : links_of t.back ≡ trail.backs

abbrev pub TiedBy : Bool → Current → Trail → Option Turn → Type 0
TiedBy false m trail last = Unit {0}
TiedBy true m trail None = ⊥
TiedBy true m trail (Some t) = Tied m trail t

abbrev pub issue_plan : Option (Arc Generation Global) → Option Plan
issue_plan None = None
issue_plan (Some g) = Some (plan_of (arc_value g))

-- no request is whole
pub record AtHead (m : Current) (input pending : List ℕ) (last : Option Turn) (rest : List ℕ) : Type 0 where
  pub last_is : last ≡ None
  pub unpinned : m.pinned ≡ false
  pub rest_is : rest ≡ input
  pub none : pending ≡ []

-- a request is whole or refused, and isn't pinned
pub record AtPin (peer : Ip) (m : Current) (input pending : List ℕ) (last : Option Turn) (rest : List ℕ) : Type 0 where
  pub last_is : last ≡ None
  pub unpinned : m.pinned ≡ false
  pub rest_is : rest ≡ input
  pub none : pending ≡ []
  pub fits : m.size ≤ length input
  pub ask : Ask
  pub item : IsItem peer (take m.size input) ask
  pub asked : Fits m.asked ask

-- a request is pinned
pub record AtTurn (m : Current) (input : List ℕ) (last : Option Turn) (rest : List ℕ) (P : Turn → Type 0) : Type 0 where
  pub turn : Turn
  pub last_is : last ≡ Some turn
  pub pinned : m.pinned ≡ true
  pub rest_is : rest ≡ drop m.size input
  pub fits : m.size ≤ length input
  pub asked : Fits m.asked turn.ask
  pub holds : P turn

-- no reply is decided: its configuration is kept
pub record IsOpenAt (entry : List ℕ) (peer : Ip) (m : Current) (pending : List ℕ) (at : TurnStage) (t : Turn) : Type 0 where
  pub undecided : IsUndecided at entry peer t
  pub plan : issue_plan m.issue ≡ Some t.plan
  pub none : pending ≡ []

-- nor was a router looked for: its bytes stand at the front
pub record IsUnroutedAt (entry : List ℕ) (peer : Ip) (m : Current) (input pending : List ℕ) (t : Turn) : Type 0 where
  pub open_at : IsOpenAt entry peer m pending unrouted t
  pub item_is : t.item ≡ take m.size input

-- and its server is known
pub record IsAimedAt (entry : List ℕ) (peer : Ip) (m : Current) (pending : List ℕ) (at : TurnStage) (t : Turn) : Type 0 where
  pub open_at : IsOpenAt entry peer m pending at t
  pub aim : Aim
  pub aim_is : m.aim ≡ Some aim
  pub aims : (row : ℕ) → t.router ≡ Some row → IsAim aim (t.plan.target row)

-- another link than this
abbrev pub IsElse : ℕ → Option BackLink → Type 0
IsElse link None = Unit {0}
IsElse link (Some b) = b.link ≢ link

-- the link failed just where the exchange is broken for that
abbrev pub IsFailing : BackState → (faults : List (Unit {0})) → Type 0
IsFailing backs.Waiting faults = faults ≡ []
IsFailing backs.HeadRead faults = faults ≡ []
IsFailing backs.Done faults = faults ≡ []
IsFailing (backs.Broken why.Failed) faults = faults ≢ []
IsFailing (backs.Broken why.Ended) faults = faults ≡ []
IsFailing (backs.Broken why.Bad) faults = faults ≡ []

-- the link was dialled, and nothing else happened on it
pub record IsDialling (entry : List ℕ) (peer : Ip) (m : Current) (pending : List ℕ) (done : List Turn) (t : Turn) : Type 0 where
  pub aimed : IsAimedAt entry peer m pending sent t
  pub r : HttpRequest
  pub row : ℕ
  pub link : BackLink
  pub is_sent : IsSent entry peer r row link t
  pub number : link.link ≡ m.link
  pub untaken : taken link.events ≡ []
  pub ungiven : given link.events ≡ []
  pub sound : link.faults ≡ []
  pub apart : AllByRecursion (λ (u : Turn). IsElse m.link u.back) done

-- what of the reply has come: nothing yet, or this reply with this content
abbrev pub Passing : Option HttpReply → HttpRequest → Turn → (content pending : List ℕ) → Type 0
Passing None r t content pending = (t.cause ≡ causes.Undecided) × (t.status ≡ 0) × (t.reply ≡ []) × (t.whole ≡ false) × (pending ≡ [])
Passing (Some a) r t content pending =
    (t.cause ≡ causes.Passed) × (t.status ≡ a.status) × (t.reply ≡ reply_text a r.version (closes t) ++ content) × (t.whole ≡ false)

-- the exchange with its server
pub record IsExchanging (entry : List ℕ) (peer : Ip) (m : Current) (pending : List ℕ) (done : List Turn) (t : Turn) : Type 0 where
  pub back : BackView
  pub back_is : m.back ≡ Some back
  pub r : HttpRequest
  pub row : ℕ
  pub link : BackLink
  pub sent : IsSent entry peer r row link t
  pub number : link.link ≡ m.link
  pub content : List ℕ
  pub ended : Bool
  pub failed : Bool
  pub exchanged : Exchanged (message_to (t.plan.target row) r) r.method (taken link.events) (given link.events) content ended failed back
  pub ends_is : ended ≡ true → ends link.events ≢ []
  pub fails_is : failed ≡ true → link.faults ≢ []
  pub failing : IsFailing back.state link.faults
  pub passing : Passing back.reply r t content pending
  pub apart : AllByRecursion (λ (u : Turn). IsElse m.link u.back) done

-- the exchange of this request with this server, of which nothing happened yet
abbrev pub HasBegun : Asked → Option Aim → BackView → Type 0
HasBegun asked aim back =
    (r : HttpRequest) × (a : Aim) × (asked ≡ Request r) × (aim ≡ Some a) × (back.state ≡ backs.Waiting)
    × Exchanged (forwarded r a.server a.pass_host) r.method [] [] [] false false back

abbrev pub AtStage : Stage → Client → Current → (input pending : List ℕ) → List Turn → Option Turn → List ℕ → Type 0
AtStage Head k m input pending done last rest = AtHead m input pending last rest
AtStage Pin k m input pending done last rest = AtPin k.peer m input pending last rest
AtStage Route k m input pending done last rest = AtTurn m input last rest (IsUnroutedAt k.entry k.peer m input pending)
AtStage Looking k m input pending done last rest = AtTurn m input last rest (IsAimedAt k.entry k.peer m pending routed)
AtStage Down k m input pending done last rest = AtTurn m input last rest (IsAimedAt k.entry k.peer m pending down)
AtStage Walk k m input pending done last rest = AtTurn m input last rest (IsAimedAt k.entry k.peer m pending up)
AtStage Spent k m input pending done last rest = AtTurn m input last rest (IsAimedAt k.entry k.peer m pending refused)
AtStage Dial k m input pending done last rest = AtTurn m input last rest (IsAimedAt k.entry k.peer m pending picked)
AtStage Dialled k m input pending done last rest = AtTurn m input last rest (IsDialling k.entry k.peer m pending done)
AtStage Exchange k m input pending done last rest = AtTurn m input last rest (IsExchanging k.entry k.peer m pending done)
AtStage Reply k m input pending done last rest = AtTurn m input last rest (λ t. t.whole ≡ true)
