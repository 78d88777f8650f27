-- One request with what was made of it, and when that is the right answer.
use Rattle.std.specs.Prelude.{◌≡◌, ◌≢◌, ℕ, ◌==◌, ◌%◌, ◌⊎◌, Bool, true, false, not, List, [], ◌∷◌, ◌++◌, Option, Some, None, if◌then◌else◌, is_some, nat_le}
use Rattle.ip_net.specs.declared.ip.Ip.{Ip}
use Rattle.httparse.specs.Grammar.{RequestHead}
use Rattle.http_wire.specs.Own.{IsOwnReply, content_of}
use Rattle.http_wire.specs.Spelling.{request_text, reply_text}
use Rattle.back_machine.specs.Forwarding.{authority_text}
use Rattle.back_machine.specs.Replies.{HasReply, HasNoReply, HasNoReplyYet, IsWhole}
use Rattle.http_wire.specs.declared.message.Request.{Request}
use Rattle.http_wire.specs.declared.message.Reply.{Reply}
use Rattle.link_world.specs.Log.{LinkEvent, dialled, given, taken, ends}
use Rattle.link_world.specs.declared.note.Note.{Note}
use Rattle.link_world.specs.declared.note.NoteBody.TheVariants as body
use Rattle.link_world.specs.declared.note.Look.{Look}
use Rattle.link_world.specs.declared.note.NodePick.{NodePick}
use Rattle.link_world.specs.declared.note.Cause.{Cause}
use Rattle.link_world.specs.declared.note.Cause.TheVariants.{Passed, Undecided, Head, HeadTooLarge, NoRouter, Stopped, BodyTooLarge, NoChild, Spent, BackFailed, BackBad, BackLate}
use Rattle.link_world.specs.declared.note.EndCause.{EndCause}
use Rattle.link_world.specs.declared.note.EndCause.TheVariants as ending
use Rattle.conversation.specs.Plans.{Plan, Target, IsWinner}
use Rattle.conversation.specs.Steps.{Step, history, failures}
use Rattle.conversation.specs.Asks.{Ask, asks, faulty, unserved, broken, large, refusal, IsHead, judged}

-- a link that was dialled for a request: all that happened on it
pub record BackLink : Type 0 where
  pub link : ℕ
  pub events : List LinkEvent
  pub faults : List (Unit {0})

-- a request, pinned to a configuration, and its reply so far
pub record Turn : Type 0 where
  -- its place on the connection, from 1
  pub index : ℕ
  -- the bytes that the client gave
  pub item : List ℕ
  pub ask : Ask
  pub plan : Plan
  pub router : Option ℕ
  pub status : ℕ
  pub cause : Cause
  pub looks : List Look
  pub picks : List NodePick
  pub spents : List ℕ
  pub back : Option BackLink
  -- the bytes that are spelled for the client, and whether they are the whole reply
  pub reply : List ℕ
  pub whole : Bool

-- why the connection ends after the whole reply, where it does: the first of these that holds
abbrev pub ends_asked : ℕ → Bool → Option EndCause
ends_asked index keep = if not keep then Some ending.Asked else if nat_le 1000 index then Some ending.Count else None

abbrev pub ends_after : ℕ → Ask → Option EndCause
ends_after index (asks r) = ends_asked index r.keep
ends_after index (faulty f) = Some ending.Refused
ends_after index (unserved r) = Some ending.Refused
ends_after index broken = Some ending.Refused
ends_after index large = Some ending.Refused

abbrev pub end_of : Turn → Option EndCause
end_of t = ends_after t.index t.ask

-- whether its reply says `Connection: close`
abbrev pub closes : Turn → Bool
closes t = is_some (end_of t)

abbrev pub links_of : Option BackLink → List ℕ
links_of None = []
links_of (Some b) = b.link ∷ []

-- its note
abbrev pub note_of : ℕ → Turn → Note
note_of link t = record {
  link = link;
  body = body.Request (record {
    index = t.index;
    generation = t.plan.number;
    router = t.router;
    status = t.status;
    cause = t.cause;
    looks = t.looks;
    picks = t.picks;
    turns = [];
    backs = links_of t.back;
  });
}

-- the text of an own reply with this status
abbrev pub IsOwnText : ℕ → Bool → List ℕ → Type 0
IsOwnText status close text =
    (a : Reply) × IsOwnReply status None a × (text ≡ reply_text a 1 close ++ content_of status)

-- the proxy answers by itself, with this status
pub record AnswersOwn (status : ℕ) (t : Turn) : Type 0 where
  pub status_is : t.status ≡ status
  pub text : IsOwnText status (closes t) t.reply
  pub whole : t.whole ≡ true

-- no router was looked for, or none was found
pub record IsUnrouted (t : Turn) : Type 0 where
  pub router : t.router ≡ None
  pub looks : t.looks ≡ []
  pub picks : t.picks ≡ []
  pub spents : t.spents ≡ []
  pub back : t.back ≡ None

-- the row that wins the request with these bytes, or none, by its head as it was received
abbrev pub Routes : Plan → List ℕ → List ℕ → Ip → Request → Option ℕ → Type 0
Routes plan item entry peer r won = (h : RequestHead) × IsHead item h × IsWinner plan entry (judged h r) peer won

-- the router in this row won the request
pub record IsRouted (entry : List ℕ) (peer : Ip) (r : Request) (row : ℕ) (t : Turn) : Type 0 where
  pub asked : t.ask ≡ asks r
  pub won : Routes t.plan t.item entry peer r (Some row)
  pub router : t.router ≡ Some row

-- the look's mask has the one server of its balancer
abbrev pub is_up : Look → Bool
is_up l = not (l.mask % 2 == 0)

-- the one look at the node, which found its server up or not
abbrev pub HasLooked : ℕ → Bool → List Look → Type 0
HasLooked node up looks = (l : Look) × (looks ≡ l ∷ []) × (l.node ≡ node) × (is_up l ≡ up)

-- the one pick at the node, of its one server
abbrev pub HasPicked : ℕ → List NodePick → Type 0
HasPicked node picks = (p : NodePick) × (picks ≡ p ∷ []) × (p.node ≡ node) × (p.pick.child ≡ 0)

abbrev pub node_of : Turn → ℕ → ℕ
node_of t row = (t.plan.target row).node

-- the message that goes to the server
abbrev pub message_to : Target → Request → List ℕ
message_to aim r = request_text r (authority_text aim.host aim.port) aim.pass_host

-- the link was dialled to the server, and took a part of the message from its front on
pub record IsSent (entry : List ℕ) (peer : Ip) (r : Request) (row : ℕ) (b : BackLink) (t : Turn) : Type 0 where
  pub won : IsRouted entry peer r row t
  pub looked : HasLooked (node_of t row) true t.looks
  pub picked : HasPicked (node_of t row) t.picks
  pub accepted : t.spents ≡ []
  pub back : t.back ≡ Some b
  pub more : List LinkEvent
  pub dialled : b.events ≡ dialled (t.plan.target row).host (t.plan.target row).port ∷ more
  pub unsent : List ℕ
  pub message : message_to (t.plan.target row) r ≡ taken b.events ++ unsent

-- how far a request without a reply has come
pub data Stage : Type 0 where
  unrouted routed down up refused picked sent : Stage

abbrev pub IsAt : Stage → List ℕ → Ip → Turn → Type 0
IsAt unrouted entry peer t = IsUnrouted t
IsAt routed entry peer t = (r : Request) × (row : ℕ) × IsRouted entry peer r row t
    × (t.looks ≡ []) × (t.picks ≡ []) × (t.spents ≡ []) × (t.back ≡ None)
IsAt up entry peer t = (r : Request) × (row : ℕ) × IsRouted entry peer r row t
    × HasLooked (node_of t row) true t.looks × (t.picks ≡ []) × (t.spents ≡ []) × (t.back ≡ None)
IsAt picked entry peer t = (r : Request) × (row : ℕ) × IsRouted entry peer r row t
    × HasLooked (node_of t row) true t.looks × HasPicked (node_of t row) t.picks × (t.spents ≡ []) × (t.back ≡ None)
IsAt down entry peer t = (r : Request) × (row : ℕ) × IsRouted entry peer r row t
    × HasLooked (node_of t row) false t.looks × (t.picks ≡ []) × (t.spents ≡ []) × (t.back ≡ None)
IsAt refused entry peer t = (r : Request) × (row : ℕ) × IsRouted entry peer r row t
    × HasLooked (node_of t row) true t.looks × (t.picks ≡ []) × (t.spents ≡ node_of t row ∷ []) × (t.back ≡ None)
IsAt sent entry peer t = (r : Request) × (row : ℕ) × (b : BackLink) × IsSent entry peer r row b t

-- no reply is decided, and the request has come so far
pub record IsUndecided (at : Stage) (entry : List ℕ) (peer : Ip) (t : Turn) : Type 0 where
  pub cause : t.cause ≡ Undecided
  pub stage : IsAt at entry peer t
  pub status : t.status ≡ 0
  pub reply : t.reply ≡ []
  pub unfinished : t.whole ≡ false

-- no router wins the request
abbrev pub IsLost : List ℕ → Ip → Turn → Type 0
IsLost entry peer t = (r : Request) × (t.ask ≡ asks r) × Routes t.plan t.item entry peer r None

-- the server of the winner's balancer was down
abbrev pub IsDown : List ℕ → Ip → Turn → Type 0
IsDown entry peer t = (r : Request) × (row : ℕ) × IsRouted entry peer r row t
    × HasLooked (node_of t row) false t.looks × (t.picks ≡ []) × (t.spents ≡ []) × (t.back ≡ None)

-- the link failed before a whole reply head
abbrev pub HasFailed : List ℕ → Ip → ℕ → Turn → Type 0
HasFailed entry peer link t = (r : Request) × (row : ℕ) × (b : BackLink) × IsSent entry peer r row b t
    × (b.link ≡ link) × (b.faults ≢ []) × HasNoReplyYet r.method (given b.events)

-- the link didn't fail, and what it gave is no valid reply, whatever might follow, or it ended before there was one
abbrev pub HasGivenNone : List ℕ → Ip → ℕ → Turn → Type 0
HasGivenNone entry peer link t = (r : Request) × (row : ℕ) × (b : BackLink) × IsSent entry peer r row b t
    × (b.link ≡ link) × (b.faults ≡ []) × (HasNoReply r.method (given b.events) ⊎ ((ends b.events ≢ []) × HasNoReplyYet r.method (given b.events)))

-- the bytes begin with a whole valid reply to a request of this method
abbrev pub HasWholeReply : List ℕ → List ℕ → Type 0
HasWholeReply method gave = (a : Reply) × (content : List ℕ) × HasReply method gave a content × IsWhole a content

-- its server's link gave a whole valid reply
abbrev pub HasAnswer : Turn → Type 0
HasAnswer t = (r : Request) × (b : BackLink) × (t.ask ≡ asks r) × (t.back ≡ Some b) × HasWholeReply r.method (given b.events)

-- the link gave this reply, and the client gets its head and a front of the content that came
pub record PassesOn (r : Request) (b : BackLink) (t : Turn) : Type 0 where
  pub answer : Reply
  pub content : List ℕ
  pub held : List ℕ
  pub gave : HasReply r.method (given b.events) answer (content ++ held)
  pub status : t.status ≡ answer.status
  pub text : t.reply ≡ reply_text answer r.version (closes t) ++ content
  pub all : t.whole ≡ true → IsWhole answer content
  -- a link that fails gives nothing more
  pub sound : t.whole ≡ true → b.faults ≡ []

abbrev pub IsPassed : List ℕ → Ip → Turn → Type 0
IsPassed entry peer t = (r : Request) × (row : ℕ) × (b : BackLink) × IsSent entry peer r row b t × PassesOn r b t

-- the server was up, and the draw at its node was refused
abbrev pub IsSpent : List ℕ → Ip → ℕ → Turn → Type 0
IsSpent entry peer node t = (r : Request) × (row : ℕ) × IsRouted entry peer r row t
    × HasLooked (node_of t row) true t.looks × (t.picks ≡ []) × (t.spents ≡ node ∷ []) × (node ≡ node_of t row) × (t.back ≡ None)

-- each cause, with what shows it
abbrev pub AnswersBy : Cause → List ℕ → Ip → Turn → Type 0
AnswersBy Passed entry peer t = IsPassed entry peer t
AnswersBy Undecided entry peer t = (at : Stage) × IsUndecided at entry peer t
AnswersBy (Head fault) entry peer t = (refusal t.ask ≡ Some (t.status, Head fault)) × AnswersOwn t.status t × IsUnrouted t
AnswersBy HeadTooLarge entry peer t = (refusal t.ask ≡ Some (t.status, HeadTooLarge)) × AnswersOwn t.status t × IsUnrouted t
AnswersBy NoRouter entry peer t = IsLost entry peer t × AnswersOwn 404 t × IsUnrouted t
AnswersBy (Stopped place) entry peer t = ⊥
AnswersBy BodyTooLarge entry peer t = ⊥
AnswersBy NoChild entry peer t = IsDown entry peer t × AnswersOwn 503 t
AnswersBy (Spent node) entry peer t = IsSpent entry peer node t × AnswersOwn 503 t
AnswersBy (BackFailed link) entry peer t = HasFailed entry peer link t × AnswersOwn 502 t
AnswersBy (BackBad link) entry peer t = HasGivenNone entry peer link t × AnswersOwn 502 t
AnswersBy (BackLate link base now) entry peer t = ⊥

-- the request, its status, its cause and its reply belong together, for a client that came here from there
abbrev pub Answers : List ℕ → Ip → Turn → Type 0
Answers entry peer t = AnswersBy t.cause entry peer t

-- the link was dialled, and this is all that the steps tell of it
pub record IsTold (steps : List Step) (b : BackLink) : Type 0 where
  pub host : List ℕ
  pub port : ℕ
  pub more : List LinkEvent
  pub opened : b.events ≡ dialled host port ∷ more
  pub events : history b.link steps ≡ b.events
  pub faults : failures b.link steps ≡ b.faults

abbrev pub IsLinkTold : List Step → Option BackLink → Type 0
IsLinkTold steps None = Unit {0}
IsLinkTold steps (Some b) = IsTold steps b

-- what a request says of its link is what the steps tell
abbrev pub IsShown : List Step → Turn → Type 0
IsShown steps t = IsLinkTold steps t.back
