-- One connection that was served: its bytes in, its bytes out and its notes.
use Rattle.std.specs.Prelude.{◌≡◌, ◌≢◌, ℕ, ◌+◌, ◌<◌, ◌≤◌, ◌⊎◌, true, false, List, [], ◌∷◌, ◌++◌, length, map, Option, Some, None}
use Rattle.std.specs.List.{flat_map, AllByRecursion, Contains}
use Rattle.ip_net.specs.declared.ip.Ip.{Ip}
use Rattle.httparse.specs.Grammar.{MayBecomeRequest}
use Rattle.head_view.specs.Scans.{HasHead}
use Rattle.http_wire.specs.Spelling.{reply_text}
use Rattle.http_wire.specs.declared.message.Request.{Request}
use Rattle.http_wire.specs.declared.message.Reply.{Reply}
use Rattle.back_machine.specs.Replies.{HasReply, IsShort}
use Rattle.link_world.specs.Log.{LinkEvent, came, gave_end, given, taken, notes, ends}
use Rattle.link_world.specs.declared.note.Note.{Note}
use Rattle.link_world.specs.declared.note.NoteBody.TheVariants as body
use Rattle.link_world.specs.declared.note.Look.{Look}
use Rattle.link_world.specs.declared.note.NodePick.{NodePick}
use Rattle.link_world.specs.declared.note.Cause.TheVariants.{Passed}
use Rattle.link_world.specs.declared.note.EndCause.{EndCause}
use Rattle.link_world.specs.declared.note.EndCause.TheVariants.{Client, ClientFailed, Asked, Refused, Unread, Idle, Count, Cut, CutLate, Stopped, Memory}
use Rattle.conversation.specs.Plans.{Plan}
use Rattle.conversation.specs.Steps.{Step, Choice, of_plan, of_look, of_pick, of_refused, history, elsewhere, pins, looks, picks, spents, choices}
use Rattle.conversation.specs.Asks.{IsItem, asks, head_limit, line_limit}
use Rattle.conversation.specs.Turns.{BackLink, Turn, links_of, note_of, end_of, closes, Answers, IsShown}

-- a list of each request, and of a last one where there is one
abbrev pub of_last : {A : Type 0} → (Turn → List A) → Option Turn → List A
of_last f None = []
of_last f (Some t) = f t

abbrev pub of_all : {A : Type 0} → (Turn → List A) → List Turn → Option Turn → List A
of_all f done last = flat_map f done ++ of_last f last

abbrev pub IfLast : (Turn → Type 0) → Option Turn → Type 0
IfLast P None = Unit {0}
IfLast P (Some t) = P t

abbrev pub item_of : Turn → List ℕ
item_of t = t.item

abbrev pub reply_of : Turn → List ℕ
reply_of t = t.reply

abbrev pub pin_of : Turn → List Plan
pin_of t = t.plan ∷ []

abbrev pub looks_of : Turn → List Look
looks_of t = t.looks

abbrev pub picks_of : Turn → List NodePick
picks_of t = t.picks

abbrev pub spents_of : Turn → List ℕ
spents_of t = t.spents

-- this configuration, then these looks, these picks and these refused draws
abbrev pub chosen_by : Plan → List Look → List NodePick → List ℕ → List Choice
chosen_by p looks picks spents =
    of_plan p ∷ (map (λ (l : Look). of_look l) looks ++ map (λ (k : NodePick). of_pick k) picks ++ map (λ (n : ℕ). of_refused n) spents)

abbrev pub choices_of : Turn → List Choice
choices_of t = chosen_by t.plan t.looks t.picks t.spents

abbrev pub backs_of : Turn → List ℕ
backs_of t = links_of t.back

abbrev pub notes_of : ℕ → Turn → List Note
notes_of link t = note_of link t ∷ []

-- no two of these numbers are the same
abbrev pub AreDistinct : List ℕ → Type 0
AreDistinct [] = Unit {0}
AreDistinct (n ∷ ns) = AllByRecursion (λ (m : ℕ). m ≢ n) ns × AreDistinct ns

-- the requests are numbered from the first number up, and the next number is this
abbrev pub AreNumbered : ℕ → List Turn → ℕ → Type 0
AreNumbered first [] next = first ≡ next
AreNumbered first (t ∷ ts) next = (t.index ≡ first) × AreNumbered (first + 1) ts next

-- the configurations' numbers never fall, from this one to that
abbrev pub Rises : ℕ → List Plan → ℕ → Type 0
Rises from [] to = from ≤ to
Rises from (p ∷ ps) to = (from ≤ p.number) × Rises p.number ps to

-- one request, answered
pub record IsAnswered (steps : List Step) (entry : List ℕ) (peer : Ip) (t : Turn) : Type 0 where
  pub item : IsItem peer t.item t.ask
  pub answers : Answers entry peer t
  pub shown : IsShown steps t

-- its whole reply was spelled
abbrev pub IsWhole : Turn → Type 0
IsWhole t = t.whole ≡ true

-- what was taken begins with the whole replies of these requests
abbrev pub TookReplies : List Turn → List ℕ → Type 0
TookReplies done took = (more : List ℕ) × (took ≡ flat_map reply_of done ++ more)

-- the connection goes on after it
abbrev pub IsKept : Turn → Type 0
IsKept t = end_of t ≡ None

-- the last of these requests ends the connection for this cause, and those before it don't
abbrev pub EndsAfter : EndCause → List Turn → Type 0
EndsAfter cause done =
    (front : List Turn) × (t : Turn) × (done ≡ front ++ t ∷ []) × AllByRecursion IsKept front × (end_of t ≡ Some cause)

-- the reply was begun, and its link failed or ended before its content was whole
pub record IsCutBy (link : ℕ) (t : Turn) : Type 0 where
  pub begun : t.cause ≡ Passed
  pub unfinished : t.whole ≡ false
  pub back : BackLink
  pub back_is : t.back ≡ Some back
  pub number : back.link ≡ link
  pub why : (back.faults ≢ []) ⊎ (ends back.events ≢ [])
  -- what has come of the content is short of what the head told
  pub request : Request
  pub asked : t.ask ≡ asks request
  pub answer : Reply
  pub content : List ℕ
  pub came : HasReply request.method (given back.events) answer content
  pub short : IsShort answer content
  -- all of it is spelled for the client
  pub text : t.reply ≡ reply_text answer request.version (closes t) ++ content

-- the bytes are a part of a head, of which more has to come and for which there is room
pub record IsHeadPart (rest : List ℕ) : Type 0 where
  pub unfinished : ¬ (HasHead line_limit rest)
  pub continues : MayBecomeRequest rest
  pub room : length rest < head_limit

-- The client ended while the last of these requests was served: by then it had taken the whole replies of the others, and
-- not all of this one's.
pub record EndedWithin (history : List LinkEvent) (done : List Turn) : Type 0 where
  pub front : List Turn
  pub turn : Turn
  pub done_is : done ≡ front ++ turn ∷ []
  pub before : List LinkEvent
  pub after : List LinkEvent
  pub parts : history ≡ before ++ gave_end ∷ after
  pub covers : TookReplies front (taken before)
  pub short : length (taken before) < length (flat_map reply_of front ++ turn.reply)

-- When each end comes. `rest` is what the client gave and no request has, `left` what of the replies it didn't take,
-- `last` a request whose whole reply it didn't take.
abbrev pub EndHolds : EndCause → List LinkEvent → (done : List Turn) → Option Turn → (rest left : List ℕ) → (failed stopped : Type 0) → Type 0
EndHolds Client history done last rest left failed stopped =
    (ends history ≢ []) × (left ≡ []) × (last ≡ None) × AllByRecursion IsKept done × (IsHeadPart rest ⊎ EndedWithin history done)
EndHolds ClientFailed history done last rest left failed stopped = failed
EndHolds Asked history done last rest left failed stopped = (left ≡ []) × (last ≡ None) × EndsAfter Asked done
EndHolds Refused history done last rest left failed stopped = (left ≡ []) × (last ≡ None) × EndsAfter Refused done
EndHolds Unread history done last rest left failed stopped = ⊥
EndHolds (Idle base now) history done last rest left failed stopped = ⊥
EndHolds Count history done last rest left failed stopped = (left ≡ []) × (last ≡ None) × EndsAfter Count done
EndHolds (Cut link) history done last rest left failed stopped = IfLast (IsCutBy link) last × (last ≢ None)
EndHolds (CutLate base now) history done last rest left failed stopped = ⊥
EndHolds Stopped history done last rest left failed stopped = stopped
EndHolds Memory history done last rest left failed stopped = Unit {0}

abbrev pub end_note : ℕ → EndCause → Note
end_note link cause = record { link = link; body = body.End cause }

-- The connection on this link, which came at this entry point from this address: `done` are the requests whose whole
-- replies were taken, one after another, `last` a further one that was pinned when the connection ended. `failed` and
-- `stopped` say that the client's link failed and that a stop was asked for.
pub record Served (plans : List Plan) (link : ℕ) (entry : List ℕ) (peer : Ip) (steps : List Step) (failed stopped : Type 0) : Type 0 where
  pub done : List Turn
  pub last : Option Turn
  pub rest : List ℕ
  pub left : List ℕ
  pub cause : EndCause
  pub arrived : (more : List LinkEvent) × (history link steps ≡ came entry peer ∷ more)
  -- the client's bytes are cut into the requests, and then this rest
  pub reads : given (history link steps) ≡ of_all item_of done last ++ rest
  -- what it took is the replies in order, but for what is left; that of `last` alone may be cut
  pub spells : taken (history link steps) ++ left ≡ of_all reply_of done last
  pub covers : TookReplies done (taken (history link steps))
  -- each request has its note, and then the end has its
  pub noted : notes (history link steps) ≡ of_all (notes_of link) done last ++ end_note link cause ∷ []
  pub pinned : pins steps ≡ of_all pin_of done last
  pub looked : looks steps ≡ of_all looks_of done last
  pub picked : picks steps ≡ of_all picks_of done last
  pub refused : spents steps ≡ of_all spents_of done last
  -- what was chosen for one request was chosen before the next one was pinned
  pub chosen : choices steps ≡ of_all choices_of done last
  -- no two requests are sent on one link
  pub own : AreDistinct (of_all backs_of done last)
  -- no link is told of but the client's and those that these requests were sent on
  pub links : AllByRecursion (Contains (of_all backs_of done last)) (elsewhere link steps)
  pub published : AllByRecursion (Contains plans) (pins steps)
  pub rising : (to : ℕ) × Rises 0 (pins steps) to
  pub numbered : (next : ℕ) × AreNumbered 1 done next × IfLast (λ t. t.index ≡ next) last
  pub answered : AllByRecursion (IsAnswered steps entry peer) done × IfLast (IsAnswered steps entry peer) last
  pub whole : AllByRecursion IsWhole done
  pub ending : EndHolds cause (history link steps) done last rest left failed stopped
