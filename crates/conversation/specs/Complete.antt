-- When each request of a connection has its whole reply.
use Rattle.std.specs.Prelude.{◌≡◌, ◌≢◌, ℕ, ◌≤◌, ◌⊎◌, List, [], ◌∷◌, ◌++◌, Option, Some, None}
use Rattle.std.specs.List.{flat_map, AllByRecursion}
use Rattle.ip_net.specs.declared.ip.Ip.{Ip}
use Rattle.head_view.specs.Lines.{line_feeds}
use Rattle.http_wire.specs.declared.message.Request.{Request}
use Rattle.link_world.specs.Log.{given, taken, notes}
use Rattle.link_world.specs.declared.note.Note.{Note}
use Rattle.link_world.specs.declared.note.EndCause.{EndCause}
use Rattle.link_world.specs.declared.note.EndCause.TheVariants.{Client, ClientFailed, Cut, Stopped}
use Rattle.conversation.specs.Steps.{Step, history}
use Rattle.conversation.specs.Asks.{asks, IsItem, line_limit}
use Rattle.conversation.specs.Turns.{Turn, BackLink, HasWholeReply}
use Rattle.conversation.specs.Served.{of_all, IfLast, notes_of, reply_of, IsAnswered, IsWhole, TookReplies, EndsAfter, EndedWithin}

-- the bytes are one whole valid request of a kind that is served, and no part of it is over the limits
pub record IsRequest (peer : Ip) (item : List ℕ) : Type 0 where
  pub request : Request
  pub valid : IsItem peer item (asks request)
  pub few : line_feeds item ≤ line_limit

-- all of these bytes
abbrev pub joined : List (List ℕ) → List ℕ
joined = flat_map (λ (item : List ℕ). item)

-- the client on this link gave these whole valid requests and nothing else
pub record GaveRequests (peer : Ip) (link : ℕ) (steps : List Step) (items : List (List ℕ)) : Type 0 where
  pub gave : given (history link steps) ≡ joined items
  pub requests : AllByRecursion (IsRequest peer) items

-- it went to a server, whose link gave no whole valid reply
abbrev pub IsUnanswered : Turn → Type 0
IsUnanswered t = (r : Request) × (b : BackLink) × (t.ask ≡ asks r) × (t.back ≡ Some b) × (HasWholeReply r.method (given b.events) → ⊥)

-- the end may come before a server's reply is whole
abbrev pub ComesEarly : EndCause → Type 0
ComesEarly (Cut link) = Unit {0}
ComesEarly Stopped = Unit {0}
ComesEarly _ = ⊥

-- there is a last one, and this holds of it
abbrev pub IsLast : (Turn → Type 0) → Option Turn → Type 0
IsLast P last = (t : Turn) × (last ≡ Some t) × P t

-- There are no later requests, or the last that was done ends the connection, or the client ended while that one was
-- served.
abbrev pub IsLastDone : EndCause → (ended : Type 0) → List Turn → (later : List (List ℕ)) → Type 0
IsLastDone cause ended done later = (later ≡ []) ⊎ EndsAfter cause done ⊎ ((cause ≡ Client) × ended)

-- Why the requests after those that are done have no whole reply that was taken: there is no reason but the end; or the
-- client's link failed; or it doesn't take what is left of a whole reply; or a server gave none, and the end is a cut or a stop.
abbrev pub IsOver : EndCause → (stuck failed ended : Type 0) → List Turn → Option Turn → (later : List (List ℕ)) → (left : List ℕ) → Type 0
IsOver cause stuck failed ended done last later left =
    ((last ≡ None) × (left ≡ []) × IsLastDone cause ended done later) ⊎ ((cause ≡ ClientFailed) × failed)
    ⊎ (stuck × (left ≢ []) × IsLast IsWhole last) ⊎ (ComesEarly cause × IsLast IsUnanswered last)

-- it is answered as a request that is served
abbrev pub IsAsking : Turn → Type 0
IsAsking t = (r : Request) × (t.ask ≡ asks r)

abbrev pub bytes_of : Turn → List (List ℕ)
bytes_of t = t.item ∷ []

-- The first of these requests are done: they have their whole replies and their notes. `last` is a further one that was
-- pinned, `left` is what of the replies the client didn't take.
pub record IsComplete (cause : EndCause) (stuck failed : Type 0) (link : ℕ) (entry : List ℕ) (peer : Ip) (steps : List Step) (items : List (List ℕ)) : Type 0 where
  pub done : List Turn
  pub last : Option Turn
  pub later : List (List ℕ)
  pub left : List ℕ
  pub order : items ≡ of_all bytes_of done last ++ later
  pub asking : AllByRecursion IsAsking done × IfLast IsAsking last
  pub answered : AllByRecursion (IsAnswered steps entry peer) done × IfLast (IsAnswered steps entry peer) last
  pub whole : AllByRecursion IsWhole done
  pub spells : taken (history link steps) ++ left ≡ of_all reply_of done last
  pub covers : TookReplies done (taken (history link steps))
  pub noted : (more : List Note) × (notes (history link steps) ≡ flat_map (notes_of link) done ++ more)
  pub ending : IsOver cause stuck failed (EndedWithin (history link steps) done) done last later left
