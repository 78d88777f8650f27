-- That no client is forgotten, whose links have notes, which links are open, and for what links are dialled.
use Rattle.std.specs.Prelude.{◌≡◌, ◌⊎◌, ℕ, List, [], ◌++◌, Some, IfSome, true, false}
use Rattle.std.specs.List.{Contains}
use Rattle.slab.specs.Slab.{Slab, get}
use Rattle.link_world.specs.declared.note.EndCause.{EndCause}
use Rattle.link_world.specs.Log.{Event, history_of, notes}
use Rattle.link_world.specs.Seen.{Seen}
use Rattle.conversation.specs.Served.{end_note}
use Rattle.conn_machine.specs.declared.conn.Conn.{Conn}
use Rattle.conn_service.specs.Arrivals.{arrivals, dials}
use Rattle.conn_service.specs.Moments.{Given, Uses}
use Rattle.conn_service.specs.Went.{extended}
use Rattle.worker_loop.specs.Named.{named, IsDialledFor}

-- an open connection has this client link
abbrev pub IsSomebodys : ℕ → Slab Conn → Type 0
IsSomebodys link conns = (k : ℕ) × (c : Conn) × (get conns k ≡ Some c) × (c.client.link ≡ link)

-- the end of the connection on this link is noted in these events
abbrev pub IsEnded : ℕ → List Event → Type 0
IsEnded link ran = (cause : EndCause) × Contains (notes (history_of link ran)) (end_note link cause)

-- its client was there at first, or came by these events
abbrev pub IsClient : ℕ → Slab Conn → List Event → Type 0
IsClient link first ran = IsSomebodys link first ⊎ Contains (arrivals ran) link

-- notes were told since then on the links of clients alone
pub record NotesOfClients (first : Slab Conn) (base now : Seen) : Type 0 where
  pub ran : List Event
  pub log : now.log ≡ extended base.log ran
  pub noted : (link : ℕ) → IsClient link first ran ⊎ (notes (history_of link ran) ≡ [])

-- some open connection uses the link
abbrev pub IsInUse : ℕ → Slab Conn → Type 0
IsInUse link conns = (k : ℕ) × (c : Conn) × (get conns k ≡ Some c) × Uses c link

-- the link was in use at first, or was given since then
abbrev pub IsOfRun : ℕ → Slab Conn → Seen → Seen → Type 0
IsOfRun link first base now = IsInUse link first ⊎ Given base now link

-- Each client that was there at first, or came since then, is there, or its end was noted since then. Of the links that
-- were in use at first, or were given since then, only those that are in use are open. Each link that was dialled since
-- then is named by the note of a request, or was dialled for an open connection's request that has no note yet.
pub record Meets (first : Slab Conn) (base now : Seen) (conns : Slab Conn) : Type 0 where
  pub ran : List Event
  pub log : now.log ≡ extended base.log ran
  pub met : (link : ℕ) → IsClient link first ran → IsSomebodys link conns ⊎ IsEnded link ran
  pub come : (link : ℕ) → IsInUse link first → now.come link ≡ true
  pub leaves : (link : ℕ) → IsOfRun link first base now → now.is_open link ≡ true → IsInUse link conns
  pub owned : IfSome base.log (λ before. (link : ℕ) → Contains (dials ran) link → Contains (named (before ++ ran)) link ⊎ IsDialledFor link conns)

-- the end of each client that was there at first, or came since then, was noted since then
pub record AllEnded (first : Slab Conn) (base now : Seen) : Type 0 where
  pub ran : List Event
  pub log : now.log ≡ extended base.log ran
  pub ended : (link : ℕ) → IsClient link first ran → IsEnded link ran

-- each link that was in use at first, or was given since then, is closed
pub record AllClosed (first : Slab Conn) (base now : Seen) : Type 0 where
  pub closed : (link : ℕ) → IsOfRun link first base now → now.is_open link ≡ false

-- each link that was dialled since then is named by the note of a request
pub record AllNamed (base now : Seen) : Type 0 where
  pub ran : List Event
  pub log : now.log ≡ extended base.log ran
  pub owned : IfSome base.log (λ before. (link : ℕ) → Contains (dials ran) link → Contains (named (before ++ ran)) link)
