-- Whose each pin of a shared desk is.
use Rattle.std.specs.Prelude.{◌≡◌, ℕ, ◌==◌, Bool, true, false, List, [], ◌∷◌, ◌++◌, map, length, Some}
use Rattle.std.specs.List.{flat_map, AllByRecursion}
use Rattle.slab.specs.Slab.{Slab, get}
use Rattle.link_world.specs.declared.note.Note.{Note}
use Rattle.link_world.specs.declared.note.NoteBody.{NoteBody}
use Rattle.link_world.specs.declared.note.NoteBody.TheVariants as body
use Rattle.link_world.specs.Log.{Event, only_if, history_of, notes}
use Rattle.link_world.specs.Seen.{Seen}
use Rattle.conversation.specs.Plans.{Plan}
use Rattle.link_world.specs.declared.note.Look.{Look}
use Rattle.link_world.specs.declared.note.NodePick.{NodePick}
use Rattle.desk.specs.Desks.{Desk, seat_at}
use Rattle.conn_machine.specs.declared.conn.Conn.{Conn}
use Rattle.conn_service.specs.Pins.{counted_on}
use Rattle.conn_service.specs.Went.{extended}
use Rattle.worker_loop.specs.Chosen.{IsNobodys, IsShared, looks_noted, picks_noted, open_looks, open_picks}
use Rattle.worker_loop.specs.Spent.{NoteStands, IsFollowed}

-- a pin for a request of the client on this link, or one that was refused
pub data Label : Type 0 where
  taken : ℕ → Plan → Label
  refused : Plan → Label

abbrev pub label_plan : Label → Plan
label_plan (taken link p) = p
label_plan (refused p) = p

abbrev pub number_at : ℕ → Label → List ℕ
number_at link (taken l p) = only_if (link == l) (p.number ∷ [])
number_at link (refused p) = []

abbrev pub refused_at : Label → List Plan
refused_at (taken link p) = []
refused_at (refused p) = p ∷ []

-- the numbers of the pins for requests on this link
abbrev pub pinned_on : ℕ → List Label → List ℕ
pinned_on link = flat_map (number_at link)

abbrev pub number_in : NoteBody → List ℕ
number_in (body.Request r) = r.generation ∷ []
number_in (body.End cause) = []

abbrev pub number_of : Note → List ℕ
number_of n = number_in n.body

-- the numbers in the notes of the requests on this link
abbrev pub noted_on : ℕ → List Event → List ℕ
noted_on link ran = flat_map number_of (notes (history_of link ran))

abbrev pub number_if : Bool → ℕ → List ℕ
number_if true number = number ∷ []
number_if false number = []

-- the number of its request that is pinned and has no note yet
abbrev pub open_number : Conn → List ℕ
open_number c = number_if c.current.pinned c.current.number

-- Each pin of the desk since then is one for a request that was noted since then, or for an open connection's request
-- that isn't noted yet, each once and in order on each client link; or it was refused, and is counted. So are the looks and
-- the picks under each number. A draw was refused only where the desk's count says so.
pub record Accounts (base now : Seen) (from to : Desk) (conns : Slab Conn) : Type 0 where
  pub ran : List Event
  pub log : now.log ≡ extended base.log ran
  pub labels : List Label
  pub all : to.pins ≡ from.pins ++ map label_plan labels
  pub open_ones : (k : ℕ) (c : Conn) → get conns k ≡ Some c → pinned_on c.client.link labels ≡ noted_on c.client.link ran ++ open_number c
  pub others : (link : ℕ) → IsNobodys link conns → pinned_on link labels ≡ noted_on link ran
  pub counted : counted_on to.refused 0 ≡ counted_on from.refused (length (flat_map refused_at labels))
  pub looks : (n : ℕ) → IsShared Look (seat_at from n).looks (seat_at to n).looks (looks_noted n ran) (open_looks n) conns
  pub picks : (n : ℕ) → IsShared NodePick (seat_at from n).picks (seat_at to n).picks (picks_noted n ran) (open_picks n) conns
  pub stand : (link : ℕ) → AllByRecursion (NoteStands to) (notes (history_of link ran))
  pub followed : (k : ℕ) (c : Conn) → get conns k ≡ Some c → IsFollowed now to c
