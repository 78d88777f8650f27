-- Which links the notes of requests name.
use Rattle.std.specs.Prelude.{◌≡◌, ◌⊎◌, ℕ, Bool, true, false, List, [], Some}
use Rattle.std.specs.List.{flat_map, Contains}
use Rattle.slab.specs.Slab.{Slab, get}
use Rattle.link_world.specs.declared.note.Note.{Note}
use Rattle.link_world.specs.declared.note.NoteBody.{NoteBody}
use Rattle.link_world.specs.declared.note.NoteBody.TheVariants as body
use Rattle.link_world.specs.Log.{Event, waited, wait_failed, clock, on, failed, closed, asked, note_by, notes}
use Rattle.link_world.specs.Seen.{Seen}
use Rattle.conversation.specs.Steps.{Step, history, IsNew}
use Rattle.conversation.specs.Served.{AreDistinct}
use Rattle.conn_machine.specs.declared.conn.Conn.{Conn}
use Rattle.conn_service.specs.Went.{extended}

-- the links that were dialled for the request of this note
abbrev pub links_in : NoteBody → List ℕ
links_in (body.Request r) = r.backs
links_in (body.End cause) = []

abbrev pub links_by : Note → List ℕ
links_by n = links_in n.body

abbrev pub named_by : Event → List ℕ
named_by (waited until) = []
named_by (wait_failed until) = []
named_by (clock now) = []
named_by (on link stamp e) = flat_map links_by (note_by e)
named_by (failed link stamp) = []
named_by (closed link stamp) = []
named_by (asked answer) = []

-- the links that the notes of requests in these events name, in order
abbrev pub named : List Event → List ℕ
named = flat_map named_by

abbrev pub links_if : Bool → List ℕ → List ℕ
links_if true links = links
links_if false links = []

-- the links that were dialled for its request that is pinned and has no note yet
abbrev pub open_links : Conn → List ℕ
open_links c = links_if c.current.pinned c.backs.items

-- the link was dialled for an open connection's request that has no note yet
abbrev pub IsDialledFor : ℕ → Slab Conn → Type 0
IsDialledFor link conns = (k : ℕ) × (c : Conn) × (get conns k ≡ Some c) × Contains (open_links c) link

-- no two requests that are noted in these events name one link, on one connection or on two
pub record NamesDistinct (base now : Seen) : Type 0 where
  pub ran : List Event
  pub log : now.log ≡ extended base.log ran
  pub distinct : AreDistinct (named ran)

-- No two requests that are noted in these events name one link. Each that they name has come, and an open connection was
-- told nothing of it, or noted it itself.
pub record NamesApart (now : Seen) (steps : ℕ → List Step) (conns : Slab Conn) (ran : List Event) : Type 0 where
  pub distinct : AreDistinct (named ran)
  pub come : (link : ℕ) → Contains (named ran) link → now.come link ≡ true
  pub own : (link k : ℕ) → Contains (named ran) link → IsNew link (steps k)
      ⊎ ((c : Conn) → get conns k ≡ Some c → Contains (flat_map links_by (notes (history c.client.link (steps k)))) link)
