-- Whose the looks and the picks are that a shared desk was asked for.
use Rattle.std.specs.Prelude.{◌≡◌, ◌≢◌, ℕ, ◌==◌, Bool, true, false, List, [], ◌∷◌, ◌++◌, map, Some}
use Rattle.std.specs.List.{flat_map}
use Rattle.slab.specs.Slab.{Slab, get}
use Rattle.link_world.specs.declared.note.Note.{Note}
use Rattle.link_world.specs.declared.note.NoteBody.{NoteBody}
use Rattle.link_world.specs.declared.note.NoteBody.TheVariants as body
use Rattle.link_world.specs.declared.note.Look.{Look}
use Rattle.link_world.specs.declared.note.NodePick.{NodePick}
use Rattle.link_world.specs.Log.{Event, only_if, history_of, notes}
use Rattle.conn_machine.specs.declared.conn.Conn.{Conn}

-- the looks of this note's request, where it has the number n
abbrev pub looks_of_body : ℕ → NoteBody → List Look
looks_of_body n (body.Request r) = only_if (n == r.generation) r.looks
looks_of_body n (body.End cause) = []

abbrev pub looks_in : ℕ → Note → List Look
looks_in n note = looks_of_body n note.body

-- and its picks
abbrev pub picks_of_body : ℕ → NoteBody → List NodePick
picks_of_body n (body.Request r) = only_if (n == r.generation) r.picks
picks_of_body n (body.End cause) = []

abbrev pub picks_in : ℕ → Note → List NodePick
picks_in n note = picks_of_body n note.body

-- those that were noted on the link
abbrev pub looks_noted : ℕ → List Event → ℕ → List Look
looks_noted n ran link = flat_map (looks_in n) (notes (history_of link ran))

abbrev pub picks_noted : ℕ → List Event → ℕ → List NodePick
picks_noted n ran link = flat_map (picks_in n) (notes (history_of link ran))

abbrev pub list_if : {A : Type 0} → Bool → List A → List A
list_if true xs = xs
list_if false xs = []

-- those of its request that is pinned and has no note yet, where it has the number n
abbrev pub open_looks : ℕ → Conn → List Look
open_looks n c = list_if c.current.pinned (only_if (n == c.current.number) c.looks.items)

abbrev pub open_picks : ℕ → Conn → List NodePick
open_picks n c = list_if c.current.pinned (only_if (n == c.current.number) c.picks.items)

-- no open connection has this client link
abbrev pub IsNobodys : ℕ → Slab Conn → Type 0
IsNobodys link conns = (k : ℕ) (c : Conn) → get conns k ≡ Some c → c.client.link ≢ link

-- one of them, with the client link for whose request it is
pub record Labelled (A : Type 0) : Type 0 where
  pub link : ℕ
  pub made : A

abbrev pub made_of : {A : Type 0} → Labelled A → A
made_of l = l.made

abbrev pub made_for : {A : Type 0} → ℕ → Labelled A → List A
made_for link l = only_if (link == l.link) (l.made ∷ [])

-- What the desk has more than before is what was noted, and what open connections' requests have that have no note yet:
-- each once, and in order on each client link.
pub record IsShared (A : Type 0) (old new : List A) (noted : ℕ → List A) (waiting : Conn → List A) (conns : Slab Conn) : Type 0 where
  pub labels : List (Labelled A)
  pub all : new ≡ old ++ map made_of labels
  pub open_ones : (k : ℕ) (c : Conn) → get conns k ≡ Some c → flat_map (made_for c.client.link) labels ≡ noted c.client.link ++ waiting c
  pub others : (link : ℕ) → IsNobodys link conns → flat_map (made_for link) labels ≡ noted link
