-- What is told of a link, by whose link it is, and what it takes by that.
use Rattle.std.specs.Prelude.{◌≡◌, ℕ, ◌==◌, ◌≤◌, length, Bool, true, false, List, [], ◌∷◌, ◌++◌, take, slice_get, slice_set, Some}
use Rattle.conn_machine.specs.declared.conn.Conn.{Conn}
use Rattle.conn_machine.specs.declared.event.BackEvent.{BackEvent}
use Rattle.conn_machine.specs.declared.event.BackEvent.TheVariants as back
use Rattle.conn_machine.specs.declared.event.ConnEvent.{ConnEvent}
use Rattle.conn_machine.specs.declared.event.ConnEvent.TheVariants as event
use Rattle.conn_machine.specs.Reached.{pending_of, back_pending_of}
use Rattle.system_core.specs.declared.links.Link.{Link}

abbrev pub client_event : BackEvent → ConnEvent
client_event (back.Bytes piece) = event.Bytes piece
client_event back.End = event.End
client_event back.Failed = event.Failed
client_event (back.Took n) = event.Took n

-- what a connection is told: something of its client's link, or of another one
abbrev pub told_on : Bool → ℕ → BackEvent → ConnEvent
told_on true link e = client_event e
told_on false link e = event.Back link e

-- what is pending for a link
abbrev pub pending_on : Bool → Conn → List ℕ
pending_on true c = pending_of c
pending_on false c = back_pending_of c

-- the bytes that it takes by this
abbrev pub taken_now : List ℕ → BackEvent → List ℕ
taken_now pending (back.Bytes piece) = []
taken_now pending back.End = []
taken_now pending back.Failed = []
taken_now pending (back.Took n) = take n pending

-- no more than what is pending is taken
abbrev pub IsTakable : List ℕ → BackEvent → Type 0
IsTakable pending (back.Bytes piece) = Unit {0}
IsTakable pending back.End = Unit {0}
IsTakable pending back.Failed = Unit {0}
IsTakable pending (back.Took n) = n ≤ length pending

-- the link took these bytes
pub record TookOn (link : ℕ) (bytes : List ℕ) (links new_links : List Link) : Type 0 where
  pub before : Link
  pub is_before : slice_get links link ≡ Some before
  pub after : Link
  pub links_are : new_links ≡ slice_set links link after
  pub owner : after.owner ≡ before.owner
  pub to : after.to ≡ before.to
  pub sent : after.sent.items ≡ before.sent.items ++ bytes
