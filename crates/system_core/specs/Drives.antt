-- What driving one connection does.
use Rattle.std.specs.Prelude.{◌≡◌, ◌<◌, ℕ, List, [], ◌∷◌, ◌++◌, map, Option, Some, slice_get, slice_set}
use Rattle.ip_net.specs.declared.ip.Ip.{Ip}
use Rattle.link_world.specs.declared.note.Note.{Note}
use Rattle.link_world.specs.Log.{LinkEvent, came, dialled, gave, gave_end, took, noted}
use Rattle.conversation.specs.Steps.{Step, happened, failed, pinned, looked, drew, spent, ticked, stopped, IsNew}
use Rattle.conn_machine.specs.declared.conn.Conn.{Conn}
use Rattle.conn_machine.specs.Prompt.{IsPrompt}
use Rattle.conn_machine.specs.Reached.{Reached, IsDrained, IsOpen}
use Rattle.system_core.specs.Records.{noting}

-- a link is dialled once
abbrev pub MayBegin : ℕ → LinkEvent → List Step → Type 0
MayBegin link (came entry peer) steps = Unit {0}
MayBegin link (dialled host port) steps = IsNew link steps
MayBegin link (gave bytes) steps = Unit {0}
MayBegin link gave_end steps = Unit {0}
MayBegin link (took bytes) steps = Unit {0}
MayBegin link (noted note) steps = Unit {0}

-- a step that may follow these: a link that is dialled is new
abbrev pub MayFollow : Step → List Step → Type 0
MayFollow (happened link e) steps = MayBegin link e steps
MayFollow (failed link) steps = Unit {0}
MayFollow (pinned p) steps = Unit {0}
MayFollow (looked l) steps = Unit {0}
MayFollow (drew p) steps = Unit {0}
MayFollow (spent n) steps = Unit {0}
MayFollow (ticked now) steps = Unit {0}
MayFollow stopped steps = Unit {0}

-- some notes were told, and kept behind those that stood there
pub record Noted (c d : Conn) (old new : List Note) : Type 0 where
  pub client : d.client ≡ c.client
  pub prompt : IsPrompt c → IsPrompt d
  pub notes : List Note
  pub kept : new ≡ old ++ notes
  pub reached : (steps : List Step) → Reached steps c → Reached (steps ++ map (noting c.client.link) notes) d

-- the step was told, and then some notes
pub record Driven (step : Step) (c d : Conn) (old new : List Note) : Type 0 where
  pub client : d.client ≡ c.client
  pub prompt : IsPrompt c → IsPrompt d
  pub notes : List Note
  pub kept : new ≡ old ++ notes
  pub drained : IsDrained d
  pub reached : IsPrompt c → (steps : List Step) → MayFollow step steps → Reached steps c
      → Reached (steps ++ step ∷ map (noting c.client.link) notes) d

-- the same of the connection at a place
pub record DrivenAt (place : ℕ) (c : Conn) (step : Step) (conns new_conns : List Conn) (old new : List Note) : Type 0 where
  pub after : Conn
  pub conns_are : new_conns ≡ slice_set conns place after
  pub driven : Driven step c after old new

-- one more connection, of which only this was told
pub record CameAt (link : ℕ) (entry : List ℕ) (peer : Ip) (conns new_conns : List Conn) : Type 0 where
  pub conn : Conn
  pub conns_are : new_conns ≡ conns ++ conn ∷ []
  pub link_is : conn.client.link ≡ link
  pub prompt : IsPrompt conn
  pub drained : IsDrained conn
  pub reached : Reached (happened link (came entry peer) ∷ []) conn

-- the connection at a place isn't open
abbrev pub IsClosedAt : ℕ → List Conn → Type 0
IsClosedAt i conns = (c : Conn) → slice_get conns i ≡ Some c → ¬ (IsOpen c)

-- none of the first is open
abbrev pub AreClosed : ℕ → List Conn → Type 0
AreClosed n conns = (i : ℕ) → i < n → IsClosedAt i conns
