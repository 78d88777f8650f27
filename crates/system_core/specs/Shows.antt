-- A system shows the records of its run: every interleaving.
use Rattle.std.specs.Prelude.{◌≡◌, ◌≢◌, ℕ, ◌≤◌, List, [], length, map, Option, Some, Contains, slice_get}
use Rattle.std.specs.List.{AllByRecursion}
use Rattle.ip_net.specs.declared.ip.Ip.{Ip}
use Rattle.conversation.specs.Plans.{Plan}
use Rattle.conversation.specs.Steps.{Step, history, failures, stops, pins, IsNew}
use Rattle.conversation.specs.Served.{Served}
use Rattle.conn_machine.specs.declared.conn.Conn.{Conn}
use Rattle.conn_machine.specs.Reached.{Reached, IsDrained}
use Rattle.conn_machine.specs.Prompt.{IsPrompt}
use Rattle.system_core.specs.Records.{Records, steps_of, notes_of}
use Rattle.system_core.specs.Views.{plans_of, waiting_of, client_of, owner_of, picked_of, IsLinkOf}
use Rattle.conn_machine.specs.declared.event.BackEvent.{BackEvent}
use Rattle.system_core.specs.Happens.{Runs, Happens, TellsOn, Says, Stops, with_client}
use Rattle.system_core.specs.declared.event.Event.{Event}
use Rattle.system_core.specs.declared.links.Link.{Link}
use Rattle.system_core.specs.declared.system.System.{System}

-- a connection is reached by what it was told, waits for nothing that has come, and has told its notes
pub record IsConn (told : List Step) (c : Conn) : Type 0 where
  pub reached : Reached told c
  pub prompt : IsPrompt c
  pub drained : IsDrained c

pub record Shows (r : Records) (s : System) : Type 0 where
  pub plans : plans_of s.clients.timeline ≡ r.plans
  pub waiting : waiting_of s.clients.timeline ≡ r.waiting
  pub clients : map client_of s.clients.conns.items ≡ r.clients
  pub owners : map owner_of s.links.items ≡ r.owners
  pub picks : map picked_of s.pops.items ≡ r.picks
  pub notes : s.notes.items ≡ notes_of r.told
  pub stopped : s.stopped ≡ r.stopped
  pub conns : (i : ℕ) (c : Conn) → slice_get s.clients.conns.items i ≡ Some c → IsConn (steps_of i r.told) c
  pub links : (l : ℕ) (k : Link) → slice_get s.links.items l ≡ Some k → IsLinkOf k (history l (steps_of k.owner r.told))
  -- nothing is told of a link, or to a connection, that hasn't come
  pub fresh : (l i : ℕ) → length r.owners ≤ l → IsNew l (steps_of i r.told)
  pub unborn : (i : ℕ) → length r.clients ≤ i → steps_of i r.told ≡ []
  -- each pin is of a configuration that was published
  pub pinned : (i : ℕ) → AllByRecursion (Contains r.plans) (pins (steps_of i r.told))

-- the events, after this first configuration, made records that the system shows
pub record Lawful (first : Plan) (events : List Event) (s : System) : Type 0 where
  pub records : Records
  pub runs : Runs first events records
  pub shows : Shows records s

-- a connection that has ended and told its notes was served over the published configurations
abbrev pub IsServed : Records → ℕ → Conn → Type 0
IsServed r i c = Served r.plans c.client.link c.client.entry c.client.peer (steps_of i r.told)
    (failures c.client.link (steps_of i r.told) ≢ []) (stops (steps_of i r.told) ≢ [])

-- what an event does to a system: the records that it shows go on so
abbrev pub Ran : Event → System → System → Type 0
Ran e old new = (r : Records) → Shows r old → (s : Records) × Happens r e s × Shows s new

-- the same of something that happens on a link
abbrev pub RanOn : ℕ → BackEvent → System → System → Type 0
RanOn link e old new = (r : Records) → Shows r old → (s : Records) × TellsOn r link (Says link e) s × Shows s new

-- the same of a client that comes
abbrev pub RanCame : List ℕ → Ip → System → System → Type 0
RanCame entry peer old new = (r : Records) → Shows r old → Shows (with_client r entry peer) new

-- the same of what is done for the connection at a place
abbrev pub RanAt : (Records → ℕ → Records → Type 0) → ℕ → System → System → Type 0
RanAt At i old new = (r : Records) → Shows r old → (s : Records) × At r i s × Shows s new

-- the same of connections that are told that a stop was asked for
abbrev pub Stopping : System → System → Type 0
Stopping old new = (r : Records) → Shows r old → (s : Records) × Stops r s × Shows s new
