-- What the parts of a system stand for.
use Rattle.std.specs.Prelude.{◌≡◌, ℕ, List, [], ◌∷◌, ◌++◌, map, Option, Some, None, slice_get}
use Rattle.link_world.specs.declared.note.NodePick.{NodePick}
use Rattle.link_world.specs.Log.{LinkEvent, came, dialled, taken}
use Rattle.ip_net.specs.declared.ip.Ip.{Ip}
use Rattle.conversation.specs.Plans.{Plan}
use Rattle.conn_machine.specs.declared.conn.Conn.{Conn}
use Rattle.conn_machine.specs.Parts.{issue_plan}
use Rattle.system_core.specs.Issues.{plans_in}
use Rattle.system_core.specs.Records.{Picked}
use Rattle.system_core.specs.declared.clients.Clients.{Clients}
use Rattle.system_core.specs.declared.timeline.Timeline.{Timeline}
use Rattle.system_core.specs.declared.links.Link.{Link}
use Rattle.system_core.specs.declared.links.Authority.{Authority}
use Rattle.system_core.specs.declared.draws.Pop.{Pop}
use Rattle.system_core.specs.declared.system.System.{System}

-- the configurations that were published
abbrev pub plans_of : Timeline → List Plan
plans_of t = plans_in t.earlier.items t.newest

-- the configuration that waits to be published
abbrev pub waiting_of : Timeline → Option Plan
waiting_of t = issue_plan t.waiting

abbrev pub client_of : Conn → ℕ
client_of c = c.client.link

abbrev pub owner_of : Link → ℕ
owner_of k = k.owner

abbrev pub picked_of : Pop → Picked
picked_of p = record { number = p.number; pick = p.pick }

-- how a link begins: a client came, or it was dialled to this server
abbrev pub Begins : Option Authority → List LinkEvent → Type 0
Begins None history = (entry : List ℕ) × (peer : Ip) × (more : List LinkEvent) × (history ≡ came entry peer ∷ more)
Begins (Some to) history = (more : List LinkEvent) × (history ≡ dialled to.host to.port ∷ more)

-- what is kept of a link is what happened on it
pub record IsLinkOf (k : Link) (history : List LinkEvent) : Type 0 where
  pub begins : Begins k.to history
  pub sent : k.sent.items ≡ taken history

-- the connection of a link
pub record IsConnOf (s : System) (link : ℕ) (place : ℕ) (c : Conn) : Type 0 where
  pub kept : Link
  pub is_link : slice_get s.links.items link ≡ Some kept
  pub is_place : place ≡ kept.owner
  pub is_conn : slice_get s.clients.conns.items place ≡ Some c
