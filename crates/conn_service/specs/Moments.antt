-- A world, a shared desk and one connection at one moment, and which links are the connection's.
use Rattle.std.specs.Prelude.{◌≡◌, ◌≢◌, ◌⊎◌, ℕ, List, true, false}
use Rattle.link_world.specs.Seen.{Seen}
use Rattle.link_world.specs.Lately.{Lately}
use Rattle.desk.specs.Desks.{Desk}
use Rattle.conversation.specs.Steps.{Step, IsNew}
use Rattle.conversation.specs.Plans.{Plan}
use Rattle.conn_machine.specs.Prompt.{IsPrompt}
use Rattle.conn_machine.specs.Reached.{Reached, Waits}
use Rattle.conn_machine.specs.declared.parts.Phase.TheVariants.{Open}
use Rattle.conn_machine.specs.declared.parts.Stage.TheVariants as stage
use Rattle.conn_machine.specs.declared.conn.Conn.{Conn}
use Rattle.conn_service.specs.Pins.{IsBelow}

pub record Moment : Type 0 where
  pub seen : Seen
  pub lately : Lately
  pub desk : Desk
  pub conn : Conn

abbrev pub moment : Seen → Lately → Desk → Conn → Moment
moment seen lately desk conn = record { seen = seen; lately = lately; desk = desk; conn = conn }

-- the world gave the link, and hasn't closed it
pub record IsHeld (s : Seen) (link : ℕ) : Type 0 where
  pub come : s.come link ≡ true
  pub is_open : s.is_open link ≡ true

-- the exchange with a server goes on
abbrev pub IsExchanging : Conn → Type 0
IsExchanging c = Waits stage.Exchange c

-- The client's link was given, and is open while the connection is. While the exchange with its server goes on, the
-- link to it is open and another one.
pub record Linked (s : Seen) (c : Conn) : Type 0 where
  pub come : s.come c.client.link ≡ true
  pub client : c.phase ≡ Open → s.is_open c.client.link ≡ true
  pub server : IsExchanging c → IsHeld s c.current.link
  pub apart : IsExchanging c → c.current.link ≢ c.client.link

-- the world gave the link between these moments
pub record Given (old new : Seen) (link : ℕ) : Type 0 where
  pub before : old.come link ≡ false
  pub after : new.come link ≡ true

-- the client's link, the link to the server while the exchange goes on, or one that was given since
abbrev pub Owns : Seen → Seen → Conn → ℕ → Type 0
Owns old new c link = (link ≡ c.client.link) ⊎ (IsExchanging c × (link ≡ c.current.link)) ⊎ Given old new link

-- the connection uses the link: its client's, or its server's while the exchange goes on
abbrev pub Uses : Conn → ℕ → Type 0
Uses c link = (link ≡ c.client.link) ⊎ (IsExchanging c × (link ≡ c.current.link))

-- the connection was told these steps, and nothing of a link that the world hasn't given
pub record Stands (s : Seen) (steps : List Step) (c : Conn) : Type 0 where
  pub reached : Reached steps c
  pub fresh : (link : ℕ) → s.come link ≡ false → IsNew link steps

abbrev pub IsTracked : Seen → Conn → Type 0
IsTracked s c = (steps : List Step) × Stands s steps c

-- the world gave the link, and these steps tell nothing of it
pub record IsElse (s : Seen) (steps : List Step) (link : ℕ) : Type 0 where
  pub come : s.come link ≡ true
  pub quiet : IsNew link steps

-- it is open and prompt, its links are in order, and the number of its last pin is at most that of the last generation seen
pub record IsReady (s : Seen) (generations : List Plan) (c : Conn) : Type 0 where
  pub is_open : c.phase ≡ Open
  pub prompt : IsPrompt c
  pub linked : Linked s c
  pub below : IsBelow generations c.current.number
