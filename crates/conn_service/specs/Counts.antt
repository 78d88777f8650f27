-- How often the links of a connection were read, and what stays where nothing moved.
use Rattle.std.specs.Prelude.{◌≡◌, ℕ, ◌≤◌, true}
use Rattle.link_world.specs.Lately.{Lately}
use Rattle.conn_machine.specs.Reached.{pending_of}
use Rattle.conn_machine.specs.declared.conn.Conn.{Conn}
use Rattle.conn_service.specs.Moments.{IsExchanging}
use Rattle.conn_service.specs.declared.turn.Reads.{Reads}

-- the links were read at least so often since the last wait
pub record Counted (r : Reads) (l : Lately) (c : Conn) : Type 0 where
  pub client : r.client ≤ l.reads c.client.link
  pub client_most : r.client ≤ 64
  pub server : IsExchanging c → r.server ≤ l.reads c.current.link
  pub server_most : r.server ≤ 64

-- the connection has the same work
pub record SameWork (c d : Conn) : Type 0 where
  pub client : d.client ≡ c.client
  pub current : d.current ≡ c.current
  pub phase : d.phase ≡ c.phase
  pub stage : d.stage ≡ c.stage
  pub over : d.over ≡ c.over
  pub input : d.input.items ≡ c.input.items
  pub pending : pending_of d ≡ pending_of c

-- the connection has the same work, and no link that was quiet has moved
pub record Stays (old new : Lately) (c d : Conn) : Type 0 where
  pub same : SameWork c d
  pub read_quiet : (link : ℕ) → old.read_quiet link ≡ true → new.read_quiet link ≡ true
  pub write_quiet : (link : ℕ) → old.write_quiet link ≡ true → new.write_quiet link ≡ true
  pub reads : (link k : ℕ) → k ≤ 64 → k ≤ old.reads link → k ≤ new.reads link
