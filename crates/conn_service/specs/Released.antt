-- Which links are closed, and which stay open.
use Rattle.std.specs.Prelude.{◌≡◌, ◌⊎◌, ℕ, Option, Some, None, true, false}
use Rattle.link_world.specs.Seen.{Seen, CloseDid}
use Rattle.conn_machine.specs.declared.conn.Conn.{Conn}
use Rattle.conn_service.specs.Moments.{IsExchanging, Owns, Uses}

-- the link to the server while the exchange goes on, else none
abbrev pub IsServer : Conn → Option ℕ → Type 0
IsServer c None = IsExchanging c → ⊥
IsServer c (Some link) = IsExchanging c × (link ≡ c.current.link)

-- nothing while an exchange goes on, else the link is closed
abbrev pub Released : Conn → ℕ → Seen → Seen → Type 0
Released c link old new = (IsExchanging c × (new ≡ old)) ⊎ ((IsExchanging c → ⊥) × CloseDid old link new)

-- no link is given, and none is opened
pub record OnlyCloses (old new : Seen) : Type 0 where
  pub come : new.come ≡ old.come
  pub shut : (link : ℕ) → new.is_open link ≡ true → old.is_open link ≡ true

-- of the links that the connection had or was given since, only those that it uses are open
abbrev pub LeavesOpen : Seen → Conn → Seen → Conn → Type 0
LeavesOpen old c new d = (link : ℕ) → Owns old new c link → new.is_open link ≡ true → Uses d link

-- each link that the connection had or was given since is closed
abbrev pub LeavesClosed : Seen → Conn → Seen → Type 0
LeavesClosed old c new = (link : ℕ) → Owns old new c link → new.is_open link ≡ false
