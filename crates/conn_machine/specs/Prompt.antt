-- What an open machine waits for hasn't come yet.
use Rattle.std.specs.Prelude.{◌≡◌, ◌≢◌, false, []}
use Rattle.conn_machine.specs.Parts.{IsPart}
use Rattle.conn_machine.specs.Relays.{IsOpenBack}
use Rattle.conn_machine.specs.Reached.{Waits, pending_of}
use Rattle.conn_machine.specs.declared.parts.Stage.TheVariants as stage
use Rattle.conn_machine.specs.declared.conn.Conn.{Conn}

-- Where it waits for a request, the client hasn't ended and what it gave is a part of a head. Where it waits for the
-- server, neither a whole reply has come nor anything that rules one out. Where it waits for the client to take the
-- reply, some of it is left.
pub record IsPrompt (c : Conn) : Type 0 where
  pub goes_on : Waits stage.Head c → c.over ≡ false
  pub part : Waits stage.Head c → IsPart c.input.items
  pub exchange : Waits stage.Exchange c → IsOpenBack c.current.back
  pub reply : Waits stage.Reply c → pending_of c ≢ []
