-- When nothing more can be done for a connection before the next wait.
use Rattle.std.specs.Prelude.{◌≡◌, ◌≢◌, ◌⊎◌, ℕ, ◌≤◌, [], true, length}
use Rattle.link_world.specs.Lately.{Lately}
use Rattle.conn_machine.specs.Prompt.{IsPrompt}
use Rattle.conn_machine.specs.Reached.{IsOpen, pending_of, back_pending_of}
use Rattle.conn_machine.specs.declared.parts.Stage.{Stage}
use Rattle.conn_machine.specs.declared.parts.Stage.TheVariants.{Head, Pin, Route, Look, Down, Walk, Spent, Dial, Dialled, Exchange, Reply}
use Rattle.conn_machine.specs.declared.conn.Conn.{Conn}

-- the last read of the link answered NotYet, or it had 64 reads since the last wait
abbrev pub IsRead : Lately → ℕ → Type 0
IsRead l link = (l.read_quiet link ≡ true) ⊎ (64 ≤ l.reads link)

-- the client has ended, as many of its bytes wait as may, or its link is read
abbrev pub ReadDone : Lately → Conn → Type 0
ReadDone l c = (c.over ≡ true) ⊎ (32768 ≤ length c.input.items) ⊎ IsRead l c.client.link

-- the link to the server is read, and took all that is pending for it or answered NotYet to its last write
pub record ServerDone (l : Lately) (c : Conn) : Type 0 where
  pub read : IsRead l c.current.link
  pub written : back_pending_of c ≢ [] → l.write_quiet c.current.link ≡ true

-- a stage at which a connection may wait
abbrev pub IsStanding : Stage → Type 0
IsStanding Head = Unit {0}
IsStanding Pin = ⊥
IsStanding Route = ⊥
IsStanding Look = ⊥
IsStanding Down = ⊥
IsStanding Walk = ⊥
IsStanding Spent = ⊥
IsStanding Dial = ⊥
IsStanding Dialled = ⊥
IsStanding Exchange = Unit {0}
IsStanding Reply = Unit {0}

-- Each of its links is read and written. What it waits for hasn't come.
pub record Rests (l : Lately) (c : Conn) : Type 0 where
  pub standing : IsStanding c.stage
  pub prompt : IsPrompt c
  pub read : ReadDone l c
  pub written : pending_of c ≢ [] → l.write_quiet c.client.link ≡ true
  pub server : c.stage ≡ Exchange → ServerDone l c

-- it has ended or rests
abbrev pub Calm : Lately → Conn → Type 0
Calm l c = IsOpen c → Rests l c
