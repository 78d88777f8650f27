-- What is known of the servers of a balancer, and how a probe changes it.
use Rattle.std.specs.Prelude.{◌≡◌, ℕ, zero, suc, ◌+◌, ◌-◌, ◌^◌, ◌<◌, ◌≤◌, Bool, true, false, List, [], ◌∷◌, map, min, replicate, slice_get, slice_set, length, IsSomeAnd}
use Rattle.health_state.specs.declared.verdicts.Server.{Server}
use Rattle.health_state.specs.Marks.{Mark, ups_after, flags_mask}

-- Each server, and the milliseconds from a verdict to the next probe.
pub record Health : Type 0 where
  pub interval : ℕ
  pub servers : List Server

-- At `start` each server is up and due.
abbrev pub fresh : ℕ → ℕ → ℕ → Health
fresh count interval start = record {
  interval = interval;
  servers = replicate count (record { up = true; begun = false; due = start });
}

-- A probe of this server is due, and has not begun.
abbrev pub IsServerDue : ℕ → Server → Type 0
IsServerDue now server = (server.begun ≡ false) × (server.due ≤ now)

abbrev pub IsDue : Health → ℕ → ℕ → Type 0
IsDue health now server = IsSomeAnd (slice_get health.servers server) (IsServerDue now)

-- It is the least of those that are due.
pub record IsLeastDue (health : Health) (now server : ℕ) : Type 0 where
  pub due : IsDue health now server
  pub least : (lesser : ℕ) → lesser < server → ¬ IsDue health now lesser

-- The servers, with the probe of one begun.
abbrev pub begun_at : List Server → ℕ → List Server
begun_at [] server = []
begun_at (first ∷ rest) zero = record first { begun = true } ∷ rest
begun_at (first ∷ rest) (suc server) = first ∷ begun_at rest server

-- The probe of a server begins.
abbrev pub began : Health → ℕ → Health
began health server = record health { servers = begun_at health.servers server }

-- The probe of a server ends at `now`. The next one is due an interval later, or at the clock's end.
abbrev pub judged : Health → ℕ → Bool → ℕ → Health
judged health server good now = record health {
  servers = slice_set health.servers server (record {
    up = good;
    begun = false;
    due = min (now + health.interval) (2 ^ 64 - 1);
  });
}

-- One bit a server, the first one lowest: it is set where the server is up.
abbrev pub up_mask : Health → ℕ
up_mask health = flags_mask (map (λ server. server.up) health.servers)

-- The servers are up as these verdicts left them.
abbrev pub Follows : List Mark → Health → Type 0
Follows marks health = map (λ server. server.up) health.servers ≡ ups_after (length health.servers) marks

-- A probe of a server begins, or ends with a verdict.
pub data Step : Type 0 where
  begins : ℕ → Step
  ends : ℕ → Bool → ℕ → Step

abbrev pub after : Health → Step → Health
after health (begins server) = began health server
after health (ends server good now) = judged health server good now

-- The verdicts among the steps.
abbrev pub verdicts : List Step → List Mark
verdicts [] = []
verdicts (begins server ∷ steps) = verdicts steps
verdicts (ends server good now ∷ steps) = record { server = server; good = good } ∷ verdicts steps
