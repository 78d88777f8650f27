-- When nothing more can be done before the next wait.
use Rattle.std.specs.Prelude.{◌≡◌, ◌⊎◌, ℕ, ◌≤◌, List, [], ◌∷◌, Some, true}
use Rattle.std.specs.List.{AllByRecursion, Contains}
use Rattle.slab.specs.Slab.{Slab, get, slab_len}
use Rattle.link_world.specs.Lately.{Lately}
use Rattle.link_world.specs.Log.{Event, asked, history_of, notes}
use Rattle.link_world.specs.Seen.{Seen, Rose}
use Rattle.link_world.specs.declared.note.EndCause.{EndCause}
use Rattle.link_world.specs.declared.note.EndCause.TheVariants.{Stopped}
use Rattle.conversation.specs.Plans.{Plan}
use Rattle.conversation.specs.Served.{end_note}
use Rattle.conn_machine.specs.declared.conn.Conn.{Conn}
use Rattle.conn_service.specs.Calm.{Calm}
use Rattle.conn_service.specs.Went.{extended}
use Rattle.conn_service.specs.Farewell.{IsFarewell}
use Rattle.worker_loop.specs.Met.{IsSomebodys, Meets}
use Rattle.worker_loop.specs.Runs.{Runs}

abbrev pub SettledUnder : Lately → Slab Conn → ℕ → Type 0
SettledUnder l conns k = (c : Conn) → get conns k ≡ Some c → Calm l c

abbrev pub AllSettled : Lately → Slab Conn → Type 0
AllSettled l conns = (k : ℕ) → SettledUnder l conns k

-- What holds after a turn: the clock has answered since the last wait, no client stands there or as many are open as
-- may be, and each connection is settled.
pub record TurnDone (l : Lately) (conns : Slab Conn) (links : ℕ) : Type 0 where
  pub clocked : l.clocked ≡ true
  pub arrivals : (l.no_more ≡ true) ⊎ (links ≤ slab_len conns)
  pub settled : AllSettled l conns

-- Since then no note was made but on the links of these connections, and no end but for a stop.
pub record EndsOnly (old new : Seen) (conns : Slab Conn) : Type 0 where
  pub ran : List Event
  pub log : new.log ≡ extended old.log ran
  pub notes_on : (link : ℕ) → IsSomebodys link conns ⊎ (notes (history_of link ran) ≡ [])
  pub causes : (link : ℕ) (cause : EndCause) → Contains (notes (history_of link ran)) (end_note link cause) → cause ≡ Stopped

-- since then no end was noted on the link
pub record IsUnnoted (old new : Seen) (link : ℕ) : Type 0 where
  pub ran : List Event
  pub log : new.log ≡ extended old.log ran
  pub none : (cause : EndCause) → Contains (notes (history_of link ran)) (end_note link cause) → ⊥

-- one of these connections was lost: its end wasn't noted since then
abbrev pub IsOneLost : Seen → Seen → Slab Conn → Type 0
IsOneLost old new conns = (k : ℕ) × (c : Conn) × (get conns k ≡ Some c) × IsUnnoted old new c.client.link

-- at some moment of a run that began with these connections one was open whose end wasn't noted from then on
abbrev pub LosesOne : (first : Slab Conn) → (base now : Seen) → List Plan → Type 0
LosesOne first base now generations = (at : Seen) × (conns : Slab Conn) × Runs first base at generations conns × IsOneLost at now conns

-- since then no connection was ended for a stop
pub record NoneStopped (old new : Seen) : Type 0 where
  pub ran : List Event
  pub log : new.log ≡ extended old.log ran
  pub none : (link : ℕ) → Contains (notes (history_of link ran)) (end_note link Stopped) → ⊥

-- since then a stop was asked for first of all, and then links were closed and notes told
pub record StopTold (old new : Seen) : Type 0 where
  pub farewells : List Event
  pub log : new.log ≡ extended old.log (asked true ∷ farewells)
  pub are_farewells : AllByRecursion IsFarewell farewells

-- A run that began with these connections came to a moment after a turn, at which these are open and nothing more could be
-- done. No client was forgotten until then, none was ended for a stop, and if no more were open at first than may be, no
-- more are now. The first thing behind that moment is the stop that was asked for; then links were closed and notes told,
-- on the links of these connections, and nothing else was done.
pub record StoppedAfter (first : Slab Conn) (base at : Seen) (l : Lately) (new : Seen) (generations : List Plan) (conns : Slab Conn) (links : ℕ) : Type 0 where
  pub runs : Runs first base at generations conns
  pub met : Meets first base at conns
  pub unstopped : NoneStopped base at
  pub done : TurnDone l conns links
  pub most : slab_len first ≤ links → slab_len conns ≤ links
  pub before : at.stops ≡ base.stops
  pub rose : Rose at.stops new.stops
  pub ended : EndsOnly at new conns
  pub told : StopTold at new

-- the clock and the arrivals were asked as before
pub record SameTurn (old new : Lately) : Type 0 where
  pub clocked : new.clocked ≡ old.clocked
  pub no_more : new.no_more ≡ old.no_more
