-- What serving one connection does to it, to the world and to a shared desk.
use Rattle.std.specs.Prelude.{◌≡◌, ◌≢◌, ◌⊎◌, ℕ, ◌≤◌, List, [], ◌++◌, Option, IfSome, true, false}
use Rattle.std.specs.Option.{option_map}
use Rattle.std.specs.List.{AllByRecursion}
use Rattle.link_world.specs.Log.{Event, IsFresh, waited, wait_failed, clock, on, failed, closed, asked, history_of, failures_of, notes}
use Rattle.link_world.specs.Seen.{Seen}
use Rattle.link_world.specs.Lately.{Lately, SameAt}
use Rattle.desk.specs.Desks.{Desk}
use Rattle.conversation.specs.Steps.{Step, history, failures, stops, IsNew}
use Rattle.conn_machine.specs.Reached.{Reached, IsUnended}
use Rattle.conn_machine.specs.declared.conn.Conn.{Conn}
use Rattle.conn_service.specs.Moments.{Moment, moment, IsExchanging, Linked, Given, Owns, Stands}
use Rattle.conn_service.specs.Pins.{DeskWent}
use Rattle.conn_service.specs.Arrivals.{arrivals, dials}

-- the log, where it is told, with these events after it
abbrev pub extended : Option (List Event) → List Event → Option (List Event)
extended told ran = option_map (λ log. log ++ ran) told

-- something happened on a link, or a link failed or was closed, and the clock's last answer is its stamp
abbrev pub IsServing : ℕ → Event → Type 0
IsServing now (waited until) = ⊥
IsServing now (wait_failed until) = ⊥
IsServing now (clock answer) = ⊥
IsServing now (on link stamp e) = stamp ≡ now
IsServing now (failed link stamp) = stamp ≡ now
IsServing now (closed link stamp) = stamp ≡ now
IsServing now (asked answer) = ⊥

-- of this link nothing happened, nothing was told and nothing changed
pub record Still (x y : Moment) (ran : List Event) (did : List Step) (link : ℕ) : Type 0 where
  pub quiet : IsFresh link ran
  pub untold : IsNew link did
  pub come : y.seen.come link ≡ x.seen.come link
  pub is_open : y.seen.is_open link ≡ x.seen.is_open link
  pub faults : y.seen.faults link ≡ x.seen.faults link
  pub lately : SameAt link x.lately y.lately

-- The world did these events and no others. Of each link the connection was told what happened on it, and its faults.
-- All of it happened on its own links, and one that was given since had no events before. Notes are told on the
-- client's link alone. No client came, links that were dialled were given since, and nothing was waited or asked for. No
-- link is opened again.
pub record WorldWent (owns : ℕ → Type 0) (x y : Moment) (ran : List Event) (did : List Step) : Type 0 where
  pub log : y.seen.log ≡ extended x.seen.log ran
  pub shows : (link : ℕ) → history link did ≡ history_of link ran
  pub noted : (link : ℕ) → link ≢ x.conn.client.link → notes (history link did) ≡ []
  pub failed : (link : ℕ) → failures link did ≡ failures_of link ran
  pub serving : AllByRecursion (IsServing x.seen.now) ran
  pub none_came : arrivals ran ≡ []
  pub dialled : AllByRecursion (Given x.seen y.seen) (dials ran)
  pub others : (link : ℕ) → (owns link → ⊥) → Still x y ran did link
  pub come : (link : ℕ) → x.seen.come link ≡ true → y.seen.come link ≡ true
  pub fresh : (link : ℕ) → y.seen.come link ≡ false → IsNew link did
  pub unlogged : (link : ℕ) → Given x.seen y.seen link → IfSome x.seen.log (IsFresh link)
  pub shut : (link : ℕ) → x.seen.come link ≡ true → y.seen.is_open link ≡ true → x.seen.is_open link ≡ true
  pub faults : (link : ℕ) → x.seen.faults link ≤ y.seen.faults link
  pub now : y.seen.now ≡ x.seen.now
  pub stops : y.seen.stops ≡ x.seen.stops
  pub waits_failed : x.seen.waits_failed ≤ y.seen.waits_failed
  pub clocked : y.lately.clocked ≡ x.lately.clocked
  pub no_more : y.lately.no_more ≡ x.lately.no_more

-- The connection was told these steps: of a stop only where there is a reason for one. Its links are in order.
pub record ConnWent (stopping : Type 0) (x y : Moment) (did : List Step) : Type 0 where
  pub reached : (steps : List Step) → Stands x.seen steps x.conn → Reached (steps ++ did) y.conn
  pub client : y.conn.client ≡ x.conn.client
  pub server : IsExchanging y.conn
      → (IsExchanging x.conn × (y.conn.current.link ≡ x.conn.current.link)) ⊎ Given x.seen y.seen y.conn.current.link
  pub linked : Linked y.seen y.conn
  pub stopped : stops did ≢ [] → stopping

-- one connection was served from one moment to another
pub record Went (stopping : Type 0) (x y : Moment) : Type 0 where
  pub ran : List Event
  pub did : List Step
  pub world : WorldWent (Owns x.seen y.seen x.conn) x y ran did
  pub conn : ConnWent stopping x y did
  pub desk : DeskWent x.desk y.desk x.conn.current.number y.conn.current.number did

-- A note of the connection was lost: the connection went to a state of which no end is noted.
abbrev pub Lost : Type 0 → Moment → Seen → Lately → Desk → Type 0
Lost stopping x seen lately desk = (d : Conn) × Went stopping x (moment seen lately desk d) × IsUnended d
