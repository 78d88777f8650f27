-- What a call of `serve` did.
use Rattle.std.specs.Prelude.{◌≡◌, ◌≢◌, ◌⊎◌, ℕ, ◌<◌, ◌≤◌, List, [], Option, Some, None, IfSome}
use Rattle.std.specs.Io.KnownBytes.{Appends}
use Rattle.std.specs.List.{AllByRecursion, Contains}
use Rattle.px_base.specs.Bytes.{AppendsLess}
use Rattle.slab.specs.Slab.{Slab, get, slab_len}
use Rattle.link_world.specs.Log.{Event}
use Rattle.link_world.specs.Lately.{Lately}
use Rattle.link_world.specs.Seen.{Seen, Rose}
use Rattle.conversation.specs.Plans.{Plan}
use Rattle.desk.specs.Desks.{Desk}
use Rattle.desk.specs.Kept.{desk_of}
use Rattle.desk.specs.declared.one.OneDesk.{OneDesk}
use Rattle.conn_machine.specs.declared.conn.Conn.{Conn}
use Rattle.conn_service.specs.Went.{extended}
use Rattle.worker_loop.specs.Accounts.{Accounts, noted_on}
use Rattle.worker_loop.specs.Complete.{AllComplete}
use Rattle.worker_loop.specs.Met.{Meets, AllEnded, AllClosed, AllNamed, NotesOfClients}
use Rattle.worker_loop.specs.Named.{NamesDistinct}
use Rattle.worker_loop.specs.Rounds.{Leads, LastRound, RanRounds}
use Rattle.worker_loop.specs.Runs.{Runs, EndsServed}
use Rattle.worker_loop.specs.Settled.{StoppedAfter, IsOneLost, LosesOne}
use Rattle.worker_loop.specs.declared.rounds.WorkerEnd.{WorkerEnd}
use Rattle.worker_loop.specs.declared.rounds.WorkerEnd.TheVariants.{Stopped, WorldFault, Memory}
use Rattle.publisher.specs.declared.files.Load.{Load}
use Rattle.serve_cmd.specs.declared.loading.Found.{Found}
use Rattle.serve_cmd.specs.First.{IsFirstLoad}
use Rattle.serve_cmd.specs.Meanings.{IsBegun}
use Rattle.serve_cmd.specs.Ready.{IsUnused}

-- the file was loaded, published as these configurations, and written
pub record WasBegun (path : Option (List ℕ)) (loads_old loads_new : Option (List Load)) (from to : ℕ) (held_old held_new : Option (List ℕ)) (plans : List Plan) (published : ℕ) : Type 0 where
  pub found : Found
  pub load : IsFirstLoad path loads_old loads_new found
  pub text : List ℕ
  pub begun : IsBegun from to found text plans published
  pub written : Appends held_old held_new text

-- the same, but of the text only a proper part from its front was written
pub record WasCut (path : Option (List ℕ)) (loads_old loads_new : Option (List Load)) (from to : ℕ) (held_old held_new : Option (List ℕ)) : Type 0 where
  pub found : Found
  pub load : IsFirstLoad path loads_old loads_new found
  pub text : List ℕ
  pub plans : List Plan
  pub published : ℕ
  pub begun : IsBegun from to found text plans published
  pub written : AppendsLess held_old held_new text

-- why the worker ended, by the counts of its world
abbrev pub IsEnd : Seen → Seen → WorkerEnd → Type 0
IsEnd before now Stopped = Rose before.stops now.stops
IsEnd before now WorldFault = Rose before.waits_failed now.waits_failed
IsEnd before now Memory = Unit {0}

-- no connection is open
abbrev pub AreNone : Slab Conn → Type 0
AreNone conns = (k : ℕ) → get conns k ≡ None

-- some value of a world's type is at this moment
abbrev pub IsMoment : {W : Type 0} → (W → Seen) → (W → Lately) → Seen → Lately → Type 0
IsMoment {W = W} seen lately at l = (w : W) × (seen w ≡ at) × (lately w ≡ l)

-- the most client links of a worker at a time
abbrev pub client_links : ℕ
client_links = 256

-- A stop was asked for right after a turn at whose end nothing more could be done: the clock had answered since the last wait,
-- each connection was settled, and no client stood there, unless as many were open as may be; never were more. Then the open
-- connections were ended, or memory ran out and the end of one of them wasn't noted. Of a connection whose client gave whole
-- valid requests without a body and nothing else, each has its whole reply, or one of the excuses of `IsOver`; one that
-- memory failed owes nothing.
pub record StoppedCalmly (is_moment : Seen → Lately → Type 0) (plans : List Plan) (first : Slab Conn) (before now : Seen) (end : WorkerEnd) : Type 0 where
  pub at : Seen
  pub lately : Lately
  -- some value of the world's type is at this moment
  pub moment : is_moment at lately
  pub conns : Slab Conn
  pub stopped : StoppedAfter first before at lately now plans conns client_links
  pub most : slab_len conns ≤ client_links
  pub complete : AllComplete before at lately now
  pub lost : end ≡ Memory → IsOneLost at now conns

-- Each pin of the desk that was served by is that of a request that was noted, or of an open connection's request, once and
-- in order on each client link; or it was refused, and is counted. So are each look and each pick, under each number. The
-- desk had seen these configurations before, and nothing was done at it.
pub record AccountedFor (plans : List Plan) (before now : Seen) (last : Desk) (conns : Slab Conn) : Type 0 where
  pub from : Desk
  pub generations : from.generations ≡ plans
  pub unused : IsUnused from
  pub accounts : Accounts before now from last conns

-- Whatever the end, a last round led from this moment on, and up to it all is accounted for: each connection whose end was
-- noted was served by these configurations, each that is open is being served, no client is forgotten, and each link that
-- isn't in use is closed. The desk had seen these configurations and no other, each pin of it is of the last of them, and
-- each pin, look and pick of it is accounted for.
pub record UpToLast (is_moment : Seen → Lately → Type 0) (plans : List Plan) (published : ℕ) (first : Slab Conn) (before now : Seen) (end : WorkerEnd) : Type 0 where
  pub at : Seen
  pub lately : Lately
  -- some value of the world's type is at this moment
  pub moment : is_moment at lately
  pub last : LastRound (LosesOne first before now plans) end at now
  pub conns : Slab Conn
  pub runs : Runs first before at plans conns
  pub met : Meets first before at conns
  pub desk : OneDesk
  pub exact : (desk_of desk).generations ≡ plans
  pub pinned : (p : Plan) → Contains (desk_of desk).pins p → p.number ≡ published
  pub accounted : AccountedFor plans before at (desk_of desk) conns

-- each request that was noted since then was served by the configuration with this number
pub record AreNumbered (number : ℕ) (before now : Seen) : Type 0 where
  pub ran : List Event
  pub log : now.log ≡ extended before.log ran
  pub numbered : (link : ℕ) → AllByRecursion (λ (n : ℕ). n ≡ number) (noted_on link ran)

-- A worker that began without connections ran by exactly these configurations, of which the last has the number
-- `published`, and left its desk so. `is_moment` says what its world can be at.
pub record Served (is_moment : Seen → Lately → Type 0) (plans : List Plan) (published : ℕ) (before now : Seen) (last : Option Desk) (end : WorkerEnd) : Type 0 where
  pub first : Slab Conn
  pub none : AreNone first
  -- where the world tells its log, each connection whose end was noted was served by them
  pub served : (ran : List Event) × (now.log ≡ extended before.log ran) × IfSome before.log (λ log. EndsServed before now plans log ran)
  -- It ran in rounds: work, one question whether to stop, one wait. Where memory ran out behind a question that was answered
  -- yes, or a wait that failed, the end of a connection wasn't noted.
  pub rounds : (ran : List Event) × Leads before now ran × RanRounds (LosesOne first before now plans) end ran
  pub until : UpToLast is_moment plans published first before now end
  -- no client is forgotten, and notes were told on the links of clients alone
  pub met : end ≢ Memory → AllEnded first before now
  pub noted : NotesOfClients first before now
  -- each link that was given is closed, each that was dialled is named by the note of a request, and none is named twice
  pub closed : end ≢ Memory → AllClosed first before now
  pub owned : end ≢ Memory → AllNamed before now
  pub distinct : NamesDistinct before now
  pub settled : (end ≡ Stopped) ⊎ (before.stops < now.stops) → StoppedCalmly is_moment plans first before now end
  pub cause : IsEnd before now end
  pub desk : Desk
  pub desk_is : last ≡ Some desk
  pub exact : desk.generations ≡ plans
  -- each pin was of the last configuration, and each request that was noted was served by it
  pub pinned : (p : Plan) → Contains desk.pins p → p.number ≡ published
  pub newest : end ≢ Memory → AreNumbered published before now
  pub accounted : end ≢ Memory → (conns : Slab Conn) × AreNone conns × AccountedFor plans before now desk conns

-- the file was begun with, and a worker ran, which left its desk so
pub record Ran (is_moment : Seen → Lately → Type 0) (path : Option (List ℕ)) (loads_old loads_new : Option (List Load)) (from to : ℕ) (held_old held_new : Option (List ℕ)) (before now : Seen) (last : Option Desk) (end : WorkerEnd) (published : ℕ) : Type 0 where
  pub plans : List Plan
  pub begun : WasBegun path loads_old loads_new from to held_old held_new plans published
  pub served : Served is_moment plans published before now last end

-- the status of a call, by the end of its worker, if that ran
abbrev pub IsStatus : Option WorkerEnd → ℕ → Type 0
IsStatus None status = (status ≡ 5) ⊎ (status ≡ 6) ⊎ (status ≡ 7)
IsStatus (Some Stopped) status = status ≡ 0
IsStatus (Some WorldFault) status = status ≡ 10
IsStatus (Some Memory) status = status ≡ 7
