-- What a worker keeps over its run.
use Rattle.std.specs.Prelude.{◌≡◌, ◌≢◌, ◌⊎◌, ℕ, ◌≤◌, List, [], ◌∷◌, ◌++◌, Some, IfSome}
use Rattle.std.specs.List.{Contains}
use Rattle.ip_net.specs.declared.ip.Ip.{Ip}
use Rattle.slab.specs.Slab.{Slab, get}
use Rattle.link_world.specs.declared.note.EndCause.{EndCause}
use Rattle.link_world.specs.declared.world.Arrival.{Arrival}
use Rattle.link_world.specs.Log.{Event, came, history_of, failures_of, notes}
use Rattle.link_world.specs.Seen.{Seen, Rose}
use Rattle.conversation.specs.Plans.{Plan}
use Rattle.conversation.specs.Steps.{Step, happened}
use Rattle.conversation.specs.Served.{Served, end_note}
use Rattle.conn_machine.specs.Prompt.{IsPrompt}
use Rattle.conn_machine.specs.Reached.{Reached, Waits}
use Rattle.conn_machine.specs.declared.conn.Conn.{Conn}
use Rattle.conn_machine.specs.declared.parts.Stage.TheVariants.{Head}
use Rattle.conn_service.specs.Went.{extended}
use Rattle.worker_loop.specs.Owned.{AreApart, TellsAll, Shows, HaveCome, Tracks}
use Rattle.worker_loop.specs.Met.{IsClient}
use Rattle.worker_loop.specs.Named.{NamesApart}

-- since then a stop was asked for, or a wait failed
abbrev pub Stopping : Seen → Seen → Type 0
Stopping base now = Rose base.stops now.stops ⊎ Rose base.waits_failed now.waits_failed

-- no stop was asked for, and the count of faults didn't fall
abbrev pub Unasked : Seen → Seen → Type 0
Unasked old new = (new.stops ≡ old.stops) × (old.waits_failed ≤ new.waits_failed)

-- The connection on this link was served. Its steps tell of the client's link, and of each link that was dialled for it,
-- what the log tells of it, faults too.
pub record IsServed (base now : Seen) (generations : List Plan) (log : List Event) (link : ℕ) : Type 0 where
  pub entry : List ℕ
  pub peer : Ip
  pub steps : List Step
  pub served : Served generations link entry peer steps (failures_of link log ≢ []) (Stopping base now)
  pub client : TellsAll link steps log
  pub shows : Shows steps log

-- each connection whose end is noted in these events was served, by a log that begins so
abbrev pub EndsServed : Seen → Seen → List Plan → (before ran : List Event) → Type 0
EndsServed base now generations before ran =
    (link : ℕ) (cause : EndCause) → Contains (notes (history_of link ran)) (end_note link cause)
    → IsServed base now generations (before ++ ran) link

-- it was served, and its links are no others'
pub record IsServedApart (base now : Seen) (generations : List Plan) (steps : ℕ → List Step) (log : List Event) (link : ℕ) : Type 0 where
  pub is_served : IsServed base now generations log link
  pub come : HaveCome now is_served.steps
  pub apart : (k : ℕ) → AreApart is_served.steps (steps k)

abbrev pub EndsServedApart : Seen → Seen → List Plan → (ℕ → List Step) → (before ran : List Event) → Type 0
EndsServedApart base now generations steps before ran =
    (link : ℕ) (cause : EndCause) → Contains (notes (history_of link ran)) (end_note link cause)
    → IsServedApart base now generations steps (before ++ ran) link

-- each open connection is tracked by the steps of its key, and the links of two keys are apart
pub record AttendsBy (now : Seen) (generations : List Plan) (steps : ℕ → List Step) (conns : Slab Conn) : Type 0 where
  pub tracks : (k : ℕ) (c : Conn) → get conns k ≡ Some c → Tracks now generations (steps k) c
  pub apart : (k j : ℕ) → k ≢ j → AreApart (steps k) (steps j)
  pub come : (k : ℕ) → HaveCome now (steps k)

abbrev pub Attends : Seen → List Plan → Slab Conn → Type 0
Attends now generations conns = (steps : ℕ → List Step) × AttendsBy now generations steps conns

-- A worker's run from one moment, at which the first connections were open, to another. Each connection that is open then
-- is one of these or of a client that came since, and notes were told on the links of such clients alone. No two requests
-- that were noted since name one link.
pub record Runs (first : Slab Conn) (base now : Seen) (generations : List Plan) (conns : Slab Conn) : Type 0 where
  pub ran : List Event
  pub log : now.log ≡ extended base.log ran
  pub steps : ℕ → List Step
  pub attends : AttendsBy now generations steps conns
  pub over : IfSome base.log (λ before. EndsServedApart base now generations steps before ran)
  pub clients : (k : ℕ) (c : Conn) → get conns k ≡ Some c → IsClient c.client.link first ran
  pub noted : (link : ℕ) → IsClient link first ran ⊎ (notes (history_of link ran) ≡ [])
  pub names : NamesApart now steps conns ran
  pub stops : base.stops ≤ now.stops
  pub waits : base.waits_failed ≤ now.waits_failed

-- some run that has come to this moment has a reason to stop
abbrev pub IsStopping : Seen → Slab Conn → Type 0
IsStopping now conns = (first : Slab Conn) × (base : Seen) × (generations : List Plan) × Stopping base now × Runs first base now generations conns

-- with some list of generations each open connection is tracked
abbrev pub Attended : Seen → Slab Conn → Type 0
Attended now conns = (generations : List Plan) × Attends now generations conns

-- the connection of a client that came, which has given nothing yet
pub record JustCame (client : Arrival) (c : Conn) : Type 0 where
  pub link : c.client.link ≡ client.link
  pub waits : Waits Head c
  pub prompt : IsPrompt c
  pub number : c.current.number ≡ 0
  pub reached : Reached (happened client.link (came client.entry client.peer) ∷ []) c
