-- A connection that has ended and told its notes was served.
use Rattle.std.proofs.Common.{◌≡◌, ◌≢◌, ℕ, Bool, List, [], ◌∷◌, ◌++◌}
use Rattle.std.specs.List.{AllByRecursion, Contains}
use Rattle.conversation.specs.Plans.{Plan}
use Rattle.conversation.specs.Steps.{Step, history, failures, stops, pins}
use Rattle.conversation.specs.Served.{Served, end_note}
use Rattle.conversation.specs.Holding.{told, Holds}
use Rattle.conversation.proofs.Holdings.{served}
use Rattle.conn_machine.specs.declared.conn.Conn.{Conn}
use Rattle.conn_machine.specs.declared.parts.Phase.{Phase}
use Rattle.conn_machine.specs.declared.parts.Phase.TheVariants.{Open, Broken, Over, Told}
use Rattle.conn_machine.specs.Reached.{Reached, PhaseHolds, IsFinished, IsTold, closed_by, ending_note, open_over}
use Rattle.std.proofs.Common.{subst, refl, OnOk, Result, Ok, Err}
use Rattle.system_core.specs.Happens.{next}
use Rattle.system_core.specs.Shows.{Lawful, Ran}
use Rattle.system_core.specs.declared.event.Event.{Event}
use Rattle.system_core.specs.declared.event.Refused.{Refused}
use Rattle.system_core.specs.declared.system.System.{System}

-- what an event does to the records keeps a system lawful
pub lawful_by : (r : Result (Unit {0}) Refused) (e : Event) (old new : System) → OnOk r (Ran e old new)
    → OnOk r ((first : Plan) (events : List Event) → Lawful first events old → Lawful first (events ++ e ∷ []) new)
lawful_by (Ok done) e old new ran = λ first events l.
    let s = ran l.records l.shows in
    record { records = s.0; runs = next events l.records e s.0 l.runs s.1; shows = s.2 }
lawful_by (Err f) e old new ran = tt

pub served_conn : (steps : List Step) (plans : List Plan) (c : Conn) → Reached steps c → IsFinished c → AllByRecursion (Contains plans) (pins steps)
    → Served plans c.client.link c.client.entry c.client.peer steps (failures c.client.link steps ≢ []) (stops steps ≢ [])
served_conn steps plans c r finished held = by c.phase refl finished.1 r.phase
  where
    by : (q : Phase) → c.phase ≡ q → IsTold q → PhaseHolds q steps c r.done r.last r.rest r.left r.kept.next
        → Served plans c.client.link c.client.entry c.client.peer steps (failures c.client.link steps ≢ []) (stops steps ≢ [])
    by Open e t h = absurd t
    by Broken e t h = absurd t
    by (Over cause) e t h = absurd t
    by (Told cause) e t h =
        served steps plans c.client.link c.client.entry c.client.peer r.done r.last r.rest r.left c.notes.items (open_over c.phase c.over) c.current.number r.kept.next cause finished.0
        (subst (λ (b : Bool). Holds (told c.client.link steps) c.client.link c.client.entry c.client.peer r.done r.last r.rest r.left c.notes.items (closed_by b c.client.link r.last) (end_note c.client.link cause ∷ []) (open_over c.phase c.over) c.current.number r.kept.next) h.0
        (subst (λ (p : Phase). Holds (told c.client.link steps) c.client.link c.client.entry c.client.peer r.done r.last r.rest r.left c.notes.items (closed_by c.current.pinned c.client.link r.last) (ending_note c.client.link p) (open_over c.phase c.over) c.current.number r.kept.next) e r.kept.holds))
        r.kept.sound h.1 held
