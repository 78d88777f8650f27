-- A run's rounds.
use Rattle.std.proofs.Common.{◌≡◌, ◌≢◌, ◌⊎◌, ℕ, ◌<◌, List, [], ◌∷◌, ◌++◌, Option, Some, None, refl, sym, ◌∙◌, ap, subst, inl, inr, Bool, true, false, arith}
use Rattle.std.specs.Prelude.{◌==◌, Ok, Err}
use Rattle.std.specs.List.{flat_map, AllByRecursion, Contains}
use Rattle.std.proofs.lemmas.Bool.Decides.{nat_tests}
use Rattle.std.proofs.lemmas.List.{append-nil}
use Rattle.std.proofs.lemmas.List.Concat.{flat_map-append}
use Rattle.std.proofs.lemmas.List.Elements.{Contains-push, Contains-push_cases, Contains-append_left, Contains-append_right, Contains-append_cases}
use Rattle.link_world.specs.declared.note.Note.{Note}
use Rattle.link_world.specs.declared.note.EndCause.TheVariants as cause
use Rattle.link_world.specs.declared.world.Arrival.{Arrival}
use Rattle.link_world.specs.declared.world.WaitFailed.{WaitFailed}
use Rattle.link_world.specs.Log.{Event, LinkEvent, waited, wait_failed, clock, on, failed, closed, asked, came, dialled, gave, gave_end, took, noted, only_if, history_of, notes, note_by}
use Rattle.link_world.specs.Seen.{Seen, Came, CloseDid, NowDid, StopDid, WaitDid}
use Rattle.conversation.specs.Plans.{Plan}
use Rattle.conversation.specs.Steps.{Step}
use Rattle.conversation.specs.Served.{end_note}
use Rattle.conn_machine.specs.declared.conn.Conn.{Conn}
use Rattle.conn_service.specs.Farewell.{IsFarewell, OnlyTells}
use Rattle.conn_service.specs.Went.{IsServing, extended}
use Rattle.worker_loop.specs.Owned.{Tracks}
use Rattle.worker_loop.specs.Settled.{NoneStopped}
use Rattle.worker_loop.specs.Stamps.{clock_after, clock_at, IsStamped, AreStamped}
use Rattle.worker_loop.specs.Rounds.{no_deadline, IsNoStop, IsWork, Leads, Worked, Parted, IsRound, IsStop, IsFault, IsLastRound, LastRound, RanRounds}
use Rattle.worker_loop.specs.declared.rounds.WorkerEnd.{WorkerEnd}
use Rattle.worker_loop.specs.declared.rounds.WorkerEnd.TheVariants.{Stopped, WorldFault, Memory}
use Rattle.worker_loop.proofs.Lists.{all_both, contains_none, extended_twice, extended_none, same_ran, history-append}
use Rattle.worker_loop.proofs.Servings.{Moved, Strayed}
use Rattle.worker_loop.proofs.Stops.{stopless_went}

notes_then : (link : ℕ) (a b : List Event) → notes (history_of link (a ++ b)) ≡ notes (history_of link a) ++ notes (history_of link b)
notes_then link a b = ap notes (history-append link a b) ∙ flat_map-append note_by (history_of link a) (history_of link b)

-- the clock and the stamps over one list after another
clock_then : (now : ℕ) (a b : List Event) → clock_at now (a ++ b) ≡ clock_at (clock_at now a) b
clock_then now [] b = refl
clock_then now (e ∷ a) b = clock_then (clock_after now e) a b

stamped_then : (now : ℕ) (a b : List Event) → AreStamped now a → AreStamped (clock_at now a) b → AreStamped now (a ++ b)
stamped_then now [] b p q = q
stamped_then now (e ∷ a) b p q = (p.0, stamped_then (clock_after now e) a b p.1 q)

pub leads_none : (s : Seen) → Leads s s []
leads_none s = record { log = extended_none s.log; stamped = tt; now = refl }

pub leads_then : (a b d : Seen) (p q : List Event) → Leads a b p → Leads b d q → Leads a d (p ++ q)
leads_then a b d p q x y = record {
  log = y.log ∙ ap (λ (o : Option (List Event)). extended o q) x.log ∙ extended_twice a.log p q;
  stamped = stamped_then a.now p q x.stamped (subst (λ (n : ℕ). AreStamped n q) x.now y.stamped);
  now = y.now ∙ ap (λ (n : ℕ). clock_at n q) x.now ∙ sym (clock_then a.now p q);
}

leads_one : (a b : Seen) (e : Event) → b.log ≡ extended a.log (e ∷ []) → IsStamped a.now e → b.now ≡ clock_after a.now e → Leads a b (e ∷ [])
leads_one a b e log stamp now = record { log = log; stamped = (stamp, tt); now = now }

-- serving asks no clock
serving_stamped : (now : ℕ) (ran : List Event) → AllByRecursion (IsServing now) ran → AreStamped now ran × (clock_at now ran ≡ now)
serving_stamped now [] h = (tt, refl)
serving_stamped now (waited until ∷ ran) h = absurd h.0
serving_stamped now (wait_failed until ∷ ran) h = absurd h.0
serving_stamped now (clock answer ∷ ran) h = absurd h.0
serving_stamped now (on link stamp e ∷ ran) h = let rest = serving_stamped now ran h.1 in ((h.0, rest.0), rest.1)
serving_stamped now (failed link stamp ∷ ran) h = let rest = serving_stamped now ran h.1 in ((h.0, rest.0), rest.1)
serving_stamped now (closed link stamp ∷ ran) h = let rest = serving_stamped now ran h.1 in ((h.0, rest.0), rest.1)
serving_stamped now (asked answer ∷ ran) h = absurd h.0

leads_serving : (a b : Seen) (ran : List Event) → b.log ≡ extended a.log ran → AllByRecursion (IsServing a.now) ran → b.now ≡ a.now → Leads a b ran
leads_serving a b ran log serving now = let s = serving_stamped a.now ran serving in record { log = log; stamped = s.0; now = now ∙ sym s.1 }

-- no end for a stop is noted in these events
abbrev pub IsStopless : List Event → Type 0
IsStopless ran = (link : ℕ) → Contains (notes (history_of link ran)) (end_note link cause.Stopped) → ⊥

stopless_rest : (e : Event) (ran : List Event) → IsStopless (e ∷ ran) → IsStopless ran
stopless_rest e ran none link has = none link (subst (λ (ns : List Note). Contains ns (end_note link cause.Stopped)) (sym (notes_then link (e ∷ []) ran))
    (Contains-append_right (notes (history_of link (e ∷ []))) (notes (history_of link ran)) (end_note link cause.Stopped) has))

only_note : (link stamp : ℕ) (note : Note) → notes (history_of link (on link stamp (noted note) ∷ [])) ≡ note ∷ []
only_note link stamp note = let is : (link == link) ≡ true = grind (arith, nat_tests) in rw is refl

stopless_note : (link stamp : ℕ) (note : Note) (ran : List Event) → IsStopless (on link stamp (noted note) ∷ ran) → note ≢ end_note link cause.Stopped
stopless_note link stamp note ran none is = none link (subst (λ (ns : List Note). Contains ns (end_note link cause.Stopped)) (sym (notes_then link (on link stamp (noted note) ∷ []) ran))
    (Contains-append_left (notes (history_of link (on link stamp (noted note) ∷ []))) (notes (history_of link ran)) (end_note link cause.Stopped)
    (subst (λ (ns : List Note). Contains ns (end_note link cause.Stopped)) (sym (only_note link stamp note))
    (subst (λ (n : Note). Contains (n ∷ []) (end_note link cause.Stopped)) (sym is) (Contains-push [] (end_note link cause.Stopped))))))

stopless_event : (link stamp : ℕ) (e : LinkEvent) (ran : List Event) → IsStopless (on link stamp e ∷ ran) → IsNoStop link e
stopless_event link stamp (came entry peer) ran none = tt
stopless_event link stamp (dialled host port) ran none = tt
stopless_event link stamp (gave bytes) ran none = tt
stopless_event link stamp gave_end ran none = tt
stopless_event link stamp (took bytes) ran none = tt
stopless_event link stamp (noted note) ran none = stopless_note link stamp note ran none

-- serving is work, where it ends no connection for a stop
serving_work : (now : ℕ) (ran : List Event) → AllByRecursion (IsServing now) ran → IsStopless ran → AllByRecursion IsWork ran
serving_work now [] h none = tt
serving_work now (waited until ∷ ran) h none = absurd h.0
serving_work now (wait_failed until ∷ ran) h none = absurd h.0
serving_work now (clock answer ∷ ran) h none = absurd h.0
serving_work now (on link stamp e ∷ ran) h none = (stopless_event link stamp e ran none, serving_work now ran h.1 (stopless_rest (on link stamp e) ran none))
serving_work now (failed link stamp ∷ ran) h none = (tt, serving_work now ran h.1 (stopless_rest (failed link stamp) ran none))
serving_work now (closed link stamp ∷ ran) h none = (tt, serving_work now ran h.1 (stopless_rest (closed link stamp) ran none))
serving_work now (asked answer ∷ ran) h none = absurd h.0

-- one event of work notes no end for a stop
event_stopless : (link l stamp : ℕ) (e : LinkEvent) → IsNoStop l e → Contains (notes (history_of link (on l stamp e ∷ []))) (end_note link cause.Stopped) → ⊥
event_stopless link l stamp e quiet has = by (link == l) refl has
  where
    ended : (link == l) ≡ true → (e : LinkEvent) → IsNoStop l e → Contains (notes (e ∷ [])) (end_note link cause.Stopped) → ⊥
    ended same (came entry peer) quiet has = contains_none (end_note link cause.Stopped) has
    ended same (dialled host port) quiet has = contains_none (end_note link cause.Stopped) has
    ended same (gave bytes) quiet has = contains_none (end_note link cause.Stopped) has
    ended same gave_end quiet has = contains_none (end_note link cause.Stopped) has
    ended same (took bytes) quiet has = contains_none (end_note link cause.Stopped) has
    ended same (noted note) quiet has = elim (Contains-push_cases [] note (end_note link cause.Stopped) has) [
      | inl none ↦ contains_none (end_note link cause.Stopped) none
      | inr is ↦ let at : link ≡ l = grind (arith, nat_tests, same) in quiet (is ∙ ap (λ (n : ℕ). end_note n cause.Stopped) at)
    ]

    by : (b : Bool) → (link == l) ≡ b → Contains (notes (only_if b (e ∷ []) ++ [])) (end_note link cause.Stopped) → ⊥
    by true same has = ended same e quiet has
    by false differs has = contains_none (end_note link cause.Stopped) has

work_first : (e : Event) → IsWork e → IsStopless (e ∷ [])
work_first (waited until) w link has = absurd w
work_first (wait_failed until) w link has = absurd w
work_first (clock answer) w link has = contains_none (end_note link cause.Stopped) has
work_first (on l stamp e) w link has = event_stopless link l stamp e w has
work_first (failed l stamp) w link has = contains_none (end_note link cause.Stopped) has
work_first (closed l stamp) w link has = contains_none (end_note link cause.Stopped) has
work_first (asked answer) w link has = absurd w

work_stopless : (ran : List Event) → AllByRecursion IsWork ran → IsStopless ran
work_stopless [] h link has = contains_none (end_note link cause.Stopped) has
work_stopless (e ∷ ran) h link has = elim (Contains-append_cases (notes (history_of link (e ∷ []))) (notes (history_of link ran)) (end_note link cause.Stopped)
    (subst (λ (ns : List Note). Contains ns (end_note link cause.Stopped)) (notes_then link (e ∷ []) ran) has)) [
      | inl here ↦ work_first e h.0 link here
      | inr later ↦ work_stopless ran h.1 link later
    ]

pub worked_none : (s : Seen) → Worked s s
worked_none s = record { ran = []; leads = leads_none s; work = tt }

pub worked_same : (now new : Seen) → new ≡ now → Worked now new
worked_same now new is = subst (λ (s : Seen). Worked now s) (sym is) (worked_none now)

pub worked_then : (a b d : Seen) → Worked a b → Worked b d → Worked a d
worked_then a b d p q = record {
  ran = p.ran ++ q.ran;
  leads = leads_then a b d p.ran q.ran p.leads q.leads;
  work = all_both IsWork p.ran q.ran p.work q.work;
}

worked_one : (now new : Seen) (e : Event) → new.log ≡ extended now.log (e ∷ []) → IsStamped now.now e → new.now ≡ clock_after now.now e → IsWork e → Worked now new
worked_one now new e log stamp at work = record { ran = e ∷ []; leads = leads_one now new e log stamp at; work = (work, tt) }

pub worked_clock : (now new : Seen) (n : ℕ) → NowDid now n new → Worked now new
worked_clock now new n (inl did) = worked_same now new did.1
worked_clock now new n (inr did) = worked_one now new (clock n) (ap (λ (s : Seen). s.log) did.1) tt (ap (λ (s : Seen). s.now) did.1) tt

pub worked_came : (now new : Seen) (a : Arrival) → Came now a.link (came a.entry a.peer) new → Worked now new
worked_came now new a arrival = worked_one now new (on a.link now.now (came a.entry a.peer)) (ap (λ (s : Seen). s.log) arrival.same) refl (ap (λ (s : Seen). s.now) arrival.same) tt

pub worked_close : (now : Seen) (link : ℕ) (new : Seen) → CloseDid now link new → Worked now new
worked_close now link new did = by (now.is_open link) refl
  where
    by : (b : Bool) → now.is_open link ≡ b → Worked now new
    by true is = let shut = did.0 is in worked_one now new (closed link now.now) (ap (λ (s : Seen). s.log) shut.same) refl (ap (λ (s : Seen). s.now) shut.same) tt
    by false is = worked_same now new (did.1 is)

-- one connection was served
pub worked_went : {now new : Seen} {f g gs : List Plan} {c d : Conn} {steps : List Step} → Tracks now gs steps c → Moved ⊥ now new f g c d → Worked now new
worked_went {now} {new} {c = c} {d = d} t w = record {
  ran = w.ran;
  leads = leads_serving now new w.ran w.log w.serving w.clock;
  work = serving_work now.now w.ran w.serving (stopless_went t w);
}

pub worked_lost : {now new : Seen} {f g gs : List Plan} {c : Conn} {steps : List Step} → Tracks now gs steps c → Strayed ⊥ now new f g c → Worked now new
worked_lost t (d, w, un) = worked_went t w

-- work ends no connection for a stop
pub worked_stopless : (now new : Seen) → Worked now new → NoneStopped now new
worked_stopless now new w = record { ran = w.ran; log = w.leads.log; none = work_stopless w.ran w.work }

-- one connection was ended
pub parted_went : {S : Type 0} {now new : Seen} {f g : List Plan} {c d : Conn} → OnlyTells now new → Moved S now new f g c d → Parted now new
parted_went {S} {now} {new} tells w = by now.log refl
  where
    by : (o : Option (List Event)) → now.log ≡ o → Parted now new
    by None is = record {
      ran = [];
      leads = record { log = tells.log ∙ ap (λ (o : Option (List Event)). extended o tells.ran) is ∙ sym (ap (λ (o : Option (List Event)). extended o []) is); stamped = tt; now = w.clock };
      farewells = tt;
    }
    by (Some log) is =
        let same : tells.ran ≡ w.ran = same_ran now.log log tells.ran w.ran is (sym tells.log ∙ w.log) in
        record {
          ran = tells.ran;
          leads = subst (λ (ran : List Event). Leads now new ran) (sym same) (leads_serving now new w.ran w.log w.serving w.clock);
          farewells = tells.farewells;
        }

pub parted_lost : {S : Type 0} {now new : Seen} {f g : List Plan} {c : Conn} → OnlyTells now new → Strayed S now new f g c → Parted now new
parted_lost tells (d, w, un) = parted_went tells w

pub parted_none : (s : Seen) → Parted s s
parted_none s = record { ran = []; leads = leads_none s; farewells = tt }

pub parted_then : (a b d : Seen) → Parted a b → Parted b d → Parted a d
parted_then a b d p q = record {
  ran = p.ran ++ q.ran;
  leads = leads_then a b d p.ran q.ran p.leads q.leads;
  farewells = all_both IsFarewell p.ran q.ran p.farewells q.farewells;
}

abbrev in_turn : List (List Event) → List Event
in_turn = flat_map (λ (round : List Event). round)

-- so far the run was whole rounds
pub record Rounded (base now : Seen) : Type 0 where
  pub rounds : List (List Event)
  pub are_rounds : AllByRecursion IsRound rounds
  pub leads : Leads base now (in_turn rounds)

pub rounds_none : (s : Seen) → Rounded s s
rounds_none s = record { rounds = []; are_rounds = tt; leads = leads_none s }

turn_next : (rounds : List (List Event)) (round : List Event) → in_turn rounds ++ round ≡ in_turn (rounds ++ round ∷ [])
turn_next rounds round = ap (λ (x : List Event). in_turn rounds ++ x) (sym (append-nil round)) ∙ sym (flat_map-append (λ (x : List Event). x) rounds (round ∷ []))

-- one more round
pub rounds_next : (base a b c d : Seen) → Rounded base a → Worked a b → StopDid b false c → WaitDid c no_deadline (Ok tt) d → Rounded base d
rounds_next base a b c d r w unasked waits = record {
  rounds = r.rounds ++ round ∷ [];
  are_rounds = all_both IsRound r.rounds (round ∷ []) r.are_rounds (record { work = w.ran; is_work = w.work; whole = refl }, tt);
  leads = subst (λ (ran : List Event). Leads base d ran) (turn_next r.rounds round)
      (leads_then base a d (in_turn r.rounds) round r.leads
      (leads_then a b d w.ran (asked false ∷ waited no_deadline ∷ []) w.leads
      (leads_then b c d (asked false ∷ []) (waited no_deadline ∷ [])
      (leads_one b c (asked false) (ap (λ (s : Seen). s.log) unasked) tt (ap (λ (s : Seen). s.now) unasked))
      (leads_one c d (waited no_deadline) (ap (λ (s : Seen). s.log) waits) tt (ap (λ (s : Seen). s.now) waits)))));
}
  where
    round : List Event
    round = w.ran ++ asked false ∷ waited no_deadline ∷ []

-- the clause of a run
abbrev pub InRounds : (lost : Type 0) → WorkerEnd → Seen → Seen → Type 0
InRounds lost end base now = (ran : List Event) × Leads base now ran × RanRounds lost end ran

-- the rounds, and then the last one
pub rounds_last : {lost : Type 0} (end : WorkerEnd) (base a d : Seen) → Rounded base a → LastRound lost end a d → InRounds lost end base d
rounds_last end base a d r last = (
  in_turn r.rounds ++ last.ran,
  leads_then base a d (in_turn r.rounds) last.ran r.leads last.leads,
  record { rounds = r.rounds; are_rounds = r.are_rounds; last = last.ran; is_last = last.is_last; whole = refl },
)

-- memory ran out in a turn
pub last_quit : {lost : Type 0} (a b d : Seen) → Worked a b → Worked b d → LastRound lost Memory a d
last_quit a b d w v = let all = worked_then a b d w v in record { ran = all.ran; leads = all.leads; is_last = inl all.work }

-- a stop was asked for
pub last_stop : {lost : Type 0} (end : WorkerEnd) (a b c d : Seen) → (end ≢ Memory → end ≡ Stopped) → (end ≡ Memory → lost) → Worked a b → StopDid b true c → Parted c d → LastRound lost end a d
last_stop {lost} end a b c d same loses w did p = record { ran = last; leads = leads; is_last = by end same loses }
  where
    last : List Event
    last = w.ran ++ asked true ∷ p.ran

    leads : Leads a d last
    leads = leads_then a b d w.ran (asked true ∷ p.ran) w.leads
        (leads_then b c d (asked true ∷ []) p.ran (leads_one b c (asked true) (ap (λ (s : Seen). s.log) did.2) tt (ap (λ (s : Seen). s.now) did.2)) p.leads)

    is_stop : IsStop last
    is_stop = record { work = w.ran; is_work = w.work; farewells = p.ran; are_farewells = p.farewells; whole = refl }

    by : (e : WorkerEnd) → (e ≢ Memory → e ≡ Stopped) → (e ≡ Memory → lost) → IsLastRound lost e last
    by Stopped same loses = is_stop
    by WorldFault same loses = absurd (let is : WorldFault ≡ Stopped = same (λ e. cc) in let f : ⊥ = cc in f)
    by Memory same loses = inr (inl is_stop, loses refl)

-- a wait failed
pub last_fault : {lost : Type 0} (end : WorkerEnd) (a b c m d : Seen) (e : WaitFailed) → (end ≢ Memory → end ≡ WorldFault) → (end ≡ Memory → lost) → Worked a b → StopDid b false c → WaitDid c no_deadline (Err e) m → Parted m d → LastRound lost end a d
last_fault {lost} end a b c m d e same loses w unasked fails p = record { ran = last; leads = leads; is_last = by end same loses }
  where
    last : List Event
    last = w.ran ++ asked false ∷ wait_failed no_deadline ∷ p.ran

    leads : Leads a d last
    leads = leads_then a b d w.ran (asked false ∷ wait_failed no_deadline ∷ p.ran) w.leads
        (leads_then b c d (asked false ∷ []) (wait_failed no_deadline ∷ p.ran) (leads_one b c (asked false) (ap (λ (s : Seen). s.log) unasked) tt (ap (λ (s : Seen). s.now) unasked))
        (leads_then c m d (wait_failed no_deadline ∷ []) p.ran (leads_one c m (wait_failed no_deadline) (ap (λ (s : Seen). s.log) fails.2) tt (ap (λ (s : Seen). s.now) fails.2)) p.leads))

    is_fault : IsFault last
    is_fault = record { work = w.ran; is_work = w.work; farewells = p.ran; are_farewells = p.farewells; whole = refl }

    by : (x : WorkerEnd) → (x ≢ Memory → x ≡ WorldFault) → (x ≡ Memory → lost) → IsLastRound lost x last
    by Stopped same loses = absurd (let is : Stopped ≡ WorldFault = same (λ e. cc) in let f : ⊥ = cc in f)
    by WorldFault same loses = is_fault
    by Memory same loses = inr (inr is_fault, loses refl)

-- an end for a fault isn't one for a stop
pub fault_end : (end : WorkerEnd) → (end ≢ Memory → end ≡ WorldFault) → end ≢ Stopped
fault_end Stopped same is = let other : Stopped ≡ WorldFault = same (λ e. cc) in cc
fault_end WorldFault same is = cc
fault_end Memory same is = cc

-- and where no stop was asked for, none was settled
pub not_asked : (end : WorkerEnd) (a b : ℕ) → end ≢ Stopped → b ≡ a → (end ≡ Stopped) ⊎ (a < b) → ⊥
not_asked end a b other same (inl is) = other is
not_asked end a b other same (inr less) = omega (arith, same, less)
