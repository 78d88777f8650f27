-- In a turn no connection is ended for a stop.
use Rattle.std.proofs.Common.{◌≡◌, ◌≢◌, ◌⊎◌, ℕ, List, [], ◌∷◌, ◌++◌, Option, Some, None, refl, sym, ◌∙◌, ap, subst, inl, inr, Bool, true, false}
use Rattle.std.specs.Prelude.{Ok}
use Rattle.std.specs.List.{flat_map, AllByRecursion, Contains}
use Rattle.std.proofs.lemmas.Bool.{cases_eq}
use Rattle.std.proofs.lemmas.List.Concat.{flat_map-append}
use Rattle.std.proofs.lemmas.List.Elements.{All-contains, All-from_recursion, Contains-push_cases, Contains-append_left, Contains-append_right, Contains-append_cases}
use Rattle.slab.specs.Slab.{Slab, get}
use Rattle.link_world.specs.declared.note.Note.{Note}
use Rattle.link_world.specs.declared.note.NoteBody.{NoteBody}
use Rattle.link_world.specs.declared.note.NoteBody.TheVariants as body
use Rattle.link_world.specs.declared.note.EndCause.{EndCause}
use Rattle.link_world.specs.declared.note.EndCause.TheVariants.{Stopped}
use Rattle.link_world.specs.Log.{Event, LinkEvent, waited, asked, history_of, notes, note_by}
use Rattle.link_world.specs.Seen.{Seen, StopDid, WaitDid}
use Rattle.conversation.specs.Plans.{Plan}
use Rattle.conversation.specs.Steps.{Step, history, failures, stops}
use Rattle.conversation.specs.Turns.{Turn}
use Rattle.conversation.specs.Served.{of_last, of_all, notes_of, EndHolds, end_note}
use Rattle.conn_machine.specs.Reached.{Reached, PhaseHolds, ending_note, closed_by, IsRequestNote}
use Rattle.conn_machine.specs.declared.parts.Client.{Client}
use Rattle.conn_machine.specs.declared.parts.Phase.{Phase}
use Rattle.conn_machine.specs.declared.parts.Phase.TheVariants.{Open, Broken, Over, Told}
use Rattle.conn_machine.specs.declared.conn.Conn.{Conn}
use Rattle.conn_service.specs.Went.{extended}
use Rattle.worker_loop.specs.Owned.{Tracks}
use Rattle.worker_loop.specs.Settled.{EndsOnly, NoneStopped}
use Rattle.worker_loop.proofs.Lists.{all_both, none_is, contains_none, extended_twice, extended_none, history-append, steps-append}
use Rattle.worker_loop.proofs.Servings.{Moved, Strayed, went_stops, ends_went}

-- the notes of requests are no ends
pub requests : (link : ℕ) (done : List Turn) → AllByRecursion IsRequestNote (flat_map (notes_of link) done)
requests link [] = tt
requests link (t ∷ done) = (tt, requests link done)

request_last : (link : ℕ) (last : Option Turn) → AllByRecursion IsRequestNote (of_last (notes_of link) last)
request_last link None = tt
request_last link (Some t) = (tt, tt)

pub requests_all : (link : ℕ) (done : List Turn) (last : Option Turn) → AllByRecursion IsRequestNote (of_all (notes_of link) done last)
requests_all link done last = all_both IsRequestNote (flat_map (notes_of link) done) (of_last (notes_of link) last) (requests link done) (request_last link last)

requests_closed : (pinned : Bool) (link : ℕ) (done : List Turn) (last : Option Turn) → AllByRecursion IsRequestNote (flat_map (notes_of link) done ++ closed_by pinned link last)
requests_closed true link done last = all_both IsRequestNote (flat_map (notes_of link) done) [] (requests link done) tt
requests_closed false link done last = requests_all link done last

pub no_end : (ns : List Note) (link : ℕ) (cause : EndCause) → AllByRecursion IsRequestNote ns → Contains ns (end_note link cause) → ⊥
no_end ns link cause all has = All-contains IsRequestNote ns (end_note link cause) (All-from_recursion IsRequestNote ns all) has

abbrev body_cause : NoteBody → EndCause
body_cause (body.Request r) = Stopped
body_cause (body.End cause) = cause

pub same_cause : (link m : ℕ) (a b : EndCause) → end_note link a ≡ end_note m b → a ≡ b
same_cause link m a b is = ap (λ (n : Note). body_cause n.body) is

-- a machine that was told of no stop wasn't ended for one
never_stopped : {steps : List Step} {d : Conn} → Reached steps d → stops steps ≡ [] → Contains (notes (history d.client.link steps)) (end_note d.client.link Stopped) → ⊥
never_stopped {steps} {d} r none has = by d.phase r.phase refl (Contains-append_cases front (ending_note link d.phase) (end_note link Stopped)
    (subst (λ (ns : List Note). Contains ns (end_note link Stopped)) r.kept.holds.noted (Contains-append_left (notes (history link steps)) d.notes.items (end_note link Stopped) has)))
  where
    link : ℕ
    link = d.client.link

    front : List Note
    front = flat_map (notes_of link) r.done ++ closed_by d.current.pinned link r.last

    early : Contains front (end_note link Stopped) → ⊥
    early here = no_end front link Stopped (requests_closed d.current.pinned link r.done r.last) here

    ends : (cause : EndCause) → end_note link cause ≡ end_note link Stopped → EndHolds cause (history link steps) r.done r.last r.rest r.left (failures link steps ≢ []) (stops steps ≢ []) → ⊥
    ends cause is holds = subst (λ (x : EndCause). EndHolds x (history link steps) r.done r.last r.rest r.left (failures link steps ≢ []) (stops steps ≢ [])) (same_cause link link cause Stopped is) holds none

    by : (p : Phase) → PhaseHolds p steps d r.done r.last r.rest r.left r.kept.next → d.phase ≡ p → Contains front (end_note link Stopped) ⊎ Contains (ending_note link d.phase) (end_note link Stopped) → ⊥
    by p h is (inl here) = early here
    by Open h is (inr here) = contains_none (end_note link Stopped) (subst (λ (p : Phase). Contains (ending_note link p) (end_note link Stopped)) is here)
    by Broken h is (inr here) = contains_none (end_note link Stopped) (subst (λ (p : Phase). Contains (ending_note link p) (end_note link Stopped)) is here)
    by (Over cause) h is (inr here) = contains_none (end_note link Stopped) (subst (λ (p : Phase). Contains (ending_note link p) (end_note link Stopped)) is here)
    by (Told cause) h is (inr here) = elim (Contains-push_cases [] (end_note link cause) (end_note link Stopped) (subst (λ (p : Phase). Contains (ending_note link p) (end_note link Stopped)) is here)) [
      | inl none' ↦ contains_none (end_note link Stopped) none'
      | inr same ↦ ends cause same h.1
    ]

pub stopless_none : (now : Seen) → NoneStopped now now
stopless_none now = record { ran = []; log = extended_none now.log; none = λ link has. contains_none (end_note link Stopped) has }

pub stopless_same : (now new : Seen) → new ≡ now → NoneStopped now new
stopless_same now new is = subst (λ (s : Seen). NoneStopped now s) (sym is) (stopless_none now)

notes-append : (l : ℕ) (a b : List Event) → notes (history_of l (a ++ b)) ≡ notes (history_of l a) ++ notes (history_of l b)
notes-append l a b = ap notes (history-append l a b) ∙ flat_map-append note_by (history_of l a) (history_of l b)

pub stopless_then : (a b d : Seen) → NoneStopped a b → NoneStopped b d → NoneStopped a d
stopless_then a b d p q = record {
  ran = p.ran ++ q.ran;
  log = q.log ∙ ap (λ (o : Option (List Event)). extended o q.ran) p.log ∙ extended_twice a.log p.ran q.ran;
  none = λ link has. elim (Contains-append_cases (notes (history_of link p.ran)) (notes (history_of link q.ran)) (end_note link Stopped) (subst (λ (ns : List Note). Contains ns (end_note link Stopped)) (notes-append link p.ran q.ran) has)) [
    | inl early ↦ p.none link early
    | inr late ↦ q.none link late
  ];
}

-- nothing was noted
pub stopless_mute : (now new : Seen) (ran : List Event) → new.log ≡ extended now.log ran → ((l : ℕ) → notes (history_of l ran) ≡ []) → NoneStopped now new
stopless_mute now new ran log mute = record {
  ran = ran;
  log = log;
  none = λ link has. contains_none (end_note link Stopped) (subst (λ (ns : List Note). Contains ns (end_note link Stopped)) (mute link) has);
}

pub stopless_wait : (now new : Seen) (until : ℕ) → WaitDid now until (Ok tt) new → NoneStopped now new
stopless_wait now new until is = stopless_mute now new (waited until ∷ []) (ap (λ (s : Seen). s.log) is) (λ l. refl)

pub stopless_unasked : (now new : Seen) → StopDid now false new → NoneStopped now new
stopless_unasked now new is = stopless_mute now new (asked false ∷ []) (ap (λ (s : Seen). s.log) is) (λ l. refl)

-- an end that was noted while a connection was served is told by its steps
pub told_late : {S : Type 0} {now new : Seen} {f g gs : List Plan} {c d : Conn} {steps : List Step} → Tracks now gs steps c → (w : Moved S now new f g c d) → (link : ℕ) (cause : EndCause) → Contains (notes (history_of link w.ran)) (end_note link cause)
    → Contains (notes (history d.client.link (steps ++ w.did))) (end_note d.client.link cause)
told_late {c = c} {d = d} {steps = steps} t w link cause has = elim (cases_eq link c.client.link) [
  | inr ne ↦ absurd (contains_none (end_note link cause) (subst (λ (ns : List Note). Contains ns (end_note link cause)) (ap notes (sym (w.shows link)) ∙ w.noted link ne) has))
  | inl same ↦
      let here : link ≡ d.client.link = same ∙ ap (λ (k : Client). k.link) (sym w.client) in
      let late : Contains (notes (history link w.did)) (end_note link cause) = subst (λ (h : List LinkEvent). Contains (notes h) (end_note link cause)) (sym (w.shows link)) has in
      let all : Contains (notes (history link (steps ++ w.did))) (end_note link cause) =
      subst (λ (ns : List Note). Contains ns (end_note link cause)) (sym (ap notes (steps-append link steps w.did) ∙ flat_map-append note_by (history link steps) (history link w.did)))
      (Contains-append_right (notes (history link steps)) (notes (history link w.did)) (end_note link cause) late) in
      subst (λ (n : ℕ). Contains (notes (history n (steps ++ w.did))) (end_note n cause)) here all
]

-- one connection was served
pub stopless_went : {now new : Seen} {f g gs : List Plan} {c d : Conn} {steps : List Step} → Tracks now gs steps c → (w : Moved ⊥ now new f g c d) → (link : ℕ) → Contains (notes (history_of link w.ran)) (end_note link Stopped) → ⊥
stopless_went {c = c} {d = d} {steps = steps} t w link has = never_stopped {d = d} (w.stands steps t.stands).reached (none_is (stops (steps ++ w.did)) (went_stops steps w t.unstopped)) (told_late t w link Stopped has)

-- a machine that ended for a stop has no other end
told_stopped : {steps : List Step} {d : Conn} → Reached steps d → d.phase ≡ Told Stopped → (cause : EndCause) → Contains (notes (history d.client.link steps)) (end_note d.client.link cause) → cause ≡ Stopped
told_stopped {steps} {d} r is cause has = elim (Contains-append_cases front (ending_note link d.phase) (end_note link cause) all) [
  | inl early ↦ absurd (no_end front link cause (requests_closed d.current.pinned link r.done r.last) early)
  | inr late ↦ elim (Contains-push_cases [] (end_note link Stopped) (end_note link cause) (subst (λ (p : Phase). Contains (ending_note link p) (end_note link cause)) is late)) [
    | inl none ↦ absurd (contains_none (end_note link cause) none)
    | inr same ↦ sym (same_cause link link Stopped cause same)
  ]
]
  where
    link : ℕ
    link = d.client.link

    front : List Note
    front = flat_map (notes_of link) r.done ++ closed_by d.current.pinned link r.last

    all : Contains (front ++ ending_note link d.phase) (end_note link cause)
    all = subst (λ (ns : List Note). Contains ns (end_note link cause)) r.kept.holds.noted (Contains-append_left (notes (history link steps)) d.notes.items (end_note link cause) has)

-- one connection was ended for a stop
pub ends_stopped : {S : Type 0} {now new : Seen} {f g gs : List Plan} {c d : Conn} {steps : List Step} (conns : Slab Conn) (key : ℕ) → get conns key ≡ Some c → Tracks now gs steps c → Moved S now new f g c d → d.phase ≡ Told Stopped → EndsOnly now new conns
ends_stopped {d = d} {steps = steps} conns key gc t w is = ends_went conns key gc w (λ link cause has. told_stopped {d = d} (w.stands steps t.stands).reached is cause (told_late t w link cause has))

-- or a note of it was lost
pub ends_lost : {S : Type 0} {now new : Seen} {f g gs : List Plan} {c : Conn} {steps : List Step} (conns : Slab Conn) (key : ℕ) → get conns key ≡ Some c → Tracks now gs steps c → Strayed S now new f g c → EndsOnly now new conns
ends_lost {steps = steps} conns key gc t (d, w, un) = ends_went conns key gc w (λ link cause has.
    absurd (no_end (notes (history d.client.link (steps ++ w.did))) d.client.link cause (un (steps ++ w.did) (w.stands steps t.stands).reached) (told_late t w link cause has)))
