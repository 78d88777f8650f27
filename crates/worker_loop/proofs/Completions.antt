-- When each request of the connections that a run ended has its whole reply.
use Rattle.std.proofs.Common.{◌≡◌, ◌≢◌, ◌⊎◌, ℕ, List, [], ◌++◌, Option, Some, None, refl, sym, ◌∙◌, ap, subst, inl, inr, true}
use Rattle.std.specs.Prelude.{IfSome}
use Rattle.std.specs.List.{Contains}
use Rattle.std.proofs.lemmas.List.Concat.{flat_map-append}
use Rattle.std.proofs.lemmas.List.Elements.{Contains-push_cases, Contains-append_right, Contains-append_cases}
use Rattle.slab.specs.Slab.{Slab}
use Rattle.link_world.specs.declared.note.Note.{Note}
use Rattle.link_world.specs.declared.note.EndCause.{EndCause}
use Rattle.link_world.specs.declared.note.EndCause.TheVariants.{Client, ClientFailed, Asked, Refused, Unread, Idle, Count, Cut, CutLate, Stopped, Memory}
use Rattle.link_world.specs.Lately.{Lately}
use Rattle.link_world.specs.Log.{Event, history_of, failures_of, notes, note_by}
use Rattle.link_world.specs.Seen.{Seen}
use Rattle.conversation.specs.Plans.{Plan}
use Rattle.conversation.specs.Steps.{Step, history}
use Rattle.conversation.specs.Served.{of_all, notes_of, end_note}
use Rattle.conversation.specs.Complete.{IsComplete}
use Rattle.conversation.proofs.Completions.{served_complete}
use Rattle.conn_machine.specs.declared.conn.Conn.{Conn}
use Rattle.conn_service.specs.Calm.{Calm}
use Rattle.conn_service.specs.Went.{extended}
use Rattle.conn_service.proofs.Completions.{calm_complete}
use Rattle.worker_loop.specs.Owned.{Shows, Tracks}
use Rattle.worker_loop.specs.Runs.{Runs, IsServed, EndsServedApart}
use Rattle.worker_loop.specs.Met.{IsSomebodys}
use Rattle.worker_loop.specs.Settled.{StoppedAfter}
use Rattle.worker_loop.specs.Complete.{IsWellServed, EndSays, AllComplete}
use Rattle.worker_loop.proofs.Lists.{contains_none, extended_twice, same_ran, told_then, history-append}
use Rattle.worker_loop.proofs.Frames.{client_told}
use Rattle.worker_loop.proofs.Stops.{requests_all, no_end, same_cause}

-- an open connection that is settled
stood : {at : Seen} {gs : List Plan} {steps : List Step} {l : Lately} (c : Conn) → Tracks at gs steps c → Calm l c
    → IfSome at.log (λ had. IsWellServed Stopped (l.write_quiet c.client.link ≡ true) ⊥ had c.client.link)
stood {at} {gs} {steps} {l} c t calm = told_then at.log (Shows steps) (λ had. IsWellServed Stopped (l.write_quiet c.client.link ≡ true) ⊥ had c.client.link)
    (λ had shows. record {
      entry = c.client.entry;
      peer = c.client.peer;
      steps = steps;
      arrived = t.stands.reached.kept.holds.arrived;
      client = elim (shows c.client.link) [ inl q ↦ absurd (client_told t.stands.reached q) | inr e ↦ e ];
      shows = shows;
      complete = λ items fair. calm_complete items Stopped ⊥ tt calm t.ready.is_open t.stands.reached t.untold fair;
    }) t.shows

-- a connection that ended by itself
ended : {base now : Seen} {gs : List Plan} (before ran : List Event) (link : ℕ) (cause : EndCause) → IsServed base now gs (before ++ ran) link → Contains (notes (history_of link ran)) (end_note link cause)
    → cause ≢ Stopped → cause ≢ Memory → IsWellServed cause ⊥ (failures_of link (before ++ ran) ≢ []) (before ++ ran) link
ended {base} {now} {gs} before ran link cause s has not_stopped not_memory = record {
  entry = s.entry;
  peer = s.peer;
  steps = s.steps;
  arrived = s.served.arrived;
  client = s.client;
  shows = s.shows;
  complete = λ items fair. subst (λ (x : EndCause). IsComplete x ⊥ (failures_of link (before ++ ran) ≢ []) link s.entry s.peer s.steps items) same
      (served_complete items s.served fair (λ e. not_stopped (sym same ∙ e)) (λ e. not_memory (sym same ∙ e)));
}
  where
    told : Contains (notes (history link s.steps)) (end_note link cause)
    told = subst (λ (ns : List Note). Contains ns (end_note link cause))
        (sym (ap notes (s.client.events ∙ history-append link before ran) ∙ flat_map-append note_by (history_of link before) (history_of link ran)))
        (Contains-append_right (notes (history_of link before)) (notes (history_of link ran)) (end_note link cause) has)

    same : s.served.cause ≡ cause
    same = elim (Contains-push_cases (of_all (notes_of link) s.served.done s.served.last) (end_note link s.served.cause) (end_note link cause) (subst (λ (ns : List Note). Contains ns (end_note link cause)) s.served.noted told)) [
      | inl early ↦ absurd (no_end (of_all (notes_of link) s.served.done s.served.last) link cause (requests_all link s.served.done s.served.last) early)
      | inr is ↦ same_cause link link s.served.cause cause is
    ]

-- each end that the run noted
pub all_complete : {g gs : List Plan} {l : Lately} {conns conns' : Slab Conn} (first : Slab Conn) (base at now : Seen) (links : ℕ) → StoppedAfter first base at l now g conns links → Runs first base now gs conns' → AllComplete base at l now
all_complete {g} {gs} {l} {conns} {conns'} first base at now links s r = record { ran = r.ran; log = r.log; says = by base.log refl r.over }
  where
    whole : extended base.log r.ran ≡ extended base.log (s.unstopped.ran ++ s.ended.ran)
    whole = sym r.log ∙ s.ended.log ∙ ap (λ (o : Option (List Event)). extended o s.ended.ran) s.unstopped.log ∙ extended_twice base.log s.unstopped.ran s.ended.ran

    late : (link : ℕ) → IsSomebodys link conns ⊎ (notes (history_of link s.ended.ran) ≡ []) → Contains (notes (history_of link s.ended.ran)) (end_note link Stopped)
        → IfSome at.log (λ had. IsWellServed Stopped (l.write_quiet link ≡ true) ⊥ had link)
    late link (inl (k, c, gc, is)) has = subst (λ (n : ℕ). IfSome at.log (λ had. IsWellServed Stopped (l.write_quiet n ≡ true) ⊥ had n)) is
        (stood c (s.runs.attends.tracks k c gc) (s.done.settled k c gc))
    late link (inr none) has = absurd (contains_none (end_note link Stopped) (subst (λ (ns : List Note). Contains ns (end_note link Stopped)) none has))

    two : (before : List Event) → base.log ≡ Some before → (link : ℕ) → Contains (notes (history_of link r.ran)) (end_note link Stopped)
        → Contains (notes (history_of link s.unstopped.ran) ++ notes (history_of link s.ended.ran)) (end_note link Stopped)
    two before is link has = subst (λ (ns : List Note). Contains ns (end_note link Stopped))
        (ap (λ (ran : List Event). notes (history_of link ran)) (same_ran base.log before r.ran (s.unstopped.ran ++ s.ended.ran) is whole)
        ∙ ap notes (history-append link s.unstopped.ran s.ended.ran) ∙ flat_map-append note_by (history_of link s.unstopped.ran) (history_of link s.ended.ran)) has

    stopped : (before : List Event) → base.log ≡ Some before → (link : ℕ) → Contains (notes (history_of link r.ran)) (end_note link Stopped)
        → IfSome at.log (λ had. IsWellServed Stopped (l.write_quiet link ≡ true) ⊥ had link)
    stopped before is link has = elim (Contains-append_cases (notes (history_of link s.unstopped.ran)) (notes (history_of link s.ended.ran)) (end_note link Stopped) (two before is link has)) [
      | inl early ↦ absurd (s.unstopped.none link early)
      | inr here ↦ late link (s.ended.notes_on link) here
    ]

    says : (before : List Event) → base.log ≡ Some before → EndsServedApart base now gs r.steps before r.ran → (link : ℕ) (cause : EndCause) → Contains (notes (history_of link r.ran)) (end_note link cause) → EndSays at l (before ++ r.ran) link cause
    says before is over link Memory has = inl refl
    says before is over link Stopped has = inr (inr (refl, stopped before is link has))
    says before is over link Client has = inr (inl (ended before r.ran link Client (over link Client has).is_served has (λ e. cc) (λ e. cc)))
    says before is over link ClientFailed has = inr (inl (ended before r.ran link ClientFailed (over link ClientFailed has).is_served has (λ e. cc) (λ e. cc)))
    says before is over link Asked has = inr (inl (ended before r.ran link Asked (over link Asked has).is_served has (λ e. cc) (λ e. cc)))
    says before is over link Refused has = inr (inl (ended before r.ran link Refused (over link Refused has).is_served has (λ e. cc) (λ e. cc)))
    says before is over link Unread has = inr (inl (ended before r.ran link Unread (over link Unread has).is_served has (λ e. cc) (λ e. cc)))
    says before is over link (Idle b n) has = inr (inl (ended before r.ran link (Idle b n) (over link (Idle b n) has).is_served has (λ e. cc) (λ e. cc)))
    says before is over link Count has = inr (inl (ended before r.ran link Count (over link Count has).is_served has (λ e. cc) (λ e. cc)))
    says before is over link (Cut m) has = inr (inl (ended before r.ran link (Cut m) (over link (Cut m) has).is_served has (λ e. cc) (λ e. cc)))
    says before is over link (CutLate b n) has = inr (inl (ended before r.ran link (CutLate b n) (over link (CutLate b n) has).is_served has (λ e. cc) (λ e. cc)))

    by : (o : Option (List Event)) → base.log ≡ o → IfSome o (λ before. EndsServedApart base now gs r.steps before r.ran)
        → IfSome o (λ before. (link : ℕ) (cause : EndCause) → Contains (notes (history_of link r.ran)) (end_note link cause) → EndSays at l (before ++ r.ran) link cause)
    by None is over = tt
    by (Some before) is over = says before is over
