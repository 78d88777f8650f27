-- A worker's run over arrivals, the clock, waits and stops, and when it is settled.
use Rattle.std.proofs.Common.{◌≡◌, ◌≢◌, ℕ, ◌<◌, ◌≤◌, List, [], ◌∷◌, ◌++◌, Option, Some, None, refl, sym, ◌∙◌, ap, subst, inl, inr, arith, true, false, Bool, IsTrue, IsSome, ◌↔◌}
use Rattle.std.specs.Prelude.{IfSome, ◌==◌, Ok, Err}
use Rattle.std.specs.List.{Contains, flat_map}
use Rattle.std.proofs.lemmas.List.Concat.{flat_map-append}
use Rattle.std.proofs.lemmas.List.Elements.{Contains-push}
use Rattle.std.proofs.lemmas.Bool.{cases_eq, cases_lt}
use Rattle.std.proofs.lemmas.Bool.Decides.{nat_tests}
use Rattle.std.proofs.lemmas.List.{append-nil}
use Rattle.ip_net.specs.declared.ip.Ip.{Ip}
use Rattle.slab.specs.Slab.{Slab, get, slab_len, ContainsKey}
use Rattle.link_world.specs.declared.note.Note.{Note}
use Rattle.link_world.specs.declared.world.Arrival.{Arrival}
use Rattle.link_world.specs.declared.world.WaitFailed.{WaitFailed}
use Rattle.link_world.specs.Log.{Event, LinkEvent, came, waited, wait_failed, clock, on, closed, asked, IsFresh, only_if, happening, history_of, failure, failures_of, notes}
use Rattle.link_world.specs.Seen.{Seen, Rose, Came, Closed, CloseDid, NowDid, StopDid, WaitDid}
use Rattle.link_world.specs.Lately.{Lately, SameAt}
use Rattle.conversation.specs.Plans.{Plan}
use Rattle.desk.specs.Desks.{Desk}
use Rattle.conversation.specs.Steps.{Step, happened, history, IsNew}
use Rattle.conversation.specs.Served.{end_note, of_all, pin_of, notes_of}
use Rattle.conversation.specs.Turns.{Turn}
use Rattle.conn_machine.specs.Reached.{ending_note, closed_by}
use Rattle.conn_machine.specs.declared.conn.Conn.{Conn}
use Rattle.conn_service.specs.Moments.{Stands, IsElse, IsExchanging, moment}
use Rattle.conn_service.specs.Went.{Went, Lost, extended}
use Rattle.conn_service.specs.Calm.{Calm}
use Rattle.conn_service.proofs.Calms.{calm_kept}
use Rattle.worker_loop.specs.Owned.{Shows, HaveCome, Tracks, put}
use Rattle.worker_loop.specs.Runs.{AttendsBy, Runs, Stopping, JustCame, Unasked}
use Rattle.worker_loop.specs.Settled.{SettledUnder, AllSettled, SameTurn, TurnDone, EndsOnly, NoneStopped, StoppedAfter}
use Rattle.worker_loop.specs.Met.{Meets, IsClient}
use Rattle.worker_loop.specs.Rounds.{Parted}
use Rattle.conn_service.specs.Arrivals.{arrivals, arrival_by}
use Rattle.worker_loop.proofs.Lists.{contains_none, extended_twice, told_step, told_all, history-append, failures-append, grew_none}
use Rattle.worker_loop.proofs.Frames.{IsBlank, blank_fresh, put_same, put_other, Passed, client_told, back_told, has_come, no_more_told, rose_after}
use Rattle.worker_loop.specs.Named.{links_by, named_by, named, NamesApart}
use Rattle.worker_loop.proofs.Distincts.{named_mute}
use Rattle.worker_loop.proofs.Servings.{names_quiet, unowned, Others, Here, step_at, step_quiet, step_same}

other_link : {l link : ℕ} → l ≢ link → (l == link) ≡ false
other_link {l} {link} ne = grind (arith, nat_tests, ne)

this_link : {l link : ℕ} → l ≡ link → (l == link) ≡ true
this_link {l} {link} same = grind (arith, nat_tests, same)

-- a link that had come isn't one that comes
old_link : {now new : Seen} {link : ℕ} {e : LinkEvent} → Came now link e new → (l : ℕ) → now.come l ≡ true → l ≢ link
old_link {now} {new} {link} a l is same = let e : now.come link ≡ true = ap now.come (sym same) ∙ is in let not = a.not_come in let f : ⊥ = cc in f

quiet_at : (l link stamp : ℕ) (e : LinkEvent) → l ≢ link → IsBlank l (on link stamp e ∷ [])
quiet_at l link stamp e ne = (rw (other_link ne) refl, refl)

-- a client came
pub came_passed : {now new : Seen} {link : ℕ} {e : LinkEvent} (mine : List Step) → Came now link e new → Passed now new (on link now.now e ∷ []) mine
came_passed {now} {new} {link} {e} mine a = record {
  log = ap (λ (s : Seen). s.log) a.same;
  quiet = λ l is q. quiet_at l link now.now e (old_link a l is);
  still = λ l is q. a.others_open l (old_link a l is);
  come = λ l is. a.others_come l (old_link a l is) ∙ is;
  stops = let same : new.stops ≡ now.stops = ap (λ (s : Seen). s.stops) a.same in omega (arith, same);
  waits = let same : new.waits_failed ≡ now.waits_failed = ap (λ (s : Seen). s.waits_failed) a.same in omega (arith, same);
}

-- the steps of a connection that just came
abbrev pub first_steps : Arrival → List Step
first_steps a = happened a.link (came a.entry a.peer) ∷ []

pub first_new : (a : Arrival) (l : ℕ) → l ≢ a.link → IsNew l (first_steps a)
first_new a l ne = record { quiet = rw (other_link ne) refl; sound = refl }

first_shows : {now new : Seen} (a : Arrival) → Came now a.link (came a.entry a.peer) new → IfSome new.log (Shows (first_steps a))
first_shows {now} {new} a arrival =
    subst (λ (o : Option (List Event)). IfSome o (Shows (first_steps a))) (sym (ap (λ (s : Seen). s.log) arrival.same))
    (told_step now.log one (IsFresh a.link) (Shows (first_steps a)) next arrival.fresh)
  where
    one : List Event
    one = on a.link now.now (came a.entry a.peer) ∷ []

    next : (log : List Event) → IsFresh a.link log → Shows (first_steps a) (log ++ one)
    next log fresh l = elim (cases_eq l a.link) [
      | inr ne ↦ inl (first_new a l ne)
      | inl same ↦
          let none : IsBlank l log = subst (λ (m : ℕ). IsBlank m log) (sym same) (blank_fresh a.link log fresh) in
          let whole : history_of l (log ++ one) ≡ history_of l one = history-append l log one ∙ ap (λ (h : List LinkEvent). h ++ history_of l one) none.0 in
          let sound : failures_of l (log ++ one) ≡ [] = failures-append l log one ∙ ap (λ (h : List (Unit {0})). h ++ failures_of l one) none.1 in
          inr (record { events = sym whole; faults = sym sound })
    ]

pub came_mute : (l link stamp : ℕ) (entry : List ℕ) (peer : Ip) → notes (history_of l (on link stamp (came entry peer) ∷ [])) ≡ []
came_mute l link stamp entry peer = mute (l == link)
  where
    mute : (b : Bool) → notes (only_if b (came entry peer ∷ []) ++ []) ≡ []
    mute true = refl
    mute false = refl

done_none : (done : List Turn) (last : Option Turn) → [] ≡ of_all pin_of done last → (done ≡ []) × (last ≡ None)
done_none [] None is = (refl, refl)
done_none [] (Some t) is = absurd (let f : ⊥ = cc in f)
done_none (t ∷ done) last is = absurd (let f : ⊥ = cc in f)

-- a connection that just came has no note to tell
pub began_untold : {a : Arrival} {d : Conn} → JustCame a d → d.notes.items ≡ []
began_untold {a} {d} began =
    let r = began.reached in
    let h = r.kept.holds in
    let none = done_none r.done r.last h.pinned in
    waits_none (notes (history d.client.link (first_steps a))) d.notes.items (mute (d.client.link == a.link))
    (h.noted ∙ ap (λ (e : List Note). (flat_map (notes_of d.client.link) r.done ++ closed_by d.current.pinned d.client.link r.last) ++ e) (ap (ending_note d.client.link) began.waits.phase)
    ∙ append-nil (flat_map (notes_of d.client.link) r.done ++ closed_by d.current.pinned d.client.link r.last)
    ∙ ap (λ (o : List Turn). flat_map (notes_of d.client.link) o ++ closed_by d.current.pinned d.client.link r.last) none.0
    ∙ ap (closed_by d.current.pinned d.client.link) none.1
    ∙ closed_none d.current.pinned d.client.link)
  where
    waits_none : (told waiting : List Note) → told ≡ [] → told ++ waiting ≡ [] → waiting ≡ []
    waits_none told waiting is e = ap (λ (ns : List Note). ns ++ waiting) (sym is) ∙ e

    mute : (b : Bool) → notes (only_if b (came a.entry a.peer ∷ []) ++ []) ≡ []
    mute true = refl
    mute false = refl

    closed_none : (b : Bool) (link : ℕ) → closed_by b link None ≡ []
    closed_none true link = refl
    closed_none false link = refl

-- a connection joins
pub step_accept : {first : Slab Conn} {base now new : Seen} {g : List Plan} (a : Arrival) (d : Conn) (conns conns' : Slab Conn) (key : ℕ) → Came now a.link (came a.entry a.peer) new → JustCame a d → get conns' key ≡ Some d → Others conns conns' key → Runs first base now g conns → Runs first base new g conns'
step_accept {first} {base} {now} {new} {g} a d conns conns' key arrival began gd others r =
    step_at conns conns' key (first_steps a) r (came_passed (r.steps key) arrival) (grew_none g) (λ l is q. first_new a l (old_link arrival l is)) have others
    (λ x gx. let is : d ≡ x = cc in subst (λ (z : Conn). Tracks new g (first_steps a) z × IsClient z.client.link first (r.ran ++ one)) is (tracks, client))
    (λ l. inr (came_mute l a.link now.now a.entry a.peer)) names
    (told_all base.log (λ before. Here base new g _ (before ++ r.ran) one)
    (λ before l cause has. absurd (contains_none (end_note l cause) (subst (λ (ns : List Note). Contains ns (end_note l cause)) (came_mute l a.link now.now a.entry a.peer) has))))
  where
    one : List Event
    one = on a.link now.now (came a.entry a.peer) ∷ []

    whole : NamesApart new r.steps conns (r.ran ++ one)
    whole = names_quiet r.ran one (λ l is. arrival.others_come l (old_link arrival l is) ∙ is) (named_mute one (λ l. came_mute l a.link now.now a.entry a.peer)) r.names

    named_before : (l : ℕ) → Contains (named (r.ran ++ one)) l → Contains (named r.ran) l
    named_before l h = subst (λ (ls : List ℕ). Contains ls l) (flat_map-append named_by r.ran one ∙ append-nil (named r.ran)) h

    names : NamesApart new (put r.steps key (first_steps a)) conns' (r.ran ++ one)
    names = record {
      distinct = whole.distinct;
      come = whole.come;
      own = λ l k h. elim (cases_eq k key) [
        | inl same ↦ inl (subst (IsNew l) (sym (put_same r.steps key (first_steps a) k same)) (first_new a l (old_link arrival l (r.names.come l (named_before l h)))))
        | inr ne ↦ elim (whole.own l k h) [
          | inl q ↦ inl (subst (IsNew l) (sym (put_other r.steps key (first_steps a) k ne)) q)
          | inr own ↦ inr (λ x gx. subst (λ (s : List Step). Contains (flat_map links_by (notes (history x.client.link s))) l) (sym (put_other r.steps key (first_steps a) k ne)) (own x (sym (others k ne) ∙ gx)))
        ]
      ];
    }

    client : IsClient d.client.link first (r.ran ++ one)
    client = inr (subst (λ (ls : List ℕ). Contains ls d.client.link) (sym (flat_map-append arrival_by r.ran one))
        (subst (λ (m : ℕ). Contains (arrivals r.ran ++ a.link ∷ []) m) (sym began.link) (Contains-push (arrivals r.ran) a.link)))

    have : HaveCome new (first_steps a)
    have l not = first_new a l (λ same. let here = arrival.come in let e : new.come a.link ≡ false = ap new.come (sym same) ∙ not in let f : ⊥ = cc in f)

    idle : IsExchanging d → ⊥
    idle at = let x = at.stage in let y = began.waits.stage in cc

    tracks : Tracks new g (first_steps a) d
    tracks = record {
      stands = record { reached = began.reached; fresh = have };
      ready = record {
        is_open = began.waits.phase;
        prompt = began.prompt;
        linked = record {
          come = ap new.come began.link ∙ arrival.come;
          client = λ is. ap new.is_open began.link ∙ arrival.is_open;
          server = λ at. absurd (idle at);
          apart = λ at. absurd (idle at);
        };
        below = λ m all. let z = began.number in omega (arith, z);
      };
      held = tt;
      unstopped = refl;
      shows = first_shows a arrival;
      untold = began_untold began;
    }

-- a client came and is turned away
pub step_away : {first : Slab Conn} {base now mid new : Seen} {g : List Plan} {conns : Slab Conn} (a : Arrival) → Came now a.link (came a.entry a.peer) mid → CloseDid mid a.link new → Runs first base now g conns → Runs first base new g conns
step_away {first} {base} {now} {mid} {new} {g} {conns} a arrival did r = step_quiet passed mute r
  where
    shut : Closed mid a.link new
    shut = did.0 arrival.is_open

    at : LinkEvent
    at = came a.entry a.peer

    passed : Passed now new (on a.link now.now (came a.entry a.peer) ∷ closed a.link mid.now ∷ []) []
    passed = record {
      log = ap (λ (s : Seen). s.log) shut.same ∙ ap (λ (o : Option (List Event)). extended o (closed a.link mid.now ∷ [])) (ap (λ (s : Seen). s.log) arrival.same) ∙ extended_twice now.log (on a.link now.now (came a.entry a.peer) ∷ []) (closed a.link mid.now ∷ []);
      quiet = λ l is q. (rw (other_link (old_link arrival l is)) refl, refl);
      still = λ l is q. shut.others_open l (old_link arrival l is) ∙ arrival.others_open l (old_link arrival l is);
      come = λ l is. ap (λ (s : Seen). s.come l) shut.same ∙ arrival.others_come l (old_link arrival l is) ∙ is;
      stops = let x : new.stops ≡ now.stops = ap (λ (s : Seen). s.stops) shut.same ∙ ap (λ (s : Seen). s.stops) arrival.same in omega (arith, x);
      waits = let x : new.waits_failed ≡ now.waits_failed = ap (λ (s : Seen). s.waits_failed) shut.same ∙ ap (λ (s : Seen). s.waits_failed) arrival.same in omega (arith, x);
    }

    mute : (l : ℕ) → notes (history_of l (on a.link now.now (came a.entry a.peer) ∷ closed a.link mid.now ∷ [])) ≡ []
    mute l = came_mute l a.link now.now a.entry a.peer

pub came_stops : {now new : Seen} {link : ℕ} {e : LinkEvent} → Came now link e new → new.stops ≡ now.stops
came_stops a = ap (λ (s : Seen). s.stops) a.same

pub away_stops : {now mid new : Seen} {link : ℕ} {e : LinkEvent} → Came now link e mid → CloseDid mid link new → new.stops ≡ now.stops
away_stops a did = ap (λ (s : Seen). s.stops) (did.0 a.is_open).same ∙ ap (λ (s : Seen). s.stops) a.same

-- one event that is on no link
idle_passed : (e : Event) (now new : Seen) → ((l : ℕ) → (happening l e ≡ []) × (failure l e ≡ [])) → new.log ≡ extended now.log (e ∷ []) → new.come ≡ now.come → new.is_open ≡ now.is_open → now.stops ≤ new.stops → now.waits_failed ≤ new.waits_failed → Passed now new (e ∷ []) []
idle_passed e now new none log come opened stops waits = record {
  log = log;
  quiet = λ l is q. (rw ((none l).0) refl, rw ((none l).1) refl);
  still = λ l is q. ap (λ (f : ℕ → Bool). f l) opened;
  come = λ l is. ap (λ (f : ℕ → Bool). f l) come ∙ is;
  stops = stops;
  waits = waits;
}

idle_mute : (e : Event) (l : ℕ) → happening l e ≡ [] → notes (history_of l (e ∷ [])) ≡ []
idle_mute e l none = rw none refl

-- the clock answered
pub step_clock : {first : Slab Conn} {base now new : Seen} {g : List Plan} {conns : Slab Conn} (n : ℕ) → NowDid now n new → Runs first base now g conns → Runs first base new g conns
step_clock n (inl did) r = step_same did.1 r
step_clock {first} {base} {now} {new} n (inr did) r =
    let is = did.1 in
    step_quiet
    (idle_passed (clock n) now new (λ l. (refl, refl)) (ap (λ (s : Seen). s.log) is) (ap (λ (s : Seen). s.come) is) (ap (λ (s : Seen). s.is_open) is)
    (let same : new.stops ≡ now.stops = ap (λ (s : Seen). s.stops) is in omega (arith, same)) (let same : new.waits_failed ≡ now.waits_failed = ap (λ (s : Seen). s.waits_failed) is in omega (arith, same)))
    (λ l. refl) r

pub clock_stops : {now new : Seen} (n : ℕ) → NowDid now n new → new.stops ≡ now.stops
clock_stops n (inl did) = ap (λ (s : Seen). s.stops) did.1
clock_stops n (inr did) = ap (λ (s : Seen). s.stops) did.1

-- a stop was asked for
pub step_stop : {first : Slab Conn} {base now new : Seen} {g : List Plan} {conns : Slab Conn} → StopDid now true new → Runs first base now g conns → Runs first base new g conns × Stopping base new
step_stop {first} {base} {now} {new} {g} {conns} (n, more, is) r =
    let rose : Rose now.stops new.stops = subst (λ (s : Seen). Rose now.stops s.stops) (sym is) more in (
      step_quiet
          (idle_passed (asked true) now new (λ l. (refl, refl)) (ap (λ (s : Seen). s.log) is) (ap (λ (s : Seen). s.come) is) (ap (λ (s : Seen). s.is_open) is)
          rose.0 (let same : new.waits_failed ≡ now.waits_failed = ap (λ (s : Seen). s.waits_failed) is in omega (arith, same)))
          (λ l. refl) r,
      inl (rose_after r.stops rose),
    )

pub stop_rose : (now new : Seen) → StopDid now true new → Rose now.stops new.stops
stop_rose now new (n, more, is) = subst (λ (s : Seen). Rose now.stops s.stops) (sym is) more

-- no stop was asked for
pub step_unasked : {first : Slab Conn} {base now new : Seen} {g : List Plan} {conns : Slab Conn} → StopDid now false new → Runs first base now g conns → Runs first base new g conns
step_unasked {first} {base} {now} {new} {g} {conns} is r =
    step_quiet
    (idle_passed (asked false) now new (λ l. (refl, refl)) (ap (λ (s : Seen). s.log) is) (ap (λ (s : Seen). s.come) is) (ap (λ (s : Seen). s.is_open) is)
    (let same : new.stops ≡ now.stops = ap (λ (s : Seen). s.stops) is in omega (arith, same)) (let same : new.waits_failed ≡ now.waits_failed = ap (λ (s : Seen). s.waits_failed) is in omega (arith, same)))
    (λ l. refl) r

pub unasked_stops : (now new : Seen) → StopDid now false new → new.stops ≡ now.stops
unasked_stops now new is = ap (λ (s : Seen). s.stops) is

-- a wait came back
pub step_wait : {first : Slab Conn} {base now new : Seen} {g : List Plan} {conns : Slab Conn} (until : ℕ) → WaitDid now until (Ok tt) new → Runs first base now g conns → Runs first base new g conns
step_wait {first} {base} {now} {new} {g} {conns} until is r =
    step_quiet
    (idle_passed (waited until) now new (λ l. (refl, refl)) (ap (λ (s : Seen). s.log) is) (ap (λ (s : Seen). s.come) is) (ap (λ (s : Seen). s.is_open) is)
    (let same : new.stops ≡ now.stops = ap (λ (s : Seen). s.stops) is in omega (arith, same)) (let same : new.waits_failed ≡ now.waits_failed = ap (λ (s : Seen). s.waits_failed) is in omega (arith, same)))
    (λ l. refl) r

-- a wait failed
pub step_failed : {first : Slab Conn} {base now new : Seen} {g : List Plan} {conns : Slab Conn} (until : ℕ) (e : WaitFailed) → WaitDid now until (Err e) new → Runs first base now g conns → Runs first base new g conns × Stopping base new
step_failed {first} {base} {now} {new} {g} {conns} until e (n, more, is) r =
    let rose : Rose now.waits_failed new.waits_failed = subst (λ (s : Seen). Rose now.waits_failed s.waits_failed) (sym is) more in (
      step_quiet
          (idle_passed (wait_failed until) now new (λ l. (refl, refl)) (ap (λ (s : Seen). s.log) is) (ap (λ (s : Seen). s.come) is) (ap (λ (s : Seen). s.is_open) is)
          (let same : new.stops ≡ now.stops = ap (λ (s : Seen). s.stops) is in omega (arith, same)) rose.0)
          (λ l. refl) r,
      inr (rose_after r.waits rose),
    )

-- nothing changed of the links that the connection's steps don't tell of
abbrev pub Only : Seen → Conn → Lately → Lately → Type 0
Only now c a b = (steps : List Step) (l : ℕ) → Stands now steps c → IsElse now steps l → SameAt l a b

-- the connections under other keys stay settled
settled_others : {now : Seen} {f : List Plan} {steps : ℕ → List Step} {a b : Lately} {c : Conn} (conns conns' : Slab Conn) (key k : ℕ) → AttendsBy now f steps conns → get conns key ≡ Some c → Only now c a b → Others conns conns' key → k ≢ key → SettledUnder a conns k → SettledUnder b conns' k
settled_others {now} {f} {steps} {a} {b} {c} conns conns' key k at gc only others ne was x gx =
    let gx0 : get conns k ≡ Some x = sym (others k ne) ∙ gx in
    let t = at.tracks k x gx0 in
    let mine = at.tracks key c gc in
    calm_kept (was x gx0)
    (same t.stands mine.stands x.client.link (client_told t.stands.reached))
    (λ at. same t.stands mine.stands x.current.link (back_told t.stands.reached at.phase at.stage))
  where
    same : {x : Conn} → Stands now (steps k) x → Stands now (steps key) c → (l : ℕ) → (IsNew l (steps k) → ⊥) → SameAt l a b
    same other mine l told = only (steps key) l mine (record { come = has_come now l other.fresh told; quiet = no_more_told l (at.apart k key ne) told })

pub settled_key : {now : Seen} {f : List Plan} {a b : Lately} {c : Conn} {steps : ℕ → List Step} (conns conns' : Slab Conn) (key : ℕ) → AttendsBy now f steps conns → get conns key ≡ Some c → Only now c a b → Others conns conns' key → SettledUnder b conns' key → (k : ℕ) → (k ≢ key → SettledUnder a conns k) → SettledUnder b conns' k
settled_key conns conns' key at gc only others here k was = elim (cases_eq k key) [
  | inl same ↦ λ x gx. here x (ap (get conns') (sym same) ∙ gx)
  | inr ne ↦ settled_others conns conns' key k at gc only others ne (was ne)
]

pub settled_gone : (l : Lately) (conns : Slab Conn) (key : ℕ) → get conns key ≡ None → SettledUnder l conns key
settled_gone l conns key gone x gx = absurd (let f : ⊥ = cc in f)

pub settled_here : {l : Lately} {d : Conn} (conns : Slab Conn) (key : ℕ) → get conns key ≡ Some d → Calm l d → SettledUnder l conns key
settled_here {l} {d} conns key gd s x gx = let is : d ≡ x = cc in subst (λ (z : Conn). Calm l z) is s

-- the links are as they were
abbrev pub SameLinks : Lately → Lately → Type 0
SameLinks a b = (l : ℕ) → SameAt l a b

pub settled_same : {a b : Lately} (conns conns' : Slab Conn) (k : ℕ) → SameLinks a b → get conns' k ≡ get conns k → SettledUnder a conns k → SettledUnder b conns' k
settled_same conns conns' k links same was x gx = calm_kept (was x (sym same ∙ gx)) (links x.client.link) (λ at. links x.current.link)

pub same_links : {a : Lately} (clocked no_more : Bool) → SameLinks a (record a { clocked = clocked; no_more = no_more })
same_links clocked no_more l = record { reads = refl; read_quiet = refl; write_quiet = refl; read_was_quiet = refl; write_was_quiet = refl }

pub links_after : {a b : Lately} {no_more : Bool} → b ≡ record a { no_more = no_more } → SameLinks a b
links_after {a} {b} {no_more} is l = subst (λ (t : Lately). SameAt l a t) (sym is) (same_links {a = a} a.clocked no_more l)

pub all_settled : {l : Lately} (conns : Slab Conn) (end : ℕ) → ((k : ℕ) → k < end → SettledUnder l conns k) → ((k : ℕ) → end ≤ k → get conns k ≡ None) → AllSettled l conns
all_settled {l} conns end below gone k = elim (cases_lt k end) [
  | inl lt ↦ below k lt
  | inr le ↦ settled_gone l conns k (gone k le)
]

pub settled_vacant : {l : Lately} (conns conns' : Slab Conn) (key : ℕ) → get conns' key ≡ None → Others conns conns' key → (k : ℕ) → (k ≢ key → SettledUnder l conns k) → SettledUnder l conns' k
settled_vacant {l} conns conns' key gone others k was = elim (cases_eq k key) [
  | inl same ↦ settled_gone l conns' k (ap (get conns') same ∙ gone)
  | inr ne ↦ λ x gx. was ne x (sym (others k ne) ∙ gx)
]

pub wait_rose : (now new : Seen) (until : ℕ) (e : WaitFailed) → WaitDid now until (Err e) new → Rose now.waits_failed new.waits_failed
wait_rose now new until e (n, more, is) = subst (λ (s : Seen). Rose now.waits_failed s.waits_failed) (sym is) more

-- serving a connection changes nothing of others' links
pub went_only : {S : Type 0} {now new : Seen} {l m : Lately} {f g : Desk} {c d : Conn} → Went S (moment now l f c) (moment new m g d) → Only now c l m
went_only w steps k t e = (w.world.others k (unowned t e)).lately

pub went_turn : {S : Type 0} {now new : Seen} {l m : Lately} {f g : Desk} {c d : Conn} → Went S (moment now l f c) (moment new m g d) → SameTurn l m
went_turn w = record { clocked = w.world.clocked; no_more = w.world.no_more }

pub lost_turn : {S : Type 0} {now new : Seen} {l m : Lately} {f g : Desk} {c : Conn} → Lost S (moment now l f c) new m g → SameTurn l m
lost_turn (d, w, un) = went_turn w

pub links_equal : {a b d : Lately} → d ≡ b → SameLinks a b → SameLinks a d
links_equal {a} {b} {d} is same = subst (λ (t : Lately). SameLinks a t) (sym is) same

-- a stop that was asked for stays so
pub rose_kept : (a b c d : Seen) (n : ℕ) → n ≡ a.stops → a.stops ≡ b.stops → Rose b.stops c.stops → Unasked c d → Rose n d.stops
rose_kept a b c d n first then_ rose un = let x = rose.0 in let y = rose.1 in let z = un.0 in (omega (arith, first, then_, x, z), omega (arith, first, then_, y, z))

pub fault_kept : (a b c d : Seen) → a.waits_failed ≤ b.waits_failed → Rose b.waits_failed c.waits_failed → Unasked c d → Rose a.waits_failed d.waits_failed
fault_kept a b c d le rose un = let x = rose.0 in let y = rose.1 in let z = un.1 in (omega (arith, le, x, z), omega (arith, le, y, z))

pub wait_stops : (now new : Seen) (until : ℕ) → WaitDid now until (Ok tt) new → new.stops ≡ now.stops
wait_stops now new until is = ap (λ (s : Seen). s.stops) is

pub failed_stops : (now new : Seen) (until : ℕ) (e : WaitFailed) → WaitDid now until (Err e) new → new.stops ≡ now.stops
failed_stops now new until e (n, more, is) = ap (λ (s : Seen). s.stops) is

-- a stop was asked for after a turn, and then connections were ended
pub stopped_after : {l : Lately} {g : List Plan} (first : Slab Conn) (base a b d : Seen) (conns : Slab Conn) (links : ℕ) → Runs first base a g conns → Meets first base a conns → NoneStopped base a → TurnDone l conns links → (slab_len first ≤ links → slab_len conns ≤ links) → a.stops ≡ base.stops
    → StopDid a true b → Unasked b d → EndsOnly b d conns → Parted b d → StoppedAfter first base a l d g conns links
stopped_after {l} first base a b d conns links runs met none done most before did un ends parted = record {
  runs = runs;
  met = met;
  unstopped = none;
  done = done;
  most = most;
  before = before;
  rose = rose_kept a a b d a.stops refl refl (stop_rose a b did) un;
  ended = record {
    ran = asked true ∷ ends.ran;
    log = ends.log ∙ ap (λ (o : Option (List Event)). extended o ends.ran) asked_log ∙ extended_twice a.log (asked true ∷ []) ends.ran;
    notes_on = ends.notes_on;
    causes = ends.causes;
  };
  told = record {
    farewells = parted.ran;
    log = parted.leads.log ∙ ap (λ (o : Option (List Event)). extended o parted.ran) asked_log ∙ extended_twice a.log (asked true ∷ []) parted.ran;
    are_farewells = parted.farewells;
  };
}
  where
    asked_log : b.log ≡ extended a.log (asked true ∷ [])
    asked_log = ap (λ (s : Seen). s.log) did.2

-- a key at which no value was found
none_by : (o : Option Conn) → (IsSome o → ⊥) → o ≡ None
none_by None none = refl
none_by (Some c) none = absurd (none refl)

pub found_vacant : (conns : Slab Conn) (key : ℕ) (r : Bool) → IsTrue r ↔ ContainsKey conns key → (IsTrue r → ⊥) → get conns key ≡ None
found_vacant conns key r h none = none_by (get conns key) (λ some. none (h.1 some))
