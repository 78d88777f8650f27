-- What happened on some links, seen by those to whom it wasn't told.
use Rattle.std.proofs.Common.{◌≡◌, ◌≢◌, ℕ, ◌≤◌, List, [], ◌∷◌, ◌++◌, Option, Some, None, refl, sym, ◌∙◌, ap, subst, inl, inr, arith, true, false, Bool}
use Rattle.std.specs.Prelude.{IfSome, ◌==◌, if◌then◌else◌}
use Rattle.std.specs.List.{AllByRecursion}
use Rattle.std.proofs.lemmas.Bool.{cases_eq}
use Rattle.std.proofs.lemmas.Bool.Decides.{nat_tests}
use Rattle.std.proofs.lemmas.List.{append-nil}
use Rattle.ip_net.specs.declared.ip.Ip.{Ip}
use Rattle.link_world.specs.Log.{Event, LinkEvent, waited, wait_failed, clock, on, failed, closed, asked, IsFresh, is_of, only_if, happening, history_of, failure, failures_of}
use Rattle.link_world.specs.Seen.{Seen, Rose}
use Rattle.link_world.specs.declared.note.EndCause.{EndCause}
use Rattle.link_world.specs.declared.note.EndCause.TheVariants.{Client, ClientFailed, Asked, Refused, Unread, Idle, Count, Cut, CutLate, Stopped, Memory}
use Rattle.conversation.specs.Plans.{Plan}
use Rattle.conversation.specs.Steps.{Step, history, pins, IsNew}
use Rattle.conversation.specs.Turns.{Turn, BackLink, IsLinkTold}
use Rattle.conversation.specs.Served.{Served, EndHolds, IfLast, IsAnswered}
use Rattle.conn_machine.specs.Reached.{Reached, PhaseHolds, pending_of}
use Rattle.conn_machine.specs.Parts.{AtStage}
use Rattle.conn_machine.specs.declared.conn.Conn.{Conn}
use Rattle.conn_machine.specs.declared.parts.Stage.{Stage}
use Rattle.conn_machine.specs.declared.parts.Stage.TheVariants.{Exchange}
use Rattle.conn_machine.specs.declared.parts.Phase.{Phase}
use Rattle.conn_machine.specs.declared.parts.Phase.TheVariants.{Open}
use Rattle.desk.specs.Desks.{Grew}
use Rattle.conn_service.specs.Went.{extended}
use Rattle.conn_service.specs.Pins.{IsBelow}
use Rattle.worker_loop.specs.Owned.{AreApart, TellsAll, Shows, HaveCome, Tracks, put}
use Rattle.worker_loop.specs.Runs.{Stopping, IsServed, IsServedApart}
use Rattle.worker_loop.proofs.Lists.{true_or_false, told_step, history_quiet, failures_quiet, new_none, grew_all}

pub history_fresh : (link : ℕ) (log : List Event) → IsFresh link log → history_of link log ≡ []
history_fresh link [] h = refl
history_fresh link (e ∷ log) h = rw (happening_other link e h.0) (history_fresh link log h.1)
  where
    happening_other : (l : ℕ) (e : Event) → is_of l e ≡ false → happening l e ≡ []
    happening_other l (waited n) is = refl
    happening_other l (wait_failed n) is = refl
    happening_other l (clock n) is = refl
    happening_other l (on m n x) is = ap (λ (b : Bool). only_if b (x ∷ [])) is
    happening_other l (failed m n) is = refl
    happening_other l (closed m n) is = refl
    happening_other l (asked b) is = refl

pub failures_fresh : (link : ℕ) (log : List Event) → IsFresh link log → failures_of link log ≡ []
failures_fresh link [] h = refl
failures_fresh link (e ∷ log) h = rw (failure_other link e h.0) (failures_fresh link log h.1)
  where
    failure_other : (l : ℕ) (e : Event) → is_of l e ≡ false → failure l e ≡ []
    failure_other l (waited n) is = refl
    failure_other l (wait_failed n) is = refl
    failure_other l (clock n) is = refl
    failure_other l (on m n x) is = refl
    failure_other l (failed m n) is = ap (λ (b : Bool). only_if b (tt ∷ [])) is
    failure_other l (closed m n) is = refl
    failure_other l (asked b) is = refl

-- of the link the log tells nothing
abbrev pub IsBlank : ℕ → List Event → Type 0
IsBlank l log = (history_of l log ≡ []) × (failures_of l log ≡ [])

pub blank_fresh : (link : ℕ) (log : List Event) → IsFresh link log → IsBlank link log
blank_fresh link log h = (history_fresh link log h, failures_fresh link log h)

-- these events happened, all of them on links of which `mine` tells or that had not come
pub record Passed (now new : Seen) (ran : List Event) (mine : List Step) : Type 0 where
  pub log : new.log ≡ extended now.log ran
  pub quiet : (l : ℕ) → now.come l ≡ true → IsNew l mine → IsBlank l ran
  pub still : (l : ℕ) → now.come l ≡ true → IsNew l mine → new.is_open l ≡ now.is_open l
  pub come : (l : ℕ) → now.come l ≡ true → new.come l ≡ true
  pub stops : now.stops ≤ new.stops
  pub waits : now.waits_failed ≤ new.waits_failed

pub apart_sym : {a b : List Step} → AreApart a b → AreApart b a
apart_sym apart l = elim (apart l) [ inl q ↦ inr q | inr q ↦ inl q ]

pub apart_none : {a : List Step} → AreApart a []
apart_none l = inr new_none

pub put_same : (steps : ℕ → List Step) (key : ℕ) (next : List Step) (k : ℕ) → k ≡ key → put steps key next k ≡ next
put_same steps key next k same = let e : (k == key) ≡ true = grind (arith, nat_tests, same) in ap (λ (b : Bool). if b then next else steps k) e

pub put_other : (steps : ℕ → List Step) (key : ℕ) (next : List Step) (k : ℕ) → k ≢ key → put steps key next k ≡ steps k
put_other steps key next k differs = let e : (k == key) ≡ false = grind (arith, nat_tests, differs) in ap (λ (b : Bool). if b then next else steps k) e

come_before : {now new : Seen} {ran : List Event} {mine : List Step} → Passed now new ran mine → (l : ℕ) → new.come l ≡ false → now.come l ≡ false
come_before {now} p l not = elim (true_or_false (now.come l)) [
  | inl is ↦ let e = p.come l is in absurd (let f : ⊥ = cc in f)
  | inr is ↦ is
]

pub have_come : {now new : Seen} {ran : List Event} {mine other : List Step} → Passed now new ran mine → HaveCome now other → HaveCome new other
have_come p h l not = h l (come_before p l not)

-- a link of which the steps tell has come
pub has_come : (now : Seen) {steps : List Step} (l : ℕ) → HaveCome now steps → (IsNew l steps → ⊥) → now.come l ≡ true
has_come now l h told = elim (true_or_false (now.come l)) [ inl is ↦ is | inr not ↦ absurd (told (h l not)) ]

pub no_more_told : {mine other : List Step} (l : ℕ) → AreApart other mine → (IsNew l other → ⊥) → IsNew l mine
no_more_told l apart told = elim (apart l) [ inl q ↦ absurd (told q) | inr q ↦ q ]

-- of this link the longer log tells no more
pub tells_kept : (l : ℕ) (steps : List Step) (log ran : List Event) → IsBlank l ran → TellsAll l steps log → TellsAll l steps (log ++ ran)
tells_kept l steps log ran blank t = record {
  events = t.events ∙ sym (history_quiet l log ran blank.0);
  faults = t.faults ∙ sym (failures_quiet l log ran blank.1);
}

-- what others were told is all that the longer log tells
pub shows_kept : {now new : Seen} {ran : List Event} {mine other : List Step} → Passed now new ran mine → HaveCome now other → AreApart other mine → (log : List Event) → Shows other log → Shows other (log ++ ran)
shows_kept {now} {new} {ran} {mine} {other} p h apart log s l = elim (s l) [
  | inl q ↦ inl q
  | inr e ↦ elim (true_or_false (now.come l)) [
    | inr not ↦ inl (h l not)
    | inl is ↦ elim (apart l) [
      | inl q ↦ inl q
      | inr q ↦ inr (tells_kept l other log ran (p.quiet l is q) e)
    ]
  ]
]

-- an open connection was told of its client's link
pub client_told : {steps : List Step} {c : Conn} → Reached steps c → IsNew c.client.link steps → ⊥
client_told {steps} {c} r new = let e = r.kept.holds.arrived.1 in let q = new.quiet in cc

back_of : {steps : List Step} (o : Option BackLink) (b : BackLink) (m : ℕ) → o ≡ Some b → b.link ≡ m → IsLinkTold steps o → IsNew m steps → ⊥
back_of None b m is link told new = absurd (let f : ⊥ = cc in f)
back_of {steps} (Some a) b m is link told new =
    let at : a.link ≡ m = ap (λ (o : Option BackLink). link_in o) is ∙ link in
    let e : history a.link steps ≡ a.events = told.events in
    let q : history a.link steps ≡ [] = ap (λ (l : ℕ). history l steps) at ∙ new.quiet in
    let opened = told.opened in
    let f : ⊥ = cc in f
  where
    link_in : Option BackLink → ℕ
    link_in None = 0
    link_in (Some x) = x.link

-- and of its server's link, while it has one
pub back_told : {steps : List Step} {c : Conn} → Reached steps c → c.phase ≡ Open → c.stage ≡ Exchange → IsNew c.current.link steps → ⊥
back_told {steps} {c} r opened exchanging new =
    let ph : PhaseHolds Open steps c r.done r.last r.rest r.left r.kept.next = subst (λ (p : Phase). PhaseHolds p steps c r.done r.last r.rest r.left r.kept.next) opened r.phase in
    let st : AtStage Exchange c.client c.current c.input.items (pending_of c) r.done r.last r.rest = subst (λ (s : Stage). AtStage s c.client c.current c.input.items (pending_of c) r.done r.last r.rest) exchanging ph.3 in
    let one : IfLast (IsAnswered steps c.client.entry c.client.peer) (Some st.turn) = subst (λ (o : Option Turn). IfLast (IsAnswered steps c.client.entry c.client.peer) o) st.last_is r.kept.sound.one in
    back_of st.turn.back st.holds.link c.current.link st.holds.sent.back st.holds.number one.shown new

all_front : {X : Type 0} (P : X → Type 0) (xs ys : List X) → AllByRecursion P (xs ++ ys) → AllByRecursion P xs
all_front P [] ys h = tt
all_front P (x ∷ xs) ys h = (h.0, all_front P xs ys h.1)

pub grew_below : (f g : List Plan) (n : ℕ) → Grew f g → IsBelow f n → IsBelow g n
grew_below f g n grew h m all = h m (all_front (λ (p : Plan). p.number ≤ m) f grew.0 (subst (λ (l : List Plan). AllByRecursion (λ (p : Plan). p.number ≤ m) l) grew.1 all))

-- a link that an open connection has stays open
still_open : {now new : Seen} {ran : List Event} {mine other : List Step} (l : ℕ) → Passed now new ran mine → HaveCome now other → AreApart other mine → (IsNew l other → ⊥) → now.is_open l ≡ true → new.is_open l ≡ true
still_open {now} l p h apart told was = p.still l (has_come now l h told) (no_more_told l apart told) ∙ was

-- another connection is tracked as before
pub tracks_kept : {now new : Seen} {ran : List Event} {f g : List Plan} {mine other : List Step} {x : Conn} → Passed now new ran mine → Grew f g → AreApart other mine → Tracks now f other x → Tracks new g other x
tracks_kept {now} {new} {ran} {f} {g} {mine} {other} {x} p grew apart t = record {
  stands = record { reached = t.stands.reached; fresh = have_come p t.stands.fresh };
  ready = record {
    is_open = t.ready.is_open;
    prompt = t.ready.prompt;
    linked = record {
      come = p.come x.client.link t.ready.linked.come;
      client = λ is. still_open x.client.link p t.stands.fresh apart (client_told t.stands.reached) (t.ready.linked.client is);
      server = λ at. record {
        come = p.come x.current.link (t.ready.linked.server at).come;
        is_open = still_open x.current.link p t.stands.fresh apart (back_told t.stands.reached at.phase at.stage) (t.ready.linked.server at).is_open;
      };
      apart = t.ready.linked.apart;
    };
    below = grew_below f g x.current.number grew t.ready.below;
  };
  held = grew_all f g (pins other) grew t.held;
  unstopped = t.unstopped;
  shows = subst (λ (o : Option (List Event)). IfSome o (Shows other)) (sym p.log)
      (told_step now.log ran (Shows other) (Shows other) (λ log s. shows_kept p t.stands.fresh apart log s) t.shows);
  untold = t.untold;
}

pub end_weaker : (cause : EndCause) (history : List LinkEvent) (done : List Turn) (last : Option Turn) (rest left : List ℕ) (A B A' B' : Type 0) → (A → A') → (B → B') → EndHolds cause history done last rest left A B → EndHolds cause history done last rest left A' B'
end_weaker Client history done last rest left A B A' B' f g h = h
end_weaker ClientFailed history done last rest left A B A' B' f g h = f h
end_weaker Asked history done last rest left A B A' B' f g h = h
end_weaker Refused history done last rest left A B A' B' f g h = h
end_weaker Unread history done last rest left A B A' B' f g h = h
end_weaker (Idle base now) history done last rest left A B A' B' f g h = h
end_weaker Count history done last rest left A B A' B' f g h = h
end_weaker (Cut link) history done last rest left A B A' B' f g h = h
end_weaker (CutLate base now) history done last rest left A B A' B' f g h = h
end_weaker Stopped history done last rest left A B A' B' f g h = g h
end_weaker Memory history done last rest left A B A' B' f g h = tt

-- a connection that was served stays so
pub served_weaker : {f g : List Plan} {link : ℕ} {entry : List ℕ} {peer : Ip} {steps : List Step} {A B A' B' : Type 0} → Grew f g → (A → A') → (B → B') → Served f link entry peer steps A B → Served g link entry peer steps A' B'
served_weaker {f} {g} {link} {entry} {peer} {steps} {A} {B} {A'} {B'} grew ka kb s = record {
  done = s.done;
  last = s.last;
  rest = s.rest;
  left = s.left;
  cause = s.cause;
  arrived = s.arrived;
  reads = s.reads;
  spells = s.spells;
  covers = s.covers;
  noted = s.noted;
  pinned = s.pinned;
  looked = s.looked;
  picked = s.picked;
  refused = s.refused;
  chosen = s.chosen;
  own = s.own;
  links = s.links;
  published = grew_all f g (pins steps) grew s.published;
  rising = s.rising;
  numbered = s.numbered;
  answered = s.answered;
  whole = s.whole;
  ending = end_weaker s.cause (history link steps) s.done s.last s.rest s.left A B A' B' ka kb s.ending;
}

rose_then : {a b c : ℕ} → Rose a b → b ≤ c → Rose a c
rose_then {a} {b} {c} r le = let x = r.0 in let y = r.1 in (omega (arith, x, le), omega (arith, y, le))

pub rose_after : {a b c : ℕ} → a ≤ b → Rose b c → Rose a c
rose_after {a} {b} {c} le r = let x = r.0 in let y = r.1 in (omega (arith, x, le), omega (arith, y, le))

pub stopping_later : (now new base : Seen) → now.stops ≤ new.stops → now.waits_failed ≤ new.waits_failed → Stopping base now → Stopping base new
stopping_later now new base s w (inl x) = inl (rose_then x s)
stopping_later now new base s w (inr x) = inr (rose_then x w)

served_told : {f : List Plan} {link : ℕ} {entry : List ℕ} {peer : Ip} {steps : List Step} {A B : Type 0} → Served f link entry peer steps A B → IsNew link steps → ⊥
served_told s new = let e = s.arrived.1 in let q = new.quiet in cc

-- it was served by the longer log too
pub is_served_kept : {base now new : Seen} {ran : List Event} {f g : List Plan} {mine : List Step} {log : List Event} {link : ℕ} → Passed now new ran mine → Grew f g → (o : IsServed base now f log link) → HaveCome now o.steps → AreApart o.steps mine → IsServed base new g (log ++ ran) link
is_served_kept {base} {now} {new} {ran} {f} {g} {mine} {log} {link} p grew o h apart =
    let blank = p.quiet link (has_come now link h (served_told o.served)) (no_more_told link apart (served_told o.served)) in
    record {
      entry = o.entry;
      peer = o.peer;
      steps = o.steps;
      served = served_weaker grew (λ some none. some (sym (failures_quiet link log ran blank.1) ∙ none)) (stopping_later now new base p.stops p.waits) o.served;
      client = tells_kept link o.steps log ran blank o.client;
      shows = shows_kept p h apart log o.shows;
    }

-- what a link has that comes at a key doesn't take a link that came before
abbrev pub Grows : Seen → List Step → List Step → Type 0
Grows now mine next = (l : ℕ) → now.come l ≡ true → IsNew l mine → IsNew l next

pub apart_next : (now : Seen) {mine next other : List Step} → Grows now mine next → HaveCome now other → AreApart other mine → AreApart other next
apart_next now grows h apart l = elim (true_or_false (now.come l)) [
  | inr not ↦ inl (h l not)
  | inl is ↦ elim (apart l) [ inl q ↦ inl q | inr q ↦ inr (grows l is q) ]
]

-- and its links stay no others'
pub over_kept : {base now new : Seen} {ran : List Event} {f g : List Plan} {steps : ℕ → List Step} {log : List Event} {link : ℕ} (key : ℕ) (next : List Step) → Passed now new ran (steps key) → Grew f g → Grows now (steps key) next → IsServedApart base now f steps log link → IsServedApart base new g (put steps key next) (log ++ ran) link
unfolding is_served_kept
over_kept {base} {now} {new} {ran} {f} {g} {steps} {log} {link} key next p grew grows o = record {
  is_served = is_served_kept p grew o.is_served o.come (o.apart key);
  come = have_come p o.come;
  apart = λ k. elim (cases_eq k key) [
    | inl same ↦ subst (λ (s : List Step). AreApart o.is_served.steps s) (sym (put_same steps key next k same)) (apart_next now grows o.come (o.apart key))
    | inr ne ↦ subst (λ (s : List Step). AreApart o.is_served.steps s) (sym (put_other steps key next k ne)) (o.apart k)
  ];
}

-- the same where nothing happened on a connection's link
pub over_quiet : {base now new : Seen} {ran : List Event} {f : List Plan} {steps : ℕ → List Step} {log : List Event} {link : ℕ} → Passed now new ran [] → IsServedApart base now f steps log link → IsServedApart base new f steps (log ++ ran) link
unfolding is_served_kept
over_quiet {base} {now} {new} {ran} {f} {steps} {log} {link} p o = record {
  is_served = is_served_kept p ([], sym (append-nil f)) o.is_served o.come apart_none;
  come = have_come p o.come;
  apart = o.apart;
}
