-- A worker's run over the calls for one key.
use Rattle.std.proofs.Common.{◌≡◌, ◌≢◌, ◌⊎◌, ⊎_elim, ℕ, ◌+◌, ◌<◌, ◌≤◌, List, [], ◌∷◌, ◌++◌, Option, Some, None, refl, zero, suc, length, get_or, sym, ◌∙◌, ap, subst, inl, inr, arith, true, false, Bool}
use Rattle.std.specs.Prelude.{IfSome, IsTrue, ◌↔◌}
use Rattle.std.specs.List.{flat_map, AllByRecursion, Contains}
use Rattle.std.proofs.lemmas.Bool.{cases_eq, cases_lt}
use Rattle.std.proofs.lemmas.List.{append-nil, append_assoc}
use Rattle.std.proofs.lemmas.List.Concat.{flat_map-append}
use Rattle.std.proofs.lemmas.List.Elements.{All-contains, All-from_recursion, Contains-append_left, Contains-append_right, Contains-append_cases}
use Rattle.slab.specs.Slab.{Slab, get}
use Rattle.link_world.specs.declared.note.Note.{Note}
use Rattle.link_world.specs.declared.note.EndCause.{EndCause}
use Rattle.link_world.specs.declared.note.EndCause.TheVariants.{Stopped}
use Rattle.link_world.specs.Log.{Event, LinkEvent, IsFresh, history_of, failures_of, notes, note_by}
use Rattle.link_world.specs.Seen.{Seen}
use Rattle.link_world.specs.Lately.{Lately}
use Rattle.conversation.specs.Plans.{Plan}
use Rattle.conversation.specs.Steps.{Step, history, failures, pins, pins_by, stops, stops_by, IsNew}
use Rattle.conversation.specs.Served.{Served, end_note}
use Rattle.conn_machine.specs.Reached.{Reached, IsUnended, IsRequestNote, IsFinished}
use Rattle.conn_machine.specs.declared.conn.Conn.{Conn}
use Rattle.conn_machine.specs.declared.parts.Client.{Client}
use Rattle.desk.specs.Desks.{Desk, Grew}
use Rattle.conn_service.specs.Moments.{moment, Stands, IsElse, IsReady, Owns}
use Rattle.conn_service.specs.Arrivals.{arrivals, arrival_by}
use Rattle.conn_service.specs.Went.{Went, Lost, IsServing, extended}
use Rattle.worker_loop.specs.Owned.{AreApart, TellsAll, Shows, HaveCome, Tracks, put}
use Rattle.worker_loop.specs.Runs.{Attends, Runs, Stopping, IsServedApart, EndsServedApart, EndsServed, Unasked}
use Rattle.worker_loop.specs.Settled.{EndsOnly}
use Rattle.worker_loop.specs.Met.{IsSomebodys, IsClient, NotesOfClients}
use Rattle.worker_loop.proofs.Lists.{true_or_false, all_both, none_in_neither, none_is, contains_none, extended_twice, extended_none, told_step, told_both, told_back, told_then, told_all, told_each, history-append, failures-append, steps-append, faults-append, new_none, new_both, grew_all, grew_none}
use Rattle.conversation.specs.Served.{AreDistinct}
use Rattle.worker_loop.specs.Named.{links_by, named_by, named, NamesDistinct, NamesApart}
use Rattle.worker_loop.proofs.Distincts.{named_on, named_mute, names_distinct, names_told, names_both, names_once}
use Rattle.worker_loop.proofs.Frames.{IsBlank, blank_fresh, Passed, Grows, apart_sym, apart_none, put_same, put_other, have_come, client_told, back_told, tracks_kept, served_weaker, stopping_later, apart_next, over_kept, over_quiet}

-- all but one key have what they had
abbrev pub Others : Slab Conn → Slab Conn → ℕ → Type 0
Others old new key = (k : ℕ) → k ≢ key → get new k ≡ get old k

-- what serving a connection means to a run
pub record Moved (stopping : Type 0) (now new : Seen) (f g : List Plan) (c d : Conn) : Type 0 where
  pub ran : List Event
  pub did : List Step
  pub log : new.log ≡ extended now.log ran
  pub shows : (l : ℕ) → history l did ≡ history_of l ran
  pub fails : (l : ℕ) → failures l did ≡ failures_of l ran
  pub serving : AllByRecursion (IsServing now.now) ran
  pub clock : new.now ≡ now.now
  pub fresh : (l : ℕ) → now.come l ≡ false → IsNew l did ⊎ IfSome now.log (IsBlank l)
  pub come : (l : ℕ) → now.come l ≡ true → new.come l ≡ true
  pub unasked : new.stops ≡ now.stops
  pub waits : now.waits_failed ≤ new.waits_failed
  pub stands : (steps : List Step) → Stands now steps c → Stands new (steps ++ did) d
  pub apart : (steps : List Step) (l : ℕ) → Stands now steps c → IsElse now steps l → IsNew l did × (new.is_open l ≡ now.is_open l)
  pub noted : (l : ℕ) → l ≢ c.client.link → notes (history l did) ≡ []
  pub client : d.client ≡ c.client
  pub stopped : stops did ≢ [] → stopping
  pub grew : Grew f g
  pub held : AllByRecursion (Contains g) (pins did)

-- it is lost
abbrev pub Strayed : Type 0 → Seen → Seen → List Plan → List Plan → Conn → Type 0
Strayed stopping now new f g c = (d : Conn) × Moved stopping now new f g c d × IsUnended d

-- another's link is none of the connection's
pub unowned : {now new : Seen} {steps : List Step} {c : Conn} {l : ℕ} → Stands now steps c → IsElse now steps l → Owns now new c l → ⊥
unowned {steps = steps} t e (inl is) = client_told t.reached (subst (λ (m : ℕ). IsNew m steps) is e.quiet)
unowned {steps = steps} t e (inr (inl (at, is))) = back_told t.reached at.phase at.stage (subst (λ (m : ℕ). IsNew m steps) is e.quiet)
unowned t e (inr (inr given)) = let a = e.come in let b = given.before in let f : ⊥ = cc in f

unfoldable pub moved : {S : Type 0} {now new : Seen} {l m : Lately} {f g : Desk} {c d : Conn} → Went S (moment now l f c) (moment new m g d) → Moved S now new f.generations g.generations c d
moved {S} {now} {new} {l} {m} {f} {g} {c} {d} w = record {
  ran = w.ran;
  did = w.did;
  log = w.world.log;
  shows = w.world.shows;
  fails = w.world.failed;
  serving = w.world.serving;
  clock = w.world.now;
  fresh = λ k not. elim (true_or_false (new.come k)) [
    | inr none ↦ inl (w.world.fresh k none)
    | inl is ↦ inr (told_then now.log (IsFresh k) (IsBlank k) (blank_fresh k) (w.world.unlogged k (record { before = not; after = is })))
  ];
  come = w.world.come;
  unasked = w.world.stops;
  waits = w.world.waits_failed;
  stands = λ steps t. record {
    reached = w.conn.reached steps t;
    fresh = λ k none. new_both (t.fresh k (before k none)) (w.world.fresh k none);
  };
  apart = λ steps k t e. let still = w.world.others k (unowned t e) in (still.untold, still.is_open);
  noted = w.world.noted;
  client = w.conn.client;
  stopped = w.conn.stopped;
  grew = w.desk.grew;
  held = w.desk.held;
}
  where
    before : (k : ℕ) → new.come k ≡ false → now.come k ≡ false
    before k none = elim (true_or_false (now.come k)) [
      | inl is ↦ let e = w.world.come k is in absurd (let f : ⊥ = cc in f)
      | inr not ↦ not
    ]

pub strayed : {S : Type 0} {now new : Seen} {l m : Lately} {f g : Desk} {c : Conn} → Lost S (moment now l f c) new m g → Strayed S now new f.generations g.generations c
strayed (d, w, un) = (d, moved w, un)

-- serving a connection touches no other's links
pub went_passed : {S : Type 0} {now new : Seen} {f g : List Plan} {c d : Conn} {steps : List Step} (w : Moved S now new f g c d) → Stands now steps c → Passed now new w.ran steps
went_passed {S} {now} {new} {f} {g} {c} {d} {steps} w t = record {
  log = w.log;
  quiet = λ l is q. let none = (w.apart steps l t (record { come = is; quiet = q })).0 in (sym (w.shows l) ∙ none.quiet, sym (w.fails l) ∙ none.sound);
  still = λ l is q. (w.apart steps l t (record { come = is; quiet = q })).1;
  come = w.come;
  stops = let e = w.unasked in omega (arith, e);
  waits = w.waits;
}

pub went_grows : {S : Type 0} {now new : Seen} {f g : List Plan} {c d : Conn} {steps : List Step} (w : Moved S now new f g c d) → Stands now steps c → Grows now steps (steps ++ w.did)
went_grows {steps = steps} w t l is q = new_both q (w.apart steps l t (record { come = is; quiet = q })).0

pub went_shows : {S : Type 0} {now new : Seen} {f g : List Plan} {c d : Conn} {steps : List Step} (w : Moved S now new f g c d) → Stands now steps c → IfSome now.log (Shows steps) → IfSome new.log (Shows (steps ++ w.did))
went_shows {S} {now} {new} {f} {g} {c} {d} {steps} w t shows =
    subst (λ (o : Option (List Event)). IfSome o (Shows (steps ++ w.did))) (sym w.log)
    (told_step now.log w.ran (λ log. Shows steps log × Fresh log) (Shows (steps ++ w.did)) next
    (told_both now.log (Shows steps) Fresh shows (told_each now.log (λ l. now.come l ≡ false) (λ l. IsNew l w.did) IsBlank w.fresh)))
  where
    Fresh : List Event → Type 0
    Fresh log = (l : ℕ) → now.come l ≡ false → IsNew l w.did ⊎ IsBlank l log

    longer : (log : List Event) (l : ℕ) → TellsAll l steps log → TellsAll l (steps ++ w.did) (log ++ w.ran)
    longer log l e = record {
      events = steps-append l steps w.did ∙ ap (λ (h : List LinkEvent). h ++ history l w.did) e.events ∙ ap (λ (h : List LinkEvent). history_of l log ++ h) (w.shows l) ∙ sym (history-append l log w.ran);
      faults = faults-append l steps w.did ∙ ap (λ (h : List (Unit {0})). h ++ failures l w.did) e.faults ∙ ap (λ (h : List (Unit {0})). failures_of l log ++ h) (w.fails l) ∙ sym (failures-append l log w.ran);
    }

    next : (log : List Event) → Shows steps log × Fresh log → Shows (steps ++ w.did) (log ++ w.ran)
    next log h l = elim (h.0 l) [
      | inr e ↦ inr (longer log l e)
      | inl q ↦ elim (true_or_false (now.come l)) [
        | inl is ↦ inl (went_grows w t l is q)
        | inr not ↦ elim (h.1 l not) [
          | inl n ↦ inl (new_both q n)
          | inr none ↦ inr (longer log l (record { events = q.quiet ∙ sym none.0; faults = q.sound ∙ sym none.1 }))
        ]
      ]
    ]

pub went_held : {S : Type 0} {now new : Seen} {f g : List Plan} {c d : Conn} (steps : List Step) (w : Moved S now new f g c d) → AllByRecursion (Contains f) (pins steps) → AllByRecursion (Contains g) (pins (steps ++ w.did))
went_held {S} {now} {new} {f} {g} {c} {d} steps w held =
    subst (λ (l : List Plan). AllByRecursion (Contains g) l) (sym (flat_map-append pins_by steps w.did))
    (all_both (Contains g) (pins steps) (pins w.did) (grew_all f g (pins steps) w.grew held) w.held)

pub went_stops : {S : Type 0} {now new : Seen} {f g : List Plan} {c d : Conn} (steps : List Step) (w : Moved S now new f g c d) → stops steps ≡ [] → stops (steps ++ w.did) ≢ [] → S
went_stops {S} {now} {new} {f} {g} {c} {d} steps w unstopped some =
    ⊎_elim (λ x. absurd (x unstopped)) w.stopped
    (none_in_neither (stops steps) (stops w.did) (subst (λ (h : List (Unit {0})). h ≢ []) (flat_map-append stops_by steps w.did) some))

-- the connection itself is tracked on
pub went_tracks : {now new : Seen} {f g : List Plan} {c d : Conn} {steps : List Step} (w : Moved ⊥ now new f g c d) → IsReady new g d → d.notes.items ≡ [] → Tracks now f steps c → Tracks new g (steps ++ w.did) d
went_tracks {now} {new} {f} {g} {c} {d} {steps} w ready untold t = record {
  stands = w.stands steps t.stands;
  ready = ready;
  held = went_held steps w t.held;
  unstopped = none_is (stops (steps ++ w.did)) (went_stops steps w t.unstopped);
  shows = went_shows w t.stands t.shows;
  untold = untold;
}

-- each end that is noted in these last events is of a connection that was served
abbrev pub Here : Seen → Seen → List Plan → (ℕ → List Step) → (log ran : List Event) → Type 0
Here base new g steps log ran = (l : ℕ) (cause : EndCause) → Contains (notes (history_of l ran)) (end_note l cause) → IsServedApart base new g steps (log ++ ran) l

notes-append : (l : ℕ) (a b : List Event) → notes (history_of l (a ++ b)) ≡ notes (history_of l a) ++ notes (history_of l b)
notes-append l a b = ap notes (history-append l a b) ∙ flat_map-append note_by (history_of l a) (history_of l b)

-- a client stays one
pub client_later : (first : Slab Conn) (l : ℕ) (a b : List Event) → IsClient l first a → IsClient l first (a ++ b)
client_later first l a b (inl there) = inl there
client_later first l a b (inr came_) = inr (subst (λ (ls : List ℕ). Contains ls l) (sym (flat_map-append arrival_by a b)) (Contains-append_left (arrivals a) (arrivals b) l came_))

noted_both : (first : Slab Conn) (l : ℕ) (a b : List Event) → IsClient l first a ⊎ (notes (history_of l a) ≡ []) → IsClient l first (a ++ b) ⊎ (notes (history_of l b) ≡ []) → IsClient l first (a ++ b) ⊎ (notes (history_of l (a ++ b)) ≡ [])
noted_both first l a b (inl is) y = inl (client_later first l a b is)
noted_both first l a b (inr none) (inl is) = inl is
noted_both first l a b (inr none) (inr none') = inr (notes-append l a b ∙ ap (λ (ns : List Note). ns ++ notes (history_of l b)) none ∙ none')

-- one connection's notes are those of its client
went_noted : {S : Type 0} (first : Slab Conn) {now new : Seen} {f g : List Plan} {c d : Conn} (before : List Event) (w : Moved S now new f g c d) → IsClient c.client.link first before → (l : ℕ) → IsClient l first (before ++ w.ran) ⊎ (notes (history_of l w.ran) ≡ [])
went_noted first {c = c} before w is l = elim (cases_eq l c.client.link) [
  | inl same ↦ inl (subst (λ (m : ℕ). IsClient m first (before ++ w.ran)) (sym same) (client_later first c.client.link before w.ran is))
  | inr ne ↦ inr (ap notes (sym (w.shows l)) ∙ w.noted l ne)
]

-- what a connection names after a serving is what it named before, and what the serving's notes name
names_parts : {S : Type 0} {now new : Seen} {f g : List Plan} {c d : Conn} (w : Moved S now new f g c d) (steps : List Step)
    → flat_map links_by (notes (history d.client.link (steps ++ w.did))) ≡ flat_map links_by (notes (history c.client.link steps)) ++ named w.ran
names_parts {S} {now} {new} {f} {g} {c} {d} w steps =
    ap (λ (k : Client). flat_map links_by (notes (history k.link (steps ++ w.did)))) w.client
    ∙ ap (λ (h : List LinkEvent). flat_map links_by (notes h)) (steps-append c.client.link steps w.did)
    ∙ ap (λ (ns : List Note). flat_map links_by ns) (flat_map-append note_by (history c.client.link steps) (history c.client.link w.did))
    ∙ flat_map-append links_by (notes (history c.client.link steps)) (notes (history c.client.link w.did))
    ∙ ap (λ (ls : List ℕ). flat_map links_by (notes (history c.client.link steps)) ++ ls) (sym late)
  where
    late : named w.ran ≡ flat_map links_by (notes (history c.client.link w.did))
    late = named_on c.client.link w.ran (λ l ne. ap notes (sym (w.shows l)) ∙ w.noted l ne) ∙ ap (λ (h : List LinkEvent). flat_map links_by (notes h)) (sym (w.shows c.client.link))

-- of what the notes of a serving name its connection was told, and of that nothing is named twice
pub names_went : {S : Type 0} {now new : Seen} {f g : List Plan} {c d : Conn} {steps : List Step} (w : Moved S now new f g c d) → Stands now steps c
    → AreDistinct (flat_map links_by (notes (history c.client.link steps)) ++ named w.ran) × ((l : ℕ) → Contains (named w.ran) l → IsNew l (steps ++ w.did) → ⊥)
names_went {S} {now} {new} {f} {g} {c} {d} {steps} w t = (
  subst AreDistinct parts (names_distinct reached),
  λ l h. names_told reached l (subst (λ (ls : List ℕ). Contains ls l) (sym parts) (Contains-append_right (flat_map links_by (notes (history c.client.link steps))) (named w.ran) l h)),
)
  where
    reached : Reached (steps ++ w.did) d
    reached = (w.stands steps t).reached

    parts : flat_map links_by (notes (history d.client.link (steps ++ w.did))) ≡ flat_map links_by (notes (history c.client.link steps)) ++ named w.ran
    parts = names_parts w steps

names-append : (a b : List Event) → named (a ++ b) ≡ named a ++ named b
names-append a b = flat_map-append named_by a b

-- what a serving names is no other's
names_served : {S : Type 0} {first : Slab Conn} {base now new : Seen} {f g : List Plan} {c d : Conn} (conns conns' : Slab Conn) (key : ℕ) (next : List Step) (r : Runs first base now f conns) → get conns key ≡ Some c → (w : Moved S now new f g c d)
    → Others conns conns' key → ((l : ℕ) → Contains (named (r.ran ++ w.ran)) l → IsNew l next ⊎ ((x : Conn) → get conns' key ≡ Some x → Contains (flat_map links_by (notes (history x.client.link next))) l))
    → NamesApart new (put r.steps key next) conns' (r.ran ++ w.ran)
names_served {S} {first} {base} {now} {new} {f} {g} {c} {d} conns conns' key next r gc w others mine = record {
  distinct = subst AreDistinct (sym (names-append r.ran w.ran)) (names_both (named r.ran) (flat_map links_by (notes (history c.client.link (r.steps key)))) (named w.ran) r.names.distinct went.0 clash);
  come = λ l h. ⊎_elim (λ early. w.come l (r.names.come l early)) (λ late. come_late l late (true_or_false (new.come l))) (split l h);
  own = λ l k h. elim (cases_eq k key) [
    | inl same ↦ own_key l k same (mine l h)
    | inr ne ↦ own_other l k ne (split l h)
  ];
}
  where
    stands : Stands now (r.steps key) c
    stands = (r.attends.tracks key c gc).stands

    went : AreDistinct (flat_map links_by (notes (history c.client.link (r.steps key))) ++ named w.ran) × ((l : ℕ) → Contains (named w.ran) l → IsNew l (r.steps key ++ w.did) → ⊥)
    went = names_went w stands

    split : (l : ℕ) → Contains (named (r.ran ++ w.ran)) l → Contains (named r.ran) l ⊎ Contains (named w.ran) l
    split l h = Contains-append_cases (named r.ran) (named w.ran) l (subst (λ (ls : List ℕ). Contains ls l) (names-append r.ran w.ran) h)

    clash : (l : ℕ) → Contains (named r.ran) l → Contains (named w.ran) l → ⊥
    clash l early late = elim (r.names.own l key early) [
      | inl q ↦ went.1 l late (went_grows w stands l (r.names.come l early) q)
      | inr own ↦ names_once (flat_map links_by (notes (history c.client.link (r.steps key)))) (named w.ran) l went.0 (own c gc) late
    ]

    come_late : (l : ℕ) → Contains (named w.ran) l → (new.come l ≡ true) ⊎ (new.come l ≡ false) → new.come l ≡ true
    come_late l late (inl is) = is
    come_late l late (inr none) = absurd (went.1 l late ((w.stands (r.steps key) stands).fresh l none))

    own_key : (l k : ℕ) → k ≡ key → IsNew l next ⊎ ((x : Conn) → get conns' key ≡ Some x → Contains (flat_map links_by (notes (history x.client.link next))) l)
        → IsNew l (put r.steps key next k) ⊎ ((x : Conn) → get conns' k ≡ Some x → Contains (flat_map links_by (notes (history x.client.link (put r.steps key next k)))) l)
    own_key l k same (inl q) = inl (subst (IsNew l) (sym (put_same r.steps key next k same)) q)
    own_key l k same (inr own) = inr (λ x gx. subst (λ (s : List Step). Contains (flat_map links_by (notes (history x.client.link s))) l) (sym (put_same r.steps key next k same)) (own x (ap (get conns') (sym same) ∙ gx)))

    own_other : (l k : ℕ) → k ≢ key → Contains (named r.ran) l ⊎ Contains (named w.ran) l
        → IsNew l (put r.steps key next k) ⊎ ((x : Conn) → get conns' k ≡ Some x → Contains (flat_map links_by (notes (history x.client.link (put r.steps key next k)))) l)
    own_other l k ne (inl early) = elim (r.names.own l k early) [
      | inl q ↦ inl (subst (IsNew l) (sym (put_other r.steps key next k ne)) q)
      | inr own ↦ inr (λ x gx. subst (λ (s : List Step). Contains (flat_map links_by (notes (history x.client.link s))) l) (sym (put_other r.steps key next k ne)) (own x (sym (others k ne) ∙ gx)))
    ]
    own_other l k ne (inr late) = elim (apart_next now (went_grows w stands) (r.attends.come k) (r.attends.apart k key ne) l) [
      | inl q ↦ inl (subst (IsNew l) (sym (put_other r.steps key next k ne)) q)
      | inr q ↦ absurd (went.1 l late q)
    ]

-- nothing is named of the key's own
pub names_gone : {S : Type 0} {first : Slab Conn} {base now new : Seen} {f g : List Plan} {c d : Conn} (conns conns' : Slab Conn) (key : ℕ) (r : Runs first base now f conns) → get conns key ≡ Some c → (w : Moved S now new f g c d)
    → Others conns conns' key → NamesApart new (put r.steps key []) conns' (r.ran ++ w.ran)
names_gone conns conns' key r gc w others = names_served conns conns' key [] r gc w others (λ l h. inl new_none)

pub names_open : {S : Type 0} {first : Slab Conn} {base now new : Seen} {f g : List Plan} {c d : Conn} (conns conns' : Slab Conn) (key : ℕ) (r : Runs first base now f conns) → get conns key ≡ Some c → (w : Moved S now new f g c d)
    → get conns' key ≡ Some d → Others conns conns' key → NamesApart new (put r.steps key (r.steps key ++ w.did)) conns' (r.ran ++ w.ran)
names_open {S} {first} {base} {now} {new} {f} {g} {c} {d} conns conns' key r gc w gd others = names_served conns conns' key (r.steps key ++ w.did) r gc w others mine
  where
    stands : Stands now (r.steps key) c
    stands = (r.attends.tracks key c gc).stands

    -- the links that the connection named before and now
    parts : (x : Conn) → get conns' key ≡ Some x → flat_map links_by (notes (history x.client.link (r.steps key ++ w.did))) ≡ flat_map links_by (notes (history c.client.link (r.steps key))) ++ named w.ran
    parts x gx = let is : x ≡ d = cc in ap (λ (z : Conn). flat_map links_by (notes (history z.client.link (r.steps key ++ w.did)))) is ∙ names_parts w (r.steps key)

    mine : (l : ℕ) → Contains (named (r.ran ++ w.ran)) l → IsNew l (r.steps key ++ w.did) ⊎ ((x : Conn) → get conns' key ≡ Some x → Contains (flat_map links_by (notes (history x.client.link (r.steps key ++ w.did)))) l)
    mine l h = elim (Contains-append_cases (named r.ran) (named w.ran) l (subst (λ (ls : List ℕ). Contains ls l) (names-append r.ran w.ran) h)) [
      | inl early ↦ elim (r.names.own l key early) [
        | inl q ↦ inl (went_grows w stands l (r.names.come l early) q)
        | inr own ↦ inr (λ x gx. subst (λ (ls : List ℕ). Contains ls l) (sym (parts x gx)) (Contains-append_left (flat_map links_by (notes (history c.client.link (r.steps key)))) (named w.ran) l (own c gc)))
      ]
      | inr late ↦ inr (λ x gx. subst (λ (ls : List ℕ). Contains ls l) (sym (parts x gx)) (Contains-append_right (flat_map links_by (notes (history c.client.link (r.steps key)))) (named w.ran) l late))
    ]

-- nothing was noted
pub names_quiet : {now new : Seen} {steps : ℕ → List Step} {conns : Slab Conn} (before ran : List Event) → ((l : ℕ) → now.come l ≡ true → new.come l ≡ true) → named ran ≡ [] → NamesApart now steps conns before → NamesApart new steps conns (before ++ ran)
names_quiet {now} {new} {steps} {conns} before ran come none n = record {
  distinct = subst AreDistinct (sym same) n.distinct;
  come = λ l h. come l (n.come l (subst (λ (ls : List ℕ). Contains ls l) same h));
  own = λ l k h. n.own l k (subst (λ (ls : List ℕ). Contains ls l) same h);
}
  where
    same : named (before ++ ran) ≡ named before
    same = names-append before ran ∙ ap (λ (ls : List ℕ). named before ++ ls) none ∙ append-nil (named before)

-- a connection of one key goes on or ends, or one comes to the key
pub step_at : {first : Slab Conn} {base now new : Seen} {f g : List Plan} {ran : List Event} (conns conns' : Slab Conn) (key : ℕ) (next : List Step) (r : Runs first base now f conns)
    → Passed now new ran (r.steps key) → Grew f g → Grows now (r.steps key) next → HaveCome new next → Others conns conns' key
    → ((x : Conn) → get conns' key ≡ Some x → Tracks new g next x × IsClient x.client.link first (r.ran ++ ran))
    → ((l : ℕ) → IsClient l first (r.ran ++ ran) ⊎ (notes (history_of l ran) ≡ []))
    → NamesApart new (put r.steps key next) conns' (r.ran ++ ran)
    → IfSome base.log (λ before. Here base new g (put r.steps key next) (before ++ r.ran) ran) → Runs first base new g conns'
step_at {first} {base} {now} {new} {f} {g} {ran} conns conns' key next r p grew grows come others tracks noted names here = record {
  ran = r.ran ++ ran;
  log = p.log ∙ ap (λ (o : Option (List Event)). extended o ran) r.log ∙ extended_twice base.log r.ran ran;
  steps = put r.steps key next;
  attends = record {
    tracks = λ k x gx. elim (cases_eq k key) [
      | inl same ↦ subst (λ (s : List Step). Tracks new g s x) (sym (put_same r.steps key next k same)) (tracks x (ap (get conns') (sym same) ∙ gx)).0
      | inr ne ↦ subst (λ (s : List Step). Tracks new g s x) (sym (put_other r.steps key next k ne)) (tracks_kept p grew (r.attends.apart k key ne) (r.attends.tracks k x (sym (others k ne) ∙ gx)))
    ];
    apart = λ k j ne. elim (cases_eq k key) [
      | inl at_k ↦ elim (cases_eq j key) [
        | inl at_j ↦ absurd (ne (at_k ∙ sym at_j))
        | inr not_j ↦ apart_sym (one k j at_k not_j)
      ]
      | inr not_k ↦ elim (cases_eq j key) [
        | inl at_j ↦ one j k at_j not_k
        | inr not_j ↦ two k j not_k not_j ne
      ]
    ];
    come = λ k. elim (cases_eq k key) [
      | inl same ↦ subst (λ (s : List Step). HaveCome new s) (sym (put_same r.steps key next k same)) come
      | inr ne ↦ subst (λ (s : List Step). HaveCome new s) (sym (put_other r.steps key next k ne)) (have_come p (r.attends.come k))
    ];
  };
  over = told_then base.log (λ before. EndsServedApart base now f r.steps before r.ran × Here base new g (put r.steps key next) (before ++ r.ran) ran) (λ before. EndsServedApart base new g (put r.steps key next) before (r.ran ++ ran))
      (λ before h l cause has. subst (λ (log : List Event). IsServedApart base new g (put r.steps key next) log l) (append_assoc before r.ran ran)
      (⊎_elim (λ old. over_kept key next p grew grows (h.0 l cause old)) (λ late. h.1 l cause late)
      (Contains-append_cases (notes (history_of l r.ran)) (notes (history_of l ran)) (end_note l cause) (subst (λ (ns : List Note). Contains ns (end_note l cause)) (notes-append l r.ran ran) has))))
      (told_both base.log (λ before. EndsServedApart base now f r.steps before r.ran) (λ before. Here base new g (put r.steps key next) (before ++ r.ran) ran) r.over here);
  clients = λ k x gx. elim (cases_eq k key) [
    | inl same ↦ (tracks x (ap (get conns') (sym same) ∙ gx)).1
    | inr ne ↦ client_later first x.client.link r.ran ran (r.clients k x (sym (others k ne) ∙ gx))
  ];
  noted = λ l. noted_both first l r.ran ran (r.noted l) (noted l);
  names = names;
  stops = let a = r.stops in let b = p.stops in omega (arith, a, b);
  waits = let a = r.waits in let b = p.waits in omega (arith, a, b);
}
  where
    -- j has another key than this one
    one : (k j : ℕ) → k ≡ key → j ≢ key → AreApart (put r.steps key next j) (put r.steps key next k)
    one k j same ne =
        subst (λ (s : List Step). AreApart s (put r.steps key next k)) (sym (put_other r.steps key next j ne))
        (subst (λ (s : List Step). AreApart (r.steps j) s) (sym (put_same r.steps key next k same))
        (apart_next now grows (r.attends.come j) (r.attends.apart j key ne)))

    two : (k j : ℕ) → k ≢ key → j ≢ key → k ≢ j → AreApart (put r.steps key next k) (put r.steps key next j)
    two k j not_k not_j ne =
        subst (λ (s : List Step). AreApart s (put r.steps key next j)) (sym (put_other r.steps key next k not_k))
        (subst (λ (s : List Step). AreApart (r.steps k) s) (sym (put_other r.steps key next j not_j)) (r.attends.apart k j ne))

-- what happened was on no connection's account
pub step_quiet : {first : Slab Conn} {base now new : Seen} {g : List Plan} {ran : List Event} {conns : Slab Conn} → Passed now new ran [] → ((l : ℕ) → notes (history_of l ran) ≡ []) → Runs first base now g conns → Runs first base new g conns
step_quiet {first} {base} {now} {new} {g} {ran} {conns} p mute r = record {
  ran = r.ran ++ ran;
  log = p.log ∙ ap (λ (o : Option (List Event)). extended o ran) r.log ∙ extended_twice base.log r.ran ran;
  steps = r.steps;
  attends = record {
    tracks = λ k x gx. tracks_kept p (grew_none g) apart_none (r.attends.tracks k x gx);
    apart = r.attends.apart;
    come = λ k. have_come p (r.attends.come k);
  };
  over = told_then base.log (λ before. EndsServedApart base now g r.steps before r.ran) (λ before. EndsServedApart base new g r.steps before (r.ran ++ ran))
      (λ before ends l cause has. subst (λ (log : List Event). IsServedApart base new g r.steps log l) (append_assoc before r.ran ran)
      (over_quiet p (ends l cause (subst (λ (ns : List Note). Contains ns (end_note l cause)) (notes-append l r.ran ran ∙ ap (λ (ns : List Note). notes (history_of l r.ran) ++ ns) (mute l) ∙ append-nil (notes (history_of l r.ran))) has))))
      r.over;
  clients = λ k x gx. client_later first x.client.link r.ran ran (r.clients k x gx);
  noted = λ l. noted_both first l r.ran ran (r.noted l) (inr (mute l));
  names = names_quiet r.ran ran p.come (named_mute ran mute) r.names;
  stops = let a = r.stops in let b = p.stops in omega (arith, a, b);
  waits = let a = r.waits in let b = p.waits in omega (arith, a, b);
}

-- the end of a connection of which none was noted isn't among its last notes
unended_here : {S : Type 0} {base now new : Seen} {f g : List Plan} {c d : Conn} {steps : List Step} (all : ℕ → List Step) (log : List Event) (w : Moved S now new f g c d) → Stands now steps c → IsUnended d → Here base new g all log w.ran
unended_here {S} {base} {now} {new} {f} {g} {c} {d} {steps} all log w t unended l cause has = absurd (elim (cases_eq l c.client.link) [
  | inl same ↦
      let whole : AllByRecursion IsRequestNote (notes (history d.client.link (steps ++ w.did))) = unended (steps ++ w.did) (w.stands steps t).reached in
      let late : Contains (notes (history l w.did)) (end_note l cause) = subst (λ (h : List LinkEvent). Contains (notes h) (end_note l cause)) (sym (w.shows l)) has in
      let behind : Contains (notes (history l (steps ++ w.did))) (end_note l cause) =
      subst (λ (ns : List Note). Contains ns (end_note l cause)) (sym (ap notes (steps-append l steps w.did) ∙ flat_map-append note_by (history l steps) (history l w.did)))
      (Contains-append_right (notes (history l steps)) (notes (history l w.did)) (end_note l cause) late) in
      let at : l ≡ d.client.link = same ∙ ap (λ (k : Client). k.link) (sym w.client) in
      All-contains IsRequestNote (notes (history l (steps ++ w.did))) (end_note l cause)
      (All-from_recursion IsRequestNote (notes (history l (steps ++ w.did))) (subst (λ (m : ℕ). AllByRecursion IsRequestNote (notes (history m (steps ++ w.did)))) (sym at) whole)) behind
  | inr ne ↦ contains_none (end_note l cause) (subst (λ (ns : List Note). Contains ns (end_note l cause)) (ap notes (sym (w.shows l)) ∙ w.noted l ne) has)
])

-- the connection goes on
pub step_open : {first : Slab Conn} {base now new : Seen} {f g : List Plan} {c d : Conn} (conns conns' : Slab Conn) (key : ℕ) → get conns key ≡ Some c → Moved ⊥ now new f g c d → IsUnended d → IsReady new g d → d.notes.items ≡ [] → get conns' key ≡ Some d → Others conns conns' key → Runs first base now f conns → Runs first base new g conns'
step_open {first} {base} {now} {new} {f} {g} {c} {d} conns conns' key gc w unended ready untold gd others r =
    let t = r.attends.tracks key c gc in
    step_at conns conns' key (r.steps key ++ w.did) r (went_passed w t.stands) w.grew (went_grows w t.stands) (w.stands (r.steps key) t.stands).fresh others
    (λ x gx. let is : d ≡ x = cc in subst (λ (z : Conn). Tracks new g (r.steps key ++ w.did) z × IsClient z.client.link first (r.ran ++ w.ran)) is
    (went_tracks w ready untold t, subst (λ (k : Client). IsClient k.link first (r.ran ++ w.ran)) (sym w.client) (client_later first c.client.link r.ran w.ran (r.clients key c gc))))
    (went_noted first r.ran w (r.clients key c gc)) (names_open conns conns' key r gc w gd others)
    (told_all base.log (λ before. Here base new g (put r.steps key (r.steps key ++ w.did)) (before ++ r.ran) w.ran) (λ before. unended_here (put r.steps key (r.steps key ++ w.did)) (before ++ r.ran) w t.stands unended))

none_tracked : {new : Seen} {g : List Plan} {steps : List Step} (first : Slab Conn) (ran : List Event) (conns' : Slab Conn) (key : ℕ) → get conns' key ≡ None → (x : Conn) → get conns' key ≡ Some x → Tracks new g steps x × IsClient x.client.link first ran
none_tracked first ran conns' key gone x gx = absurd (let f : ⊥ = cc in f)

-- the connection is dropped before an end of it was noted
pub step_gone : {first : Slab Conn} {S : Type 0} {base now new : Seen} {f g : List Plan} {c d : Conn} (conns conns' : Slab Conn) (key : ℕ) → get conns key ≡ Some c → Moved S now new f g c d → IsUnended d → get conns' key ≡ None → Others conns conns' key → Runs first base now f conns → Runs first base new g conns'
step_gone {first} {S} {base} {now} {new} {f} {g} {c} {d} conns conns' key gc w unended gone others r =
    let t = r.attends.tracks key c gc in
    step_at conns conns' key [] r (went_passed w t.stands) w.grew (λ l is q. new_none) (λ l not. new_none) others
    (none_tracked first (r.ran ++ w.ran) conns' key gone)
    (went_noted first r.ran w (r.clients key c gc)) (names_gone conns conns' key r gc w others)
    (told_all base.log (λ before. Here base new g (put r.steps key []) (before ++ r.ran) w.ran) (λ before. unended_here (put r.steps key []) (before ++ r.ran) w t.stands unended))

pub step_lost : {first : Slab Conn} {S : Type 0} {base now new : Seen} {f g : List Plan} {c : Conn} (conns conns' : Slab Conn) (key : ℕ) → get conns key ≡ Some c → Strayed S now new f g c → get conns' key ≡ None → Others conns conns' key → Runs first base now f conns → Runs first base new g conns'
step_lost conns conns' key gc (d, w, un) gone others r = step_gone conns conns' key gc w un gone others r

-- what a finished machine says of any steps that it was told
abbrev pub SaysServed : Conn → Type 0
SaysServed d = (steps : List Step) (plans : List Plan) → Reached steps d → AllByRecursion (Contains plans) (pins steps)
    → Served plans d.client.link d.client.entry d.client.peer steps (failures d.client.link steps ≢ []) (stops steps ≢ [])

-- the connection ended
pub step_over : {first : Slab Conn} {S : Type 0} {base now new : Seen} {f g : List Plan} {c d : Conn} (conns conns' : Slab Conn) (key : ℕ) → get conns key ≡ Some c → Moved S now new f g c d → (S → Stopping base new) → SaysServed d → get conns' key ≡ None → Others conns conns' key → Runs first base now f conns → Runs first base new g conns'
step_over {first} {S} {base} {now} {new} {f} {g} {c} {d} conns conns' key gc w stopping says gone others r =
    let t = r.attends.tracks key c gc in
    step_at conns conns' key [] r (went_passed w t.stands) w.grew (λ l is q. new_none) (λ l not. new_none) others
    (none_tracked first (r.ran ++ w.ran) conns' key gone)
    (went_noted first r.ran w (r.clients key c gc)) (names_gone conns conns' key r gc w others)
    (told_then base.log (λ before. Shows (r.steps key ++ w.did) ((before ++ r.ran) ++ w.ran)) (λ before. Here base new g (put r.steps key []) (before ++ r.ran) w.ran)
    (λ before shows l cause has. elim (cases_eq l c.client.link) [
      | inl same ↦ subst (λ (m : ℕ). IsServedApart base new g (put r.steps key []) ((before ++ r.ran) ++ w.ran) m) (ap (λ (k : Client). k.link) w.client ∙ sym same) (over t ((before ++ r.ran) ++ w.ran) shows)
      | inr ne ↦ absurd (contains_none (end_note l cause) (subst (λ (ns : List Note). Contains ns (end_note l cause)) (ap notes (sym (w.shows l)) ∙ w.noted l ne) has))
    ])
    (told_then base.log (λ before. Shows (r.steps key ++ w.did) (before ++ (r.ran ++ w.ran))) (λ before. Shows (r.steps key ++ w.did) ((before ++ r.ran) ++ w.ran))
    (λ before. subst (Shows (r.steps key ++ w.did)) (sym (append_assoc before r.ran w.ran)))
    (told_back base.log (r.ran ++ w.ran) (Shows (r.steps key ++ w.did))
    (subst (λ (o : Option (List Event)). IfSome o (Shows (r.steps key ++ w.did))) (w.log ∙ ap (λ (o : Option (List Event)). extended o w.ran) r.log ∙ extended_twice base.log r.ran w.ran)
    (went_shows w t.stands t.shows)))))
  where
    over : Tracks now f (r.steps key) c → (log : List Event) → Shows (r.steps key ++ w.did) log → IsServedApart base new g (put r.steps key []) log d.client.link
    over t log shows =
        let stands : Stands new (r.steps key ++ w.did) d = w.stands (r.steps key) t.stands in
        let mine : TellsAll d.client.link (r.steps key ++ w.did) log = elim (shows d.client.link) [ inl q ↦ absurd (client_told stands.reached q) | inr e ↦ e ] in
        record {
          is_served = record {
            entry = d.client.entry;
            peer = d.client.peer;
            steps = r.steps key ++ w.did;
            served = served_weaker (grew_none g) (λ some none. some (mine.faults ∙ none)) (λ x. stopping (went_stops (r.steps key) w t.unstopped x))
                (says (r.steps key ++ w.did) g stands.reached (went_held (r.steps key) w t.held));
            client = mine;
            shows = shows;
          };
          come = stands.fresh;
          apart = λ k. elim (cases_eq k key) [
            | inl same ↦ subst (λ (s : List Step). AreApart (r.steps key ++ w.did) s) (sym (put_same r.steps key [] k same)) apart_none
            | inr ne ↦ subst (λ (s : List Step). AreApart (r.steps key ++ w.did) s) (sym (put_other r.steps key [] k ne)) (apart_sym (apart_next now (went_grows w t.stands) (r.attends.come k) (r.attends.apart k key ne)))
          ];
        }

-- a run that has just begun
pub runs_none : (now : Seen) (g : List Plan) (conns : Slab Conn) → Attends now g conns → Runs conns now now g conns
runs_none now g conns (steps, a) = record {
  ran = [];
  log = extended_none now.log;
  steps = steps;
  attends = a;
  over = told_all now.log (λ before. EndsServedApart now now g steps before []) (λ before l cause has. absurd (contains_none (end_note l cause) has));
  clients = λ k c gc. inl (k, c, gc, refl);
  noted = λ l. inr refl;
  names = record { distinct = tt; come = λ l h. absurd (contains_none l h); own = λ l k h. absurd (contains_none l h) };
  stops = omega arith;
  waits = omega arith;
}

pub runs_attends : {first : Slab Conn} {base now : Seen} {g : List Plan} {conns : Slab Conn} → Runs first base now g conns → Attends now g conns
runs_attends r = (r.steps, r.attends)

-- nothing happened
pub step_same : {first : Slab Conn} {base now new : Seen} {g : List Plan} {conns : Slab Conn} → new ≡ now → Runs first base now g conns → Runs first base new g conns
step_same {first} {base} {now} {new} {g} {conns} is r = subst (λ (s : Seen). Runs first base s g conns) (sym is) r

-- the same connections
pub step_kept : {first : Slab Conn} {base now : Seen} {g : List Plan} (conns conns' : Slab Conn) → ((k : ℕ) → get conns' k ≡ get conns k) → Runs first base now g conns → Runs first base now g conns'
step_kept {first} {base} {now} {g} conns conns' same r = record {
  ran = r.ran;
  log = r.log;
  steps = r.steps;
  attends = record { tracks = λ k x gx. r.attends.tracks k x (sym (same k) ∙ gx); apart = r.attends.apart; come = r.attends.come };
  over = r.over;
  clients = λ k x gx. r.clients k x (sym (same k) ∙ gx);
  noted = r.noted;
  names = record {
    distinct = r.names.distinct;
    come = r.names.come;
    own = λ l k h. elim (r.names.own l k h) [
      | inl q ↦ inl q
      | inr own ↦ inr (λ x gx. own x (sym (same k) ∙ gx))
    ];
  };
  stops = r.stops;
  waits = r.waits;
}

pub stopping_kept : {S : Type 0} {now new : Seen} {f g : List Plan} {c d : Conn} (base : Seen) → Moved S now new f g c d → Stopping base now → Stopping base new
stopping_kept {S} {now} {new} base w = let e = w.unasked in stopping_later now new base (omega (arith, e)) w.waits

pub stopping_lost : {S : Type 0} {now new : Seen} {f g : List Plan} {c : Conn} (base : Seen) → Strayed S now new f g c → Stopping base now → Stopping base new
stopping_lost base (d, w, un) s = stopping_kept base w s

pub lost_stops : {S : Type 0} {now new : Seen} {f g : List Plan} {c : Conn} → Strayed S now new f g c → new.stops ≡ now.stops
lost_stops (d, w, un) = w.unasked

-- what an unfinished connection is
pub unfinished : (d : Conn) {b : Bool} {P : Type 0} → (IsTrue b ↔ IsFinished d) → b ≡ false → IsFinished d ⊎ P → P
unfinished d {b} says is (inl f) = absurd (untrue b is (says.1 f))
  where
    untrue : (b : Bool) → b ≡ false → IsTrue b → ⊥
    untrue true is t = let f : ⊥ = cc in f
    untrue false is t = cc
unfinished d says is (inr p) = p

-- a desk that saw these generations
abbrev pub desk_of : List Plan → Desk
desk_of generations = record { generations = generations; pins = []; refused = 0; attended = λ number. None }

pub unasked_went : {S : Type 0} {now new : Seen} {f g : List Plan} {c d : Conn} → Moved S now new f g c d → Unasked now new
unasked_went w = (w.unasked, w.waits)

pub unasked_lost : {S : Type 0} {now new : Seen} {f g : List Plan} {c : Conn} → Strayed S now new f g c → Unasked now new
unasked_lost (d, w, un) = (w.unasked, w.waits)

pub unasked_then : (a b c : Seen) → Unasked a b → Unasked b c → Unasked a c
unasked_then a b c p q = let x = p.1 in let y = q.1 in (q.0 ∙ p.0, omega (arith, x, y))

pub unasked_none : (a : Seen) → Unasked a a
unasked_none a = (refl, omega arith)

-- the clause of a run
pub run_served : {first : Slab Conn} {base now : Seen} {g : List Plan} {conns : Slab Conn} → Runs first base now g conns → (ran : List Event) × (now.log ≡ extended base.log ran) × IfSome base.log (λ before. EndsServed base now g before ran)
run_served {first} {base} {now} {g} r = (r.ran, r.log, told_then base.log (λ before. EndsServedApart base now g r.steps before r.ran) (λ before. EndsServed base now g before r.ran) (λ before ends l cause has. (ends l cause has).is_served) r.over)

pub run_noted : {first : Slab Conn} {base now : Seen} {g : List Plan} {conns : Slab Conn} → Runs first base now g conns → NotesOfClients first base now
run_noted r = record { ran = r.ran; log = r.log; noted = r.noted }

pub run_distinct : {first : Slab Conn} {base now : Seen} {g : List Plan} {conns : Slab Conn} → Runs first base now g conns → NamesDistinct base now
run_distinct r = record { ran = r.ran; log = r.log; distinct = r.names.distinct }

-- no connection is open
pub attends_none : (now : Seen) (g : List Plan) (conns : Slab Conn) → conns.slots ≡ [] → Attends now g conns
attends_none now g conns none = (
  λ k. [],
  record {
    tracks = λ k c gc. absurd (let e : get conns k ≡ None = ap (λ (slots : List (Option Conn)). get_or slots k None) none in let f : ⊥ = cc in f);
    apart = λ k j ne. apart_none;
    come = λ k l not. new_none;
  },
)

-- the keys below one have no connection, and those past the end have none
pub gone_next : (conns conns' : Slab Conn) (key : ℕ) → ((k : ℕ) → k < key → get conns k ≡ None) → get conns' key ≡ None → Others conns conns' key → (k : ℕ) → k < key + 1 → get conns' k ≡ None
gone_next conns conns' key below gone others k lt = elim (cases_eq k key) [
  | inl same ↦ ap (get conns') same ∙ gone
  | inr ne ↦ others k ne ∙ below k (omega (arith, lt, ne))
]

pub gone_past : (conns conns' : Slab Conn) (key end : ℕ) → key < end → ((k : ℕ) → end ≤ k → get conns k ≡ None) → Others conns conns' key → (k : ℕ) → end ≤ k → get conns' k ≡ None
gone_past conns conns' key end lt past others k le = others k (λ same. omega (arith, same, le, lt)) ∙ past k le

pub gone_all : (conns : Slab Conn) (end : ℕ) → ((k : ℕ) → k < end → get conns k ≡ None) → ((k : ℕ) → end ≤ k → get conns k ≡ None) → (k : ℕ) → get conns k ≡ None
gone_all conns end below past k = elim (cases_lt k end) [ inl lt ↦ below k lt | inr le ↦ past k le ]

-- no key past the slots has a connection
pub past_slots : {X : Type 0} (xs : List (Option X)) (k : ℕ) → length xs ≤ k → get_or xs k None ≡ None
past_slots [] k le = refl
past_slots (x ∷ xs) zero le = absurd (omega arith)
past_slots (x ∷ xs) (suc k) le = past_slots xs k (omega arith)

pub none_in : (conns : Slab Conn) → conns.slots ≡ [] → (k : ℕ) → get conns k ≡ None
none_in conns none k = ap (λ (slots : List (Option Conn)). get_or slots k None) none

-- generations were published
pub attends_grew : (now : Seen) (f g : List Plan) (conns : Slab Conn) → Grew f g → Attends now f conns → Attends now g conns
attends_grew now f g conns grew (steps, a) = (
  steps,
  record {
    tracks = λ k c gc. tracks_kept still grew apart_none (a.tracks k c gc);
    apart = a.apart;
    come = a.come;
  },
)
  where
    still : Passed now now [] []
    still = record {
      log = extended_none now.log;
      quiet = λ l is q. (refl, refl);
      still = λ l is q. refl;
      come = λ l is. is;
      stops = omega arith;
      waits = omega arith;
    }

-- one connection's notes are on its client's link
pub ends_went : {S : Type 0} {now new : Seen} {f g : List Plan} {c d : Conn} (conns : Slab Conn) (key : ℕ) → get conns key ≡ Some c → (w : Moved S now new f g c d)
    → ((l : ℕ) (cause : EndCause) → Contains (notes (history_of l w.ran)) (end_note l cause) → cause ≡ Stopped) → EndsOnly now new conns
ends_went {c = c} conns key gc w causes = record {
  ran = w.ran;
  log = w.log;
  notes_on = λ l. elim (cases_eq l c.client.link) [
    | inl same ↦ inl (key, c, gc, sym same)
    | inr ne ↦ inr (ap notes (sym (w.shows l)) ∙ w.noted l ne)
  ];
  causes = causes;
}

pub ends_none : (now : Seen) (conns : Slab Conn) → EndsOnly now now conns
ends_none now conns = record { ran = []; log = extended_none now.log; notes_on = λ l. inr refl; causes = λ l cause has. absurd (contains_none (end_note l cause) has) }

-- and those of other open ones after them
pub ends_then : (a b d : Seen) (conns later : Slab Conn) → ((k : ℕ) (x : Conn) → get later k ≡ Some x → get conns k ≡ Some x) → EndsOnly a b conns → EndsOnly b d later → EndsOnly a d conns
ends_then a b d conns later within p q = record {
  ran = p.ran ++ q.ran;
  log = q.log ∙ ap (λ (o : Option (List Event)). extended o q.ran) p.log ∙ extended_twice a.log p.ran q.ran;
  notes_on = λ l. both l (p.notes_on l) (q.notes_on l);
  causes = λ l cause has. ⊎_elim (p.causes l cause) (q.causes l cause)
      (Contains-append_cases (notes (history_of l p.ran)) (notes (history_of l q.ran)) (end_note l cause) (subst (λ (ns : List Note). Contains ns (end_note l cause)) (notes-append l p.ran q.ran) has));
}
  where
    both : (l : ℕ) → IsSomebodys l conns ⊎ (notes (history_of l p.ran) ≡ []) → IsSomebodys l later ⊎ (notes (history_of l q.ran) ≡ []) → IsSomebodys l conns ⊎ (notes (history_of l (p.ran ++ q.ran)) ≡ [])
    both l (inl here) y = inl here
    both l (inr none) (inl (k, x, gx, is)) = inl (k, x, within k x gx, is)
    both l (inr none) (inr none') = inr (notes-append l p.ran q.ran ∙ ap (λ (ns : List Note). ns ++ notes (history_of l q.ran)) none ∙ none')

-- the keys from one on have what they had, and those below it nothing
pub within_kept : (conns later : Slab Conn) (key : ℕ) → ((k : ℕ) → k < key → get later k ≡ None) → ((k : ℕ) → key ≤ k → get later k ≡ get conns k) → (k : ℕ) (x : Conn) → get later k ≡ Some x → get conns k ≡ Some x
within_kept conns later key below above k x gx = elim (cases_lt k key) [
  | inl lt ↦ absurd (let e = below k lt in let f : ⊥ = cc in f)
  | inr le ↦ sym (above k le) ∙ gx
]

pub above_next : (conns later later' : Slab Conn) (key : ℕ) → ((k : ℕ) → key ≤ k → get later k ≡ get conns k) → Others later later' key → (k : ℕ) → key + 1 ≤ k → get later' k ≡ get conns k
above_next conns later later' key above others k le = others k (λ same. omega (arith, same, le)) ∙ above k (omega (arith, le))
