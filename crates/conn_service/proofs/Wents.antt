-- What serving a connection does, one step after another.
use Rattle.std.proofs.Common.{◌≡◌, ◌≢◌, ◌⊎◌, ⊎_elim, ℕ, ◌≤◌, List, [], ◌∷◌, ◌++◌, Option, Some, None, refl, sym, ◌∙◌, ap, subst, inl, inr, arith, true, false, Bool}
use Rattle.std.specs.Prelude.{Result, Ok, Err, OnErr}
use Rattle.std.specs.List.{AllByRecursion}
use Rattle.std.proofs.lemmas.List.{append-nil, append_assoc}
use Rattle.std.proofs.lemmas.List.Concat.{flat_map-append}
use Rattle.link_world.specs.Log.{Event, LinkEvent, on, dialled, noted, note_by, notes, only_if}
use Rattle.link_world.specs.Seen.{Seen, with_link_event, Faulted, Came, CloseDid}
use Rattle.link_world.specs.Lately.{Lately, OnlyAt}
use Rattle.link_world.specs.declared.note.Note.{Note}
use Rattle.desk.specs.Desks.{Desk, Grew}
use Rattle.conversation.specs.Plans.{Plan}
use Rattle.conversation.specs.Steps.{Step, happened, failed, stopped, history, failures, stops, stops_by, IsNew}
use Rattle.conversation.specs.Turns.{Turn, BackLink, IsLinkTold, IsShown}
use Rattle.conversation.specs.Served.{IfLast, IsAnswered}
use Rattle.conn_machine.specs.Reached.{Reached, IsOpen, IsNotOver, IsTold, KeepsServer, IsEnding, Waits, WantsNode, IsUnended, PhaseHolds, pending_of}
use Rattle.conn_machine.specs.Parts.{AtStage}
use Rattle.conn_machine.specs.Prompt.{IsPrompt}
use Rattle.conn_machine.specs.declared.parts.Client.{Client}
use Rattle.conn_machine.specs.declared.parts.Current.{Current}
use Rattle.conn_machine.specs.declared.parts.Phase.{Phase}
use Rattle.conn_machine.specs.declared.parts.Phase.TheVariants.{Open, Broken, Over, Told}
use Rattle.conn_machine.specs.declared.parts.Stage.{Stage}
use Rattle.conn_machine.specs.declared.parts.Stage.TheVariants as stage
use Rattle.conn_machine.specs.declared.conn.Conn.{Conn}
use Rattle.conn_service.specs.Moments.{Moment, moment, IsHeld, IsExchanging, Linked, Given, Owns, Stands, IsTracked, IsElse, IsReady}
use Rattle.conn_service.specs.Pins.{DeskWent}
use Rattle.conn_service.specs.Arrivals.{arrivals, dials}
use Rattle.conn_service.specs.Went.{extended, WorldWent, ConnWent, Went, Lost}
use Rattle.conn_service.specs.Released.{Released, IsServer}
use Rattle.conn_service.proofs.Lists.{all_weaker, none_in_neither, extended_none, new_both, no_steps, not_false, not_before, grew_below}
use Rattle.conn_service.proofs.Plainly.{is_coming, no_arrival, no_dial}
use Rattle.conn_service.proofs.Worlds.{given_more, given_later, owns_more, world_then, world_weaker, SeenAt, Alone, world_at, seen_same, seen_event, seen_fault, seen_closed, seen_came, alone_event, alone_failed, alone_closed, alone_none, only_none, same_at}
use Rattle.conn_service.proofs.Desks.{desk_then, desk_none, desk_step}

-- the steps that a connection stands at go on
pub stands_more : {s t : Seen} {steps did : List Step} {c d : Conn} → ((l : ℕ) → s.come l ≡ true → t.come l ≡ true) → ((l : ℕ) → t.come l ≡ false → IsNew l did)
    → Stands s steps c → Reached (steps ++ did) d → Stands t (steps ++ did) d
stands_more {s} {t} {steps} {did} {c} {d} come fresh h r = record {
  reached = r;
  fresh = λ l none. new_both (h.fresh l (not_before (s.come l) (t.come l) (come l) none)) (fresh l none);
}

pub stands_then : {S : Type 0} {x y : Moment} {steps : List Step} (w : Went S x y) → Stands x.seen steps x.conn → Stands y.seen (steps ++ w.did) y.conn
stands_then {S} {x} {y} {steps} w h = stands_more w.world.come w.world.fresh h (w.conn.reached steps h)

pub tracked_then : {S : Type 0} {x y : Moment} → Went S x y → IsTracked x.seen x.conn → IsTracked y.seen y.conn
tracked_then {S} {x} {y} w h = (h.0 ++ w.did, stands_then w h.1)

pub conn_then : {S : Type 0} {x y z : Moment} {da db : List Step} → ((l : ℕ) → x.seen.come l ≡ true → y.seen.come l ≡ true) → ((l : ℕ) → y.seen.come l ≡ true → z.seen.come l ≡ true)
    → ((l : ℕ) → y.seen.come l ≡ false → IsNew l da) → ConnWent S x y da → ConnWent S y z db → ConnWent S x z (da ++ db)
conn_then {S} {x} {y} {z} {da} {db} come more fresh p q = record {
  reached = λ steps h. subst (λ (l : List Step). Reached l z.conn) (append_assoc steps da db) (q.reached (steps ++ da) (stands_more come fresh h (p.reached steps h)));
  client = q.client ∙ p.client;
  server = λ ex. on_server (q.server ex);
  linked = q.linked;
  stopped = λ some. ⊎_elim p.stopped q.stopped (none_in_neither (stops da) (stops db) (subst (λ (l : List (Unit {0})). l ≢ []) (flat_map-append stops_by da db) some));
}
  where
    on_server : (IsExchanging y.conn × (z.conn.current.link ≡ y.conn.current.link)) ⊎ Given y.seen z.seen z.conn.current.link
        → (IsExchanging x.conn × (z.conn.current.link ≡ x.conn.current.link)) ⊎ Given x.seen z.seen z.conn.current.link
    on_server (inl (ex, is)) = before (p.server ex)
      where
        before : (IsExchanging x.conn × (y.conn.current.link ≡ x.conn.current.link)) ⊎ Given x.seen y.seen y.conn.current.link
            → (IsExchanging x.conn × (z.conn.current.link ≡ x.conn.current.link)) ⊎ Given x.seen z.seen z.conn.current.link
        before (inl (old, was)) = inl (old, is ∙ was)
        before (inr g) = inr (subst (λ (n : ℕ). Given x.seen z.seen n) (sym is) (given_more more g))
    on_server (inr g) = inr (given_later come g)

-- what a connection owns later it owned
pub owns_later : {S : Type 0} {x y : Moment} {u : Seen} {da : List Step} (l : ℕ) → ((l : ℕ) → x.seen.come l ≡ true → y.seen.come l ≡ true) → ((l : ℕ) → y.seen.come l ≡ true → u.come l ≡ true)
    → ConnWent S x y da → Owns y.seen u y.conn l → Owns x.seen u x.conn l
owns_later {S} {x} {y} {u} {da} l come more p (inl is) = inl (is ∙ ap (λ (k : Client). k.link) p.client)
owns_later {S} {x} {y} {u} {da} l come more p (inr (inl (ex, is))) = by (p.server ex)
  where
    by : (IsExchanging x.conn × (y.conn.current.link ≡ x.conn.current.link)) ⊎ Given x.seen y.seen y.conn.current.link → Owns x.seen u x.conn l
    by (inl (old, was)) = inr (inl (old, is ∙ was))
    by (inr g) = inr (inr (subst (λ (n : ℕ). Given x.seen u n) (sym is) (given_more more g)))
owns_later {S} {x} {y} {u} {da} l come more p (inr (inr g)) = inr (inr (given_later come g))

-- and then what is done on some links
pub went_join : {S : Type 0} {x y z : Moment} {ran : List Event} {did : List Step} (Q : ℕ → Type 0) (a : Went S x y) → WorldWent Q y z ran did → ((l : ℕ) → Q l → Owns x.seen z.seen x.conn l)
    → ConnWent S y z did → DeskWent y.desk z.desk y.conn.current.number z.conn.current.number did → Went S x z
went_join {S} {x} {y} {z} {ran} {did} Q a world owned conn desk = record {
  ran = a.ran ++ ran;
  did = a.did ++ did;
  world = world_then (Owns x.seen y.seen x.conn) Q (Owns x.seen z.seen x.conn) a.conn.client (λ l o. owns_more world.come o) owned a.world world;
  conn = conn_then a.world.come world.come a.world.fresh a.conn conn;
  desk = desk_then a.desk desk;
}

-- one after another
pub went_then : {S : Type 0} {x y z : Moment} → Went S x y → Went S y z → Went S x z
went_then {S} {x} {y} {z} a b = went_join (Owns y.seen z.seen y.conn) a b.world (λ l o. owns_later l a.world.come b.world.come a.conn o) b.conn b.desk

pub went_weaker : {S T : Type 0} {x y : Moment} → (S → T) → Went S x y → Went T x y
went_weaker {S} {T} {x} {y} k w = record {
  ran = w.ran;
  did = w.did;
  world = w.world;
  conn = record { reached = w.conn.reached; client = w.conn.client; server = w.conn.server; linked = w.conn.linked; stopped = λ some. k (w.conn.stopped some) };
  desk = w.desk;
}

-- a call of the machine keeps its client and its server's link, and the number of its last pin
pub record Keeps (c d : Conn) : Type 0 where
  pub opened : d.phase ≡ Open → c.phase ≡ Open
  pub client : d.client ≡ c.client
  pub server : KeepsServer c d
  pub number : d.current.number ≡ c.current.number

pub keeps_server : {c d : Conn} → d.phase ≡ c.phase → d.stage ≡ c.stage → d.current ≡ c.current → KeepsServer c d
keeps_server {c} {d} phase at current = λ ex. (record { phase = sym phase ∙ ex.phase; stage = sym at ∙ ex.stage }, ap (λ (m : Current). m.link) current)

-- where the machine has the same work
pub keeps_same : {c d : Conn} → d.client ≡ c.client → d.current ≡ c.current → d.phase ≡ c.phase → d.stage ≡ c.stage → Keeps c d
keeps_same {c} {d} client current phase at = record { opened = λ is. sym phase ∙ is; client = client; server = keeps_server phase at current; number = ap (λ (m : Current). m.number) current }

-- where it was open
pub keeps_open : {c d : Conn} → c.phase ≡ Open → d.client ≡ c.client → KeepsServer c d → d.current.number ≡ c.current.number → Keeps c d
keeps_open is client server number = record { opened = λ now. is; client = client; server = server; number = number }

-- what ends isn't open
pub not_open : (q : Phase) → IsEnding q → q ≡ Open → ⊥
not_open q end is = subst IsEnding is end

pub keeps_ending : {c d : Conn} → IsEnding d.phase → d.client ≡ c.client → d.current.number ≡ c.current.number → Keeps c d
keeps_ending {c} {d} end client number = record {
  opened = λ is. absurd (not_open d.phase end is);
  client = client;
  server = λ ex. absurd (not_open d.phase end ex.phase);
  number = number;
}

pub keeps_all : (c : Conn) → Keeps c c
keeps_all c = keeps_same refl refl refl refl

pub linked_kept : {s t : Seen} {c d : Conn} → Linked s c → ((l : ℕ) → s.come l ≡ true → t.come l ≡ true) → ((l : ℕ) → s.is_open l ≡ true → t.is_open l ≡ true) → Keeps c d → Linked t d
linked_kept {s} {t} {c} {d} h come is_open keeps = record {
  come = subst (λ (k : Client). t.come k.link ≡ true) (sym keeps.client) (come c.client.link h.come);
  client = λ is. subst (λ (k : Client). t.is_open k.link ≡ true) (sym keeps.client) (is_open c.client.link (h.client (keeps.opened is)));
  server = λ ex. let k = keeps.server ex in let g = h.server k.0 in
      subst (λ (n : ℕ). IsHeld t n) (sym k.1) (record { come = come c.current.link g.come; is_open = is_open c.current.link g.is_open });
  apart = λ ex same. let k = keeps.server ex in h.apart k.0 (sym k.1 ∙ same ∙ ap (λ (l : Client). l.link) keeps.client);
}

-- the links of an open world stay in order
pub linked_still : {s : Seen} {c d : Conn} → Linked s c → Keeps c d → Linked s d
linked_still h keeps = linked_kept h (λ l is. is) (λ l is. is) keeps

-- one step of the world on one link that was given before, and of the machine
pub went_step : {S : Type 0} {link : ℕ} {s t : Seen} {l m : Lately} {f : Desk} {c d : Conn} {ran : List Event} {did : List Step}
    → Linked s c → Keeps c d → ((k : ℕ) → k ≡ link → Owns s t c k) → s.come link ≡ true → SeenAt link s t → ((k : ℕ) → s.is_open k ≡ true → t.is_open k ≡ true) → OnlyAt link l m
    → t.log ≡ extended s.log ran → Alone link c.client.link s.now ran did → arrivals ran ≡ [] → dials ran ≡ []
    → DeskWent f f c.current.number d.current.number did → ((steps : List Step) → Reached steps c → Reached (steps ++ did) d) → (stops did ≢ [] → S)
    → Went S (moment s l f c) (moment t m f d)
went_step {S} {link} {s} {t} {l} {m} {f} {c} {d} {ran} {did} linked keeps owns come seen is_open only log alone none_came none_dialled desk reached stopping = record {
  ran = ran;
  did = did;
  world = world_weaker owns (world_at (seen.come link come) seen only log alone none_came (subst (λ (ls : List ℕ). AllByRecursion (Given s t) ls) (sym none_dialled) tt) (λ g. absurd (not_false come g.before)));
  conn = record {
    reached = λ steps h. reached steps h.reached;
    client = keeps.client;
    server = λ ex. inl (keeps.server ex);
    linked = linked_kept linked seen.come is_open keeps;
    stopped = stopping;
  };
  desk = desk;
}

-- the client's link, or the server's
pub data IsOurs (s : Seen) (c : Conn) (link : ℕ) : Type 0 where
  of_client : link ≡ c.client.link → IsOurs s c link
  of_server : IsExchanging c → link ≡ c.current.link → IsOurs s c link

pub ours_owned : {s t : Seen} {c : Conn} {link : ℕ} → IsOurs s c link → (k : ℕ) → k ≡ link → Owns s t c k
ours_owned (of_client is) k same = inl (same ∙ is)
ours_owned (of_server ex is) k same = inr (inl (ex, same ∙ is))

pub ours_come : {s : Seen} {c : Conn} {link : ℕ} → Linked s c → IsOurs s c link → s.come link ≡ true
ours_come {s} {c} {link} h (of_client is) = subst (λ (n : ℕ). s.come n ≡ true) (sym is) h.come
ours_come {s} {c} {link} h (of_server ex is) = subst (λ (n : ℕ). s.come n ≡ true) (sym is) (h.server ex).come

-- an event of a link, of which the machine was told
pub went_event : {s t : Seen} {l m : Lately} {f : Desk} {c d : Conn} (link : ℕ) (e : LinkEvent) → Linked s c → IsOurs s c link → (link ≢ c.client.link → note_by e ≡ []) → is_coming e ≡ false
    → t ≡ with_link_event s link e → OnlyAt link l m → Keeps c d → ((steps : List Step) → Reached steps c → Reached (steps ++ happened link e ∷ []) d)
    → Went ⊥ (moment s l f c) (moment t m f d)
went_event {s} {t} {l} {m} {f} {c} {d} link e linked ours none other is only keeps reached =
    went_step linked keeps (ours_owned ours) (ours_come linked ours) (seen_event link (on link s.now e) is) (λ k h. ap (λ (u : Seen). u.is_open k) is ∙ h) only
    (ap (λ (u : Seen). u.log) is) (alone_event link c.client.link s.now e none) (no_arrival link s.now e other) (no_dial link s.now e other) (desk_step f (happened link e) refl refl refl refl keeps.number) reached (λ some. absurd (some refl))

-- a link failed, and the machine was told
pub went_fault : {s t : Seen} {l m : Lately} {f : Desk} {c d : Conn} (link : ℕ) → Linked s c → IsOurs s c link
    → Faulted s link t → OnlyAt link l m → Keeps c d → ((steps : List Step) → Reached steps c → Reached (steps ++ failed link ∷ []) d)
    → Went ⊥ (moment s l f c) (moment t m f d)
went_fault {s} {t} {l} {m} {f} {c} {d} link linked ours did only keeps reached =
    went_step linked keeps (ours_owned ours) (ours_come linked ours) (seen_fault did) (λ k h. ap (λ (u : Seen). u.is_open k) did.same ∙ h) only
    (ap (λ (u : Seen). u.log) did.same) (alone_failed link c.client.link s.now) refl refl (desk_step f (failed link) refl refl refl refl keeps.number) reached (λ some. absurd (some refl))

-- a link had nothing to give or no room, and the machine has the same work
pub went_quiet : {s t : Seen} {l m : Lately} {f : Desk} {c d : Conn} (link : ℕ) → Linked s c → IsOurs s c link
    → t ≡ s → OnlyAt link l m → Keeps c d → ((steps : List Step) → Reached steps c → Reached steps d)
    → Went ⊥ (moment s l f c) (moment t m f d)
went_quiet {s} {t} {l} {m} {f} {c} {d} link linked ours is only keeps reached =
    went_step linked keeps (ours_owned ours) (ours_come linked ours) (seen_same link is) (λ k h. ap (λ (u : Seen). u.is_open k) is ∙ h) only
    (ap (λ (u : Seen). u.log) is ∙ extended_none s.log) (alone_none link c.client.link s.now [] (λ k. no_steps k)) refl refl (desk_none f keeps.number)
    (λ steps r. subst (λ (x : List Step). Reached x d) (sym (append-nil steps)) (reached steps r)) (λ some. absurd (some refl))

-- nothing but the machine changed
pub went_none : {s : Seen} {l : Lately} {f : Desk} {c d : Conn} → Linked s c → Keeps c d → ((steps : List Step) → Reached steps c → Reached steps d)
    → Went ⊥ (moment s l f c) (moment s l f d)
went_none {s} {l} {f} {c} {d} linked keeps reached = went_quiet c.client.link linked (of_client refl) refl (only_none c.client.link l) keeps reached

pub went_same : {s : Seen} {l : Lately} {f : Desk} {c : Conn} → Linked s c → Went ⊥ (moment s l f c) (moment s l f c)
went_same {s} {l} {f} {c} linked = went_none linked (keeps_all c) (λ steps r. r)

-- a stop that there is a reason for
pub went_stop : {s : Seen} {l : Lately} {f : Desk} {c d : Conn} → Linked s c → Keeps c d → ((steps : List Step) → Reached steps c → Reached (steps ++ stopped ∷ []) d)
    → Went (Unit {0}) (moment s l f c) (moment s l f d)
went_stop {s} {l} {f} {c} {d} linked keeps reached =
    went_step linked keeps (ours_owned (of_client refl)) linked.come (seen_same c.client.link refl) (λ k h. h) (only_none c.client.link l)
    (extended_none s.log) (alone_none c.client.link c.client.link s.now (stopped ∷ []) (λ k. record { quiet = refl; sound = refl })) refl refl (desk_step f stopped refl refl refl refl keeps.number) reached (λ some. tt)

-- the desk and the machine alone
pub went_desk : {s : Seen} {l : Lately} {f g : Desk} {c d : Conn} {did : List Step} → Linked s c → d.client ≡ c.client → (d.phase ≡ Open → c.phase ≡ Open) → KeepsServer c d
    → ((k : ℕ) → IsNew k did) → stops did ≡ [] → DeskWent f g c.current.number d.current.number did → ((steps : List Step) → Reached steps c → Reached (steps ++ did) d)
    → Went ⊥ (moment s l f c) (moment s l g d)
went_desk {s} {l} {f} {g} {c} {d} {did} linked client opened server none unstopped desk reached = record {
  ran = [];
  did = did;
  world = record {
    log = extended_none s.log;
    shows = λ k. (none k).quiet;
    noted = λ k ne. ap notes (none k).quiet;
    failed = λ k. (none k).sound;
    serving = tt;
    none_came = refl;
    dialled = tt;
    others = λ k un. record { quiet = tt; untold = none k; come = refl; is_open = refl; faults = refl; lately = same_at k l };
    come = λ k h. h;
    fresh = λ k h. none k;
    unlogged = λ k g. absurd (not_false g.after g.before);
    shut = λ k given is. is;
    faults = λ k. omega arith;
    now = refl;
    stops = refl;
    waits_failed = omega arith;
    clocked = refl;
    no_more = refl;
  };
  conn = record {
    reached = λ steps h. reached steps h.reached;
    client = client;
    server = λ ex. inl (server ex);
    linked = linked_by;
    stopped = λ some. absurd (some unstopped);
  };
  desk = desk;
}
  where
    linked_by : Linked s d
    linked_by = record {
      come = subst (λ (k : Client). s.come k.link ≡ true) (sym client) linked.come;
      client = λ is. subst (λ (k : Client). s.is_open k.link ≡ true) (sym client) (linked.client (opened is));
      server = λ ex. let k = server ex in subst (λ (n : ℕ). IsHeld s n) (sym k.1) (linked.server k.0);
      apart = λ ex same. let k = server ex in linked.apart k.0 (sym k.1 ∙ same ∙ ap (λ (l : Client). l.link) client);
    }

-- a link was dialled, and the machine was told
pub went_dial : {s t : Seen} {l m : Lately} {f : Desk} {c d : Conn} {host : List ℕ} {port : ℕ} (link : ℕ) → Linked s c → Came s link (dialled host port) t → m ≡ l
    → c.phase ≡ Open → d.client ≡ c.client → d.current.number ≡ c.current.number → (IsExchanging d → d.current.link ≡ link)
    → ((steps : List Step) → IsNew link steps → Reached steps c → Reached (steps ++ happened link (dialled host port) ∷ []) d)
    → Went ⊥ (moment s l f c) (moment t m f d)
went_dial {s} {t} {l} {m} {f} {c} {d} {host} {port} link linked came same opened client number server reached = record {
  ran = on link s.now (dialled host port) ∷ [];
  did = happened link (dialled host port) ∷ [];
  world = world_weaker (λ k is. inr (inr (subst (λ (n : ℕ). Given s t n) (sym is) given)))
      (world_at came.come (seen_came came) (subst (λ (x : Lately). OnlyAt link l x) (sym same) (only_none link l)) (ap (λ (u : Seen). u.log) came.same)
      (alone_event link c.client.link s.now (dialled host port) (λ ne. refl)) refl (given, tt) (λ g. came.fresh));
  conn = record {
    reached = λ steps h. reached steps (h.fresh link came.not_come) h.reached;
    client = client;
    server = λ ex. inr (subst (λ (n : ℕ). Given s t n) (sym (server ex)) given);
    linked = record {
      come = subst (λ (k : Client). t.come k.link ≡ true) (sym client) (came.others_come c.client.link other ∙ linked.come);
      client = λ is. subst (λ (k : Client). t.is_open k.link ≡ true) (sym client) (came.others_open c.client.link other ∙ linked.client opened);
      server = λ ex. subst (λ (n : ℕ). IsHeld t n) (sym (server ex)) (record { come = came.come; is_open = came.is_open });
      apart = λ ex is. other (sym (sym (server ex) ∙ is ∙ ap (λ (k : Client). k.link) client));
    };
    stopped = λ some. absurd (some refl);
  };
  desk = desk_step f (happened link (dialled host port)) refl refl refl refl number;
}
  where
    given : Given s t link
    given = record { before = came.not_come; after = came.come }

    other : c.client.link ≢ link
    other is = not_false (subst (λ (n : ℕ). s.come n ≡ true) is linked.come) came.not_come

-- and then a link of it was closed, unless it was closed before
pub went_close : {S : Type 0} {x : Moment} {t u : Seen} {m n : Lately} {f : Desk} {d : Conn} (link : ℕ) (a : Went S x (moment t m f d)) → Owns x.seen t x.conn link → t.come link ≡ true
    → CloseDid t link u → OnlyAt link m n → (d.phase ≡ Open → d.client.link ≢ link) → (IsExchanging d → ⊥) → Went S x (moment u n f d)
went_close {S} {x} {t} {u} {m} {n} {f} {d} link a owns come did only client idle = by (t.is_open link) refl
  where
    stays : ((l : ℕ) → t.come l ≡ true → u.come l ≡ true) → (d.phase ≡ Open → u.is_open d.client.link ≡ true) → ConnWent S (moment t m f d) (moment u n f d) []
    stays kept is_open = record {
      reached = λ steps h. subst (λ (l : List Step). Reached l d) (sym (append-nil steps)) h.reached;
      client = refl;
      server = λ ex. absurd (idle ex);
      linked = record { come = kept d.client.link a.conn.linked.come; client = is_open; server = λ ex. absurd (idle ex); apart = λ ex. absurd (idle ex) };
      stopped = λ some. absurd (some refl);
    }

    by : (b : Bool) → t.is_open link ≡ b → Went S x (moment u n f d)
    by true is = let c = did.0 is in let seen : SeenAt link t u = seen_closed c in
        went_join (λ k. k ≡ link) a (world_at {f = f} {c = d} (seen.come link come) seen only (ap (λ (v : Seen). v.log) c.same) (alone_closed link d.client.link t.now) refl tt (λ g. absurd (not_false come g.before)))
        (λ k same. owns_more seen.come (subst (λ (i : ℕ). Owns x.seen t x.conn i) (sym same) owns))
        (stays seen.come (λ open_. seen.others_open d.client.link (client open_) ∙ a.conn.linked.client open_)) (desk_none f refl)
    by false is = let same_seen = did.1 is in let seen : SeenAt link t u = seen_same link same_seen in
        went_join (λ k. k ≡ link) a (world_at {f = f} {c = d} (seen.come link come) seen only (ap (λ (v : Seen). v.log) same_seen ∙ extended_none t.log) (alone_none link d.client.link t.now [] (λ k. no_steps k)) refl tt (λ g. absurd (not_false come g.before)))
        (λ k same. owns_more seen.come (subst (λ (i : ℕ). Owns x.seen t x.conn i) (sym same) owns))
        (stays seen.come (λ open_. seen.others_open d.client.link (client open_) ∙ a.conn.linked.client open_)) (desk_none f refl)

-- and then its server's link was let go
pub went_released : {S : Type 0} {x : Moment} {t u : Seen} {m n : Lately} {f : Desk} {d : Conn} (link : ℕ) (a : Went S x (moment t m f d)) → Owns x.seen t x.conn link → t.come link ≡ true
    → link ≢ x.conn.client.link → Released d link t u → OnlyAt link m n → Went S x (moment u n f d)
went_released {S} {x} {t} {u} {m} {n} {f} {d} link a owns come apart (inr (idle, did)) only = went_close link a owns come did only (λ is same. apart (sym same ∙ ap (λ (k : Client). k.link) a.conn.client)) idle
went_released {S} {x} {t} {u} {m} {n} {f} {d} link a owns come apart (inl (ex, same_seen)) only =
    let seen : SeenAt link t u = seen_same link same_seen in
    went_join (λ k. k ≡ link) a (world_at {f = f} {c = d} (seen.come link come) seen only (ap (λ (v : Seen). v.log) same_seen ∙ extended_none t.log) (alone_none link d.client.link t.now [] (λ k. no_steps k)) refl tt (λ g. absurd (not_false come g.before)))
    (λ k same. owns_more seen.come (subst (λ (i : ℕ). Owns x.seen t x.conn i) (sym same) owns))
    (record {
      reached = λ steps h. subst (λ (l : List Step). Reached l d) (sym (append-nil steps)) h.reached;
      client = refl;
      server = λ ex. inl (ex, refl);
      linked = linked_kept a.conn.linked seen.come (λ k h. ap (λ (v : Seen). v.is_open k) same_seen ∙ h) (keeps_all d);
      stopped = λ some. absurd (some refl);
    }) (desk_none f refl)

-- what was the server's link is let go
pub went_let_go : {S : Type 0} {s t u : Seen} {l m n : Lately} {f g : Desk} {c d : Conn} (link : ℕ) → Linked s c → IsServer c (Some link) → Went S (moment s l f c) (moment t m g d)
    → Released d link t u → OnlyAt link m n → Went S (moment s l f c) (moment u n g d)
went_let_go {S} {s} {t} {u} {l} {m} {n} {f} {g} {c} {d} link linked server a released only =
    went_released link a (inr (inl (server.0, server.1))) (a.world.come link (subst (λ (i : ℕ). s.come i ≡ true) (sym server.1) (linked.server server.0).come))
    (λ same. linked.apart server.0 (sym server.1 ∙ same)) released only

-- a note was told
pub went_note : {s t : Seen} {l m : Lately} {f : Desk} {c d : Conn} (note : Note) → Linked s c → note.link ≡ c.client.link → t ≡ with_link_event s note.link (noted note) → m ≡ l → Keeps c d
    → ((steps : List Step) → Reached steps c → Reached (steps ++ happened c.client.link (noted note) ∷ []) d) → Went ⊥ (moment s l f c) (moment t m f d)
went_note {s} {t} {l} {m} {f} {c} {d} note linked of is same keeps reached =
    went_event c.client.link (noted note) linked (of_client refl) (λ ne. absurd (ne refl)) refl (subst (λ (i : ℕ). t ≡ with_link_event s i (noted note)) of is)
    (subst (λ (x : Lately). OnlyAt c.client.link l x) (sym same) (only_none c.client.link l)) keeps reached

-- the note was refused
pub went_unnoted : {S : Type 0} {x : Moment} {t u : Seen} {m : Lately} {f : Desk} {d : Conn} {k : ℕ} → Went S x (moment t m f d) → t.waits_failed ≤ k → u ≡ record t { waits_failed = k } → Went S x (moment u m f d)
went_unnoted {S} {x} {t} {u} {m} {f} {d} {k} w more is = subst (λ (v : Seen). Went S x (moment v m f d)) (sym is) (record {
  ran = w.ran;
  did = w.did;
  world = record {
    log = w.world.log;
    shows = w.world.shows;
    noted = w.world.noted;
    failed = w.world.failed;
    serving = w.world.serving;
    none_came = w.world.none_came;
    dialled = all_weaker (Given x.seen t) (Given x.seen (record t { waits_failed = k })) (dials w.ran) (λ l g. record { before = g.before; after = g.after }) w.world.dialled;
    others = λ l un. let s = w.world.others l (λ o. un (owns_more (λ n h. h) o)) in record { quiet = s.quiet; untold = s.untold; come = s.come; is_open = s.is_open; faults = s.faults; lately = s.lately };
    come = w.world.come;
    fresh = w.world.fresh;
    unlogged = λ l g. w.world.unlogged l (record { before = g.before; after = g.after });
    shut = w.world.shut;
    faults = w.world.faults;
    now = w.world.now;
    stops = w.world.stops;
    waits_failed = omega (arith, w.world.waits_failed, more);
    clocked = w.world.clocked;
    no_more = w.world.no_more;
  };
  conn = record {
    reached = w.conn.reached;
    client = w.conn.client;
    server = λ ex. on_server (w.conn.server ex);
    linked = record { come = w.conn.linked.come; client = w.conn.linked.client; server = λ ex. let g = w.conn.linked.server ex in record { come = g.come; is_open = g.is_open }; apart = w.conn.linked.apart };
    stopped = w.conn.stopped;
  };
  desk = w.desk;
})
  where
    on_server : (IsExchanging x.conn × (d.current.link ≡ x.conn.current.link)) ⊎ Given x.seen t d.current.link
        → (IsExchanging x.conn × (d.current.link ≡ x.conn.current.link)) ⊎ Given x.seen (record t { waits_failed = k }) d.current.link
    on_server (inl h) = inl h
    on_server (inr g) = inr (record { before = g.before; after = g.after })

-- lost after it went there
pub lost_then : {S : Type 0} {x y : Moment} {s : Seen} {l : Lately} {g : Desk} → Went S x y → Lost S y s l g → Lost S x s l g
lost_then a (d, b, un) = (d, went_then a b, un)

pub lost_weaker : {S T : Type 0} {x : Moment} {s : Seen} {l : Lately} {g : Desk} → (S → T) → Lost S x s l g → Lost T x s l g
lost_weaker k (d, w, un) = (d, went_weaker k w, un)

-- what holds, holds at an error
pub at_err : {T E P : Type 0} (r : Result T E) → P → OnErr r P
at_err (Ok x) p = tt
at_err (Err e) p = p

-- a connection was told something of its client's link, and of its server's
pub told_client : {steps : List Step} {c : Conn} → Reached steps c → IsNew c.client.link steps → ⊥
told_client {steps} {c} r none = let a = r.kept.holds.arrived in cut (sym none.quiet ∙ a.1)
  where
    cut : {A : Type 0} {a : A} {rest : List A} → [] ≡ a ∷ rest → ⊥
    cut e = cc

pub told_server : {steps : List Step} {c : Conn} → Reached steps c → IsExchanging c → IsNew c.current.link steps → ⊥
told_server {steps} {c} r ex none = told (subst (λ (q : Phase). PhaseHolds q steps c r.done r.last r.rest r.left r.kept.next) ex.phase r.phase)
  where
    told : PhaseHolds Open steps c r.done r.last r.rest r.left r.kept.next → ⊥
    told h = at (subst (λ (q : Stage). AtStage q c.client c.current c.input.items (pending_of c) r.done r.last r.rest) ex.stage h.3)
      where
        at : AtStage stage.Exchange c.client c.current c.input.items (pending_of c) r.done r.last r.rest → ⊥
        at turn = shown (subst (λ (o : Option Turn). IfLast (IsAnswered steps c.client.entry c.client.peer) o) turn.last_is r.kept.sound.one).shown
          where
            cut : {A : Type 0} {a : A} {rest : List A} → [] ≡ a ∷ rest → ⊥
            cut e = cc

            shown : IsShown steps turn.turn → ⊥
            shown s = let t = subst (λ (o : Option BackLink). IsLinkTold steps o) turn.holds.sent.back s in
                cut (sym none.quiet ∙ ap (λ (n : ℕ). history n steps) (sym turn.holds.number) ∙ t.events ∙ t.opened)

-- a link that came, and of which its steps tell nothing, isn't its own
pub unowned : {s t : Seen} {steps : List Step} {c : Conn} {l : ℕ} → Stands s steps c → IsElse s steps l → Owns s t c l → ⊥
unowned {s} {t} {steps} {c} {l} h other (inl is) = told_client h.reached (subst (λ (n : ℕ). IsNew n steps) is other.quiet)
unowned {s} {t} {steps} {c} {l} h other (inr (inl (ex, is))) = told_server h.reached ex (subst (λ (n : ℕ). IsNew n steps) is other.quiet)
unowned {s} {t} {steps} {c} {l} h other (inr (inr g)) = not_false other.come g.before

-- a connection stays ready where its links stay open
pub ready_kept : {s t : Seen} {f g : List Plan} {c : Conn} → IsReady s f c → Grew f g → ((l : ℕ) → s.come l ≡ true → t.come l ≡ true)
    → t.is_open c.client.link ≡ true → (IsExchanging c → t.is_open c.current.link ≡ true) → IsReady t g c
ready_kept {s} {t} {f} {g} {c} h grew come client server = record {
  is_open = h.is_open;
  prompt = h.prompt;
  linked = record {
    come = come c.client.link h.linked.come;
    client = λ is. client;
    server = λ ex. record { come = come c.current.link (h.linked.server ex).come; is_open = server ex };
    apart = h.linked.apart;
  };
  below = grew_below f g c.current.number grew h.below;
}

-- a machine that waits at another stage is in no exchange
pub idle_at : {at : Stage} {c d : Conn} → Waits at d → (at ≡ stage.Exchange → ⊥) → KeepsServer c d
idle_at {at} {c} {d} waits other = λ ex. absurd (other (sym waits.stage ∙ ex.stage))

pub waits_still : {at : Stage} {c d : Conn} → d.phase ≡ c.phase → d.stage ≡ c.stage → Waits at c → Waits at d
waits_still phase at waits = record { phase = phase ∙ waits.phase; stage = at ∙ waits.stage }

pub wants_still : (c d : Conn) {node : ℕ} → d.current ≡ c.current → WantsNode c node → WantsNode d node
wants_still c d current wants = λ a is. wants a (ap (λ (m : Current). m.aim) (sym current) ∙ is)

-- no more steps were told
pub reached_still : {c d : Conn} → ((steps : List Step) → Reached steps c → Reached steps d) → (steps : List Step) → Reached steps c → Reached (steps ++ []) d
reached_still {c} {d} f steps r = subst (λ (l : List Step). Reached l d) (sym (append-nil steps)) (f steps r)

pub ending_from : {p q : Phase} → p ≡ q → IsEnding q → IsEnding p
ending_from is end = subst IsEnding (sym is) end

-- one that ends is in no exchange, and waits for nothing
pub server_from : {c d : Conn} → IsEnding d.phase → KeepsServer c d
server_from {c} {d} end = λ ex. absurd (not_open d.phase end ex.phase)

pub prompt_ending : {c : Conn} → IsEnding c.phase → IsPrompt c
prompt_ending {c} end = record {
  goes_on = λ w. absurd (not_open c.phase end w.phase);
  part = λ w. absurd (not_open c.phase end w.phase);
  exchange = λ w. absurd (not_open c.phase end w.phase);
  reply = λ w. absurd (not_open c.phase end w.phase);
}

pub prompt_dial : {c : Conn} → Waits stage.Dial c → IsPrompt c
prompt_dial {c} waits = record {
  goes_on = λ w. absurd (other stage.Head w (λ e. cc));
  part = λ w. absurd (other stage.Head w (λ e. cc));
  exchange = λ w. absurd (other stage.Exchange w (λ e. cc));
  reply = λ w. absurd (other stage.Reply w (λ e. cc));
}
  where
    other : (at : Stage) → Waits at c → (stage.Dial ≡ at → ⊥) → ⊥
    other at w ne = ne (sym waits.stage ∙ w.stage)

pub server_then : {c d e : Conn} → KeepsServer c d → KeepsServer d e → KeepsServer c e
server_then p q = λ ex. let k = q ex in let j = p k.0 in (j.0, k.1 ∙ j.1)

-- the link to the server stays it where the machine has the same work
pub serving_still : (c d : Conn) {link : ℕ} → d.phase ≡ c.phase → d.stage ≡ c.stage → d.current ≡ c.current → IsServer c (Some link) → IsServer d (Some link)
serving_still c d phase at current s = (waits_still phase at s.0, s.1 ∙ ap (λ (m : Current). m.link) (sym current))

pub server_given : {s : Seen} (c : Conn) {link : ℕ} → Linked s c → IsServer c (Some link) → s.is_open link ≡ true
server_given {s} c {link} linked server = subst (λ (i : ℕ). s.is_open i ≡ true) (sym server.1) (linked.server server.0).is_open

-- an event of the link to the server
pub went_server : {s t : Seen} {l m : Lately} {f : Desk} {c d : Conn} (link : ℕ) (e : LinkEvent) → Linked s c → IsServer c (Some link) → note_by e ≡ [] → is_coming e ≡ false
    → t ≡ with_link_event s link e → OnlyAt link l m → Keeps c d → ((steps : List Step) → Reached steps c → Reached (steps ++ happened c.current.link e ∷ []) d)
    → Went ⊥ (moment s l f c) (moment t m f d)
went_server {s} {t} {l} {m} {f} {c} {d} link e linked server none other is only keeps reached =
    went_event link e linked (of_server server.0 server.1) (λ ne. none) other is only keeps
    (λ steps r. subst (λ (i : ℕ). Reached (steps ++ happened i e ∷ []) d) (sym server.1) (reached steps r))

pub went_server_fault : {s t : Seen} {l m : Lately} {f : Desk} {c d : Conn} (link : ℕ) → Linked s c → IsServer c (Some link)
    → Faulted s link t → OnlyAt link l m → Keeps c d → ((steps : List Step) → Reached steps c → Reached (steps ++ failed c.current.link ∷ []) d)
    → Went ⊥ (moment s l f c) (moment t m f d)
went_server_fault {s} {t} {l} {m} {f} {c} {d} link linked server fault only keeps reached =
    went_fault link linked (of_server server.0 server.1) fault only keeps
    (λ steps r. subst (λ (i : ℕ). Reached (steps ++ failed i ∷ []) d) (sym server.1) (reached steps r))

-- a desk where nothing was done
unfoldable pub no_desk : Desk
no_desk = record { generations = []; pins = []; refused = 0; attended = λ n. None }

-- the world stood still
pub went_idle : {s t : Seen} {l m : Lately} {f : Desk} {c d : Conn} → Linked s c → t ≡ s → m ≡ l → Keeps c d → ((steps : List Step) → Reached steps c → Reached steps d)
    → Went ⊥ (moment s l f c) (moment t m f d)
went_idle {s} {t} {l} {m} {f} {c} {d} linked is same keeps reached =
    went_quiet c.client.link linked (of_client refl) is (subst (λ (x : Lately). OnlyAt c.client.link l x) (sym same) (only_none c.client.link l)) keeps reached

-- a note is taken from one that is open or ends
pub keeps_note : {c d : Conn} → IsOpen c ⊎ IsEnding c.phase → (IsOpen c → d ≡ record c { notes = d.notes }) → (IsEnding c.phase → IsEnding d.phase) → d.client ≡ c.client → d.current.number ≡ c.current.number → Keeps c d
keeps_note {c} {d} (inl opened) same ending client number = let is = same opened in
    keeps_same client (ap (λ (x : Conn). x.current) is) (ap (λ (x : Conn). x.phase) is) (ap (λ (x : Conn). x.stage) is)
keeps_note {c} {d} (inr end) same ending client number = keeps_ending (ending end) client number

pub still_kept : (b c : Conn) → IsOpen b ⊎ IsEnding b.phase → (IsOpen b → c ≡ record b { notes = c.notes }) → (IsEnding b.phase → IsEnding c.phase) → IsOpen c ⊎ IsEnding c.phase
still_kept b c (inl opened) same ending = inl (ap (λ (x : Conn). x.phase) (same opened) ∙ opened)
still_kept b c (inr end) same ending = inr (ending end)

pub notes_then : (b c d : Conn) → (IsOpen b → c ≡ record b { notes = c.notes }) → (IsOpen c → d ≡ record c { notes = d.notes }) → IsOpen b → d ≡ record b { notes = d.notes }
notes_then b c d p q opened = let is = p opened in q (ap (λ (x : Conn). x.phase) is ∙ opened) ∙ ap (λ (x : Conn). let y : Conn = record x { notes = d.notes } in y) is

-- a note that was refused is lost
pub lost_note : {S : Type 0} {x : Moment} {t u : Seen} {m n : Lately} {f : Desk} {d : Conn} → Went S x (moment t m f d) → (k : ℕ) × (t.waits_failed ≤ k) × (u ≡ record t { waits_failed = k }) → n ≡ m → IsUnended d → Lost S x u n f
lost_note {S} {x} {t} {u} {m} {n} {f} {d} w refused same un =
    (d, subst (λ (l : Lately). Went S x (moment u l f d)) (sym same) (went_unnoted w refused.1 refused.2), un)

pub told_of : (q : Phase) → IsEnding q → IsNotOver q → IsTold q
told_of Open end over = end
told_of Broken end over = end
told_of (Over cause) end over = over
told_of (Told cause) end over = tt

-- a client that came is ready, and stands at its coming
pub ready_new : {s t : Seen} {generations : List Plan} {e : LinkEvent} (link : ℕ) (c : Conn) → Came s link e t → c.client.link ≡ link → Waits stage.Head c → c.current.number ≡ 0 → IsPrompt c → IsReady t generations c
ready_new {s} {t} {generations} {e} link c came is waits number prompt = record {
  is_open = waits.phase;
  prompt = prompt;
  linked = record {
    come = subst (λ (i : ℕ). t.come i ≡ true) (sym is) came.come;
    client = λ opened. subst (λ (i : ℕ). t.is_open i ≡ true) (sym is) came.is_open;
    server = λ ex. absurd (idle ex);
    apart = λ ex. absurd (idle ex);
  };
  below = λ m all. subst (λ (n : ℕ). n ≤ m) (sym number) (omega arith);
}
  where
    idle : IsExchanging c → ⊥
    idle ex = let other : stage.Head ≡ stage.Exchange = sym waits.stage ∙ ex.stage in cc

pub tracked_new : {s t : Seen} {e : LinkEvent} (link : ℕ) (f : LinkEvent) (c : Conn) → Came s link e t → Reached (happened link f ∷ []) c → IsTracked t c
tracked_new {s} {t} {e} link f c came reached = (
  happened link f ∷ [],
  record {
    reached = reached;
    fresh = λ l none. let a : Alone link link 0 (on link 0 f ∷ []) (happened link f ∷ []) = alone_event link link 0 f (λ ne. absurd (ne refl)) in
        (a.quiet l (λ same. not_false (subst (λ (i : ℕ). t.come i ≡ true) (sym same) came.come) none)).1;
  },
)
