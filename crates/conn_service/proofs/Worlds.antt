-- What the world does for one connection, one step after another.
use Rattle.std.proofs.Common.{◌≡◌, ◌≢◌, ◌⊎◌, ℕ, ◌≤◌, List, [], ◌∷◌, ◌++◌, Option, refl, sym, ◌∙◌, ap, subst, inl, inr, arith, true, false, Bool}
use Rattle.std.specs.Prelude.{IfSome}
use Rattle.std.specs.List.{AllByRecursion}
use Rattle.std.proofs.lemmas.Bool.{cases_eq}
use Rattle.std.proofs.lemmas.List.{append-nil}
use Rattle.std.proofs.lemmas.List.Concat.{flat_map-append}
use Rattle.link_world.specs.Log.{Event, LinkEvent, on, failed as fault, closed, note_by, is_of, history_of, failures_of, only_if, notes, IsFresh}
use Rattle.link_world.specs.Seen.{Seen, with_event, Faulted, Came, Closed}
use Rattle.link_world.specs.Lately.{Lately, SameAt, OnlyAt}
use Rattle.desk.specs.Desks.{Desk}
use Rattle.conversation.specs.Steps.{Step, happened, failed, history, failures, IsNew}
use Rattle.conn_machine.specs.declared.conn.Conn.{Conn}
use Rattle.conn_machine.specs.declared.parts.Client.{Client}
use Rattle.conn_service.specs.Moments.{Moment, moment, Given, Owns}
use Rattle.conn_service.specs.Arrivals.{arrivals, arrival_by, dials, dial_by}
use Rattle.conn_service.specs.Went.{extended, IsServing, Still, WorldWent}
use Rattle.conn_service.proofs.Lists.{same_link, other_link, all_both, all_weaker, extended_twice, fresh_before, ran-append, faults-append, history-append, failures-append, notes-append, no_steps, new_both, not_false, not_before}

pub same_at : (link : ℕ) (l : Lately) → SameAt link l l
same_at link l = record { reads = refl; read_quiet = refl; write_quiet = refl; read_was_quiet = refl; write_was_quiet = refl }

pub same_then : {link : ℕ} {a b c : Lately} → SameAt link a b → SameAt link b c → SameAt link a c
same_then {link} {a} {b} {c} p q = record {
  reads = q.reads ∙ p.reads;
  read_quiet = q.read_quiet ∙ p.read_quiet;
  write_quiet = q.write_quiet ∙ p.write_quiet;
  read_was_quiet = q.read_was_quiet ∙ p.read_was_quiet;
  write_was_quiet = q.write_was_quiet ∙ p.write_was_quiet;
}

pub only_none : (link : ℕ) (l : Lately) → OnlyAt link l l
only_none link l = record { clocked = refl; no_more = refl; others = λ m ne. same_at m l }

pub still_then : {x y z : Moment} {a b : List Event} {da db : List Step} {link : ℕ} → Still x y a da link → Still y z b db link → Still x z (a ++ b) (da ++ db) link
still_then {x} {y} {z} {a} {b} {da} {db} {link} p q = record {
  quiet = all_both (λ e. is_of link e ≡ false) a b p.quiet q.quiet;
  untold = new_both p.untold q.untold;
  come = q.come ∙ p.come;
  is_open = q.is_open ∙ p.is_open;
  faults = q.faults ∙ p.faults;
  lately = same_then p.lately q.lately;
}

-- what is given later was given in all
pub given_more : {s t u : Seen} {link : ℕ} → ((l : ℕ) → t.come l ≡ true → u.come l ≡ true) → Given s t link → Given s u link
given_more {s} {t} {u} {link} come g = record { before = g.before; after = come link g.after }

pub given_later : {s t u : Seen} {link : ℕ} → ((l : ℕ) → s.come l ≡ true → t.come l ≡ true) → Given t u link → Given s u link
given_later {s} {t} {u} {link} come g = record { before = not_before (s.come link) (t.come link) (come link) g.before; after = g.after }

pub owns_more : {s t u : Seen} {c : Conn} {link : ℕ} → ((l : ℕ) → t.come l ≡ true → u.come l ≡ true) → Owns s t c link → Owns s u c link
owns_more {s} {t} {u} {c} {link} come (inl is) = inl is
owns_more {s} {t} {u} {c} {link} come (inr (inl server)) = inr (inl server)
owns_more {s} {t} {u} {c} {link} come (inr (inr g)) = inr (inr (given_more come g))

-- one after another
pub world_then : {x y z : Moment} {a b : List Event} {da db : List Step} (P Q R : ℕ → Type 0) → y.conn.client ≡ x.conn.client
    → ((l : ℕ) → P l → R l) → ((l : ℕ) → Q l → R l)
    → WorldWent P x y a da → WorldWent Q y z b db → WorldWent R x z (a ++ b) (da ++ db)
world_then {x} {y} {z} {a} {b} {da} {db} P Q R client first_of second_of p q = record {
  log = q.log ∙ ap (λ (o : Option (List Event)). extended o b) p.log ∙ extended_twice x.seen.log a b;
  shows = λ l. history-append l da db ∙ ap (λ (h : List LinkEvent). h ++ history l db) (p.shows l) ∙ ap (λ (h : List LinkEvent). history_of l a ++ h) (q.shows l) ∙ sym (ran-append l a b);
  noted = λ l ne. ap notes (history-append l da db) ∙ notes-append (history l da) (history l db)
      ∙ both (notes (history l da)) (notes (history l db)) (p.noted l ne) (q.noted l (λ is. ne (is ∙ ap (λ (k : Client). k.link) client)));
  failed = λ l. failures-append l da db ∙ ap (λ (h : List (Unit {0})). h ++ failures l db) (p.failed l) ∙ ap (λ (h : List (Unit {0})). failures_of l a ++ h) (q.failed l) ∙ sym (faults-append l a b);
  serving = all_both (IsServing x.seen.now) a b p.serving (subst (λ (n : ℕ). AllByRecursion (IsServing n) b) p.now q.serving);
  none_came = flat_map-append arrival_by a b ∙ both (arrivals a) (arrivals b) p.none_came q.none_came;
  dialled = subst (λ (ls : List ℕ). AllByRecursion (Given x.seen z.seen) ls) (sym (flat_map-append dial_by a b))
      (all_both (Given x.seen z.seen) (dials a) (dials b) (all_weaker (Given x.seen y.seen) (Given x.seen z.seen) (dials a) (λ l g. given_more q.come g) p.dialled)
      (all_weaker (Given y.seen z.seen) (Given x.seen z.seen) (dials b) (λ l g. given_later p.come g) q.dialled));
  others = λ l un. still_then (p.others l (λ o. un (first_of l o))) (q.others l (λ o. un (second_of l o)));
  come = λ l h. q.come l (p.come l h);
  fresh = λ l none. new_both (p.fresh l (not_before (y.seen.come l) (z.seen.come l) (q.come l) none)) (q.fresh l none);
  unlogged = λ l g. first l (y.seen.come l) refl g;
  shut = λ l given is. p.shut l given (q.shut l (p.come l given) is);
  faults = λ l. omega (arith, p.faults l, q.faults l);
  now = q.now ∙ p.now;
  stops = q.stops ∙ p.stops;
  waits_failed = omega (arith, p.waits_failed, q.waits_failed);
  clocked = q.clocked ∙ p.clocked;
  no_more = q.no_more ∙ p.no_more;
}
  where
    both : {X : Type 0} (xs ys : List X) → xs ≡ [] → ys ≡ [] → xs ++ ys ≡ []
    both xs ys e f = cc

    first : (l : ℕ) (b : Bool) → y.seen.come l ≡ b → Given x.seen z.seen l → IfSome x.seen.log (IsFresh l)
    first l true is g = p.unlogged l (record { before = g.before; after = is })
    first l false is g = fresh_before x.seen.log a l (subst (λ (o : Option (List Event)). IfSome o (IsFresh l)) p.log (q.unlogged l (record { before = is; after = g.after })))

-- by more links
pub world_weaker : {P Q : ℕ → Type 0} {x y : Moment} {a : List Event} {b : List Step} → ((k : ℕ) → P k → Q k) → WorldWent P x y a b → WorldWent Q x y a b
world_weaker {P} {Q} {x} {y} {a} {b} f w = record {
  log = w.log;
  shows = w.shows;
  noted = w.noted;
  failed = w.failed;
  serving = w.serving;
  none_came = w.none_came;
  dialled = w.dialled;
  others = λ k un. w.others k (λ p. un (f k p));
  come = w.come;
  fresh = w.fresh;
  unlogged = w.unlogged;
  shut = w.shut;
  faults = w.faults;
  now = w.now;
  stops = w.stops;
  waits_failed = w.waits_failed;
  clocked = w.clocked;
  no_more = w.no_more;
}

-- of a world, at one link alone anything changed
pub record SeenAt (link : ℕ) (s t : Seen) : Type 0 where
  pub come : (l : ℕ) → s.come l ≡ true → t.come l ≡ true
  pub others_come : (l : ℕ) → l ≢ link → t.come l ≡ s.come l
  pub others_open : (l : ℕ) → l ≢ link → t.is_open l ≡ s.is_open l
  pub shut : s.come link ≡ true → t.is_open link ≡ true → s.is_open link ≡ true
  pub others_faults : (l : ℕ) → l ≢ link → t.faults l ≡ s.faults l
  pub faults : s.faults link ≤ t.faults link
  pub now : t.now ≡ s.now
  pub stops : t.stops ≡ s.stops
  pub waits_failed : s.waits_failed ≤ t.waits_failed

-- what was done at this moment and told is of one link
pub record Alone (link client now : ℕ) (ran : List Event) (did : List Step) : Type 0 where
  pub shows : (l : ℕ) → history l did ≡ history_of l ran
  pub failed : (l : ℕ) → failures l did ≡ failures_of l ran
  pub serving : AllByRecursion (IsServing now) ran
  pub noted : (l : ℕ) → l ≢ client → notes (history l did) ≡ []
  pub quiet : (l : ℕ) → l ≢ link → IsFresh l ran × IsNew l did

-- one link of the connection alone
pub world_at : {link : ℕ} {s t : Seen} {l m : Lately} {f g : Desk} {c d : Conn} {ran : List Event} {did : List Step}
    → t.come link ≡ true → SeenAt link s t → OnlyAt link l m → t.log ≡ extended s.log ran → Alone link c.client.link s.now ran did → arrivals ran ≡ [] → AllByRecursion (Given s t) (dials ran)
    → (Given s t link → IfSome s.log (IsFresh link))
    → WorldWent (λ k. k ≡ link) (moment s l f c) (moment t m g d) ran did
world_at {link} {s} {t} {l} {m} {f} {g} {c} {d} {ran} {did} come seen only log alone none_came new_dials unlogged = record {
  log = log;
  shows = alone.shows;
  noted = alone.noted;
  failed = alone.failed;
  serving = alone.serving;
  none_came = none_came;
  dialled = new_dials;
  others = λ k un. apart k un;
  come = seen.come;
  fresh = λ k none. (alone.quiet k (λ same. not_false (subst (λ (n : ℕ). t.come n ≡ true) (sym same) come) none)).1;
  unlogged = λ k given. new_link k given (cases_eq k link);
  shut = λ k. shut_link k (cases_eq k link);
  faults = λ k. faults_link k (cases_eq k link);
  now = seen.now;
  stops = seen.stops;
  waits_failed = seen.waits_failed;
  clocked = only.clocked;
  no_more = only.no_more;
}
  where
    apart : (k : ℕ) → k ≢ link → Still (moment s l f c) (moment t m g d) ran did k
    apart k ne = record {
      quiet = (alone.quiet k ne).0;
      untold = (alone.quiet k ne).1;
      come = seen.others_come k ne;
      is_open = seen.others_open k ne;
      faults = seen.others_faults k ne;
      lately = only.others k ne;
    }

    new_link : (k : ℕ) → Given s t k → (k ≡ link) ⊎ (k ≢ link) → IfSome s.log (IsFresh k)
    new_link k given (inl same) = subst (λ (n : ℕ). IfSome s.log (IsFresh n)) (sym same) (unlogged (subst (λ (n : ℕ). Given s t n) same given))
    new_link k given (inr ne) = absurd (not_false (sym (seen.others_come k ne) ∙ given.after) given.before)

    shut_link : (k : ℕ) → (k ≡ link) ⊎ (k ≢ link) → s.come k ≡ true → t.is_open k ≡ true → s.is_open k ≡ true
    shut_link k (inl same) = subst (λ (n : ℕ). s.come n ≡ true → t.is_open n ≡ true → s.is_open n ≡ true) (sym same) seen.shut
    shut_link k (inr ne) = λ given is. sym (seen.others_open k ne) ∙ is

    faults_link : (k : ℕ) → (k ≡ link) ⊎ (k ≢ link) → s.faults k ≤ t.faults k
    faults_link k (inl same) = subst (λ (n : ℕ). s.faults n ≤ t.faults n) (sym same) seen.faults
    faults_link k (inr ne) = omega (arith, seen.others_faults k ne)

pub seen_same : (link : ℕ) {s t : Seen} → t ≡ s → SeenAt link s t
seen_same link {s} {t} is = subst (λ (u : Seen). SeenAt link s u) (sym is) (record {
  come = λ l h. h;
  others_come = λ l ne. refl;
  others_open = λ l ne. refl;
  shut = λ given is. is;
  others_faults = λ l ne. refl;
  faults = omega arith;
  now = refl;
  stops = refl;
  waits_failed = omega arith;
})

pub seen_event : (link : ℕ) (e : Event) {s t : Seen} → t ≡ with_event s e → SeenAt link s t
seen_event link e {s} {t} is = subst (λ (u : Seen). SeenAt link s u) (sym is) (record {
  come = λ l h. h;
  others_come = λ l ne. refl;
  others_open = λ l ne. refl;
  shut = λ given is. is;
  others_faults = λ l ne. refl;
  faults = omega arith;
  now = refl;
  stops = refl;
  waits_failed = omega arith;
})

pub seen_fault : {link : ℕ} {s t : Seen} → Faulted s link t → SeenAt link s t
seen_fault {link} {s} {t} f = record {
  come = λ l h. ap (λ (u : Seen). u.come l) f.same ∙ h;
  others_come = λ l ne. ap (λ (u : Seen). u.come l) f.same;
  others_open = λ l ne. ap (λ (u : Seen). u.is_open l) f.same;
  shut = λ given is. sym (ap (λ (u : Seen). u.is_open link) f.same) ∙ is;
  others_faults = f.others;
  faults = f.rose.0;
  now = ap (λ (u : Seen). u.now) f.same;
  stops = ap (λ (u : Seen). u.stops) f.same;
  waits_failed = omega (arith, ap (λ (u : Seen). u.waits_failed) f.same);
}

pub seen_closed : {link : ℕ} {s t : Seen} → Closed s link t → SeenAt link s t
seen_closed {link} {s} {t} f = record {
  come = λ l h. ap (λ (u : Seen). u.come l) f.same ∙ h;
  others_come = λ l ne. ap (λ (u : Seen). u.come l) f.same;
  others_open = f.others_open;
  shut = λ given is. absurd (not_false is f.not_open);
  others_faults = f.others;
  faults = f.later;
  now = ap (λ (u : Seen). u.now) f.same;
  stops = ap (λ (u : Seen). u.stops) f.same;
  waits_failed = omega (arith, ap (λ (u : Seen). u.waits_failed) f.same);
}

pub seen_came : {link : ℕ} {e : LinkEvent} {s t : Seen} → Came s link e t → SeenAt link s t
seen_came {link} {e} {s} {t} f = record {
  come = λ l h. came l h (cases_eq l link);
  others_come = f.others_come;
  others_open = f.others_open;
  shut = λ given is. absurd (not_false given f.not_come);
  others_faults = λ l ne. ap (λ (u : Seen). u.faults l) f.same;
  faults = omega (arith, ap (λ (u : Seen). u.faults link) f.same);
  now = ap (λ (u : Seen). u.now) f.same;
  stops = ap (λ (u : Seen). u.stops) f.same;
  waits_failed = omega (arith, ap (λ (u : Seen). u.waits_failed) f.same);
}
  where
    came : (l : ℕ) → s.come l ≡ true → (l ≡ link) ⊎ (l ≢ link) → t.come l ≡ true
    came l h (inl same) = subst (λ (n : ℕ). t.come n ≡ true) (sym same) f.come
    came l h (inr ne) = f.others_come l ne ∙ h

-- an event of the link, and the telling of it
pub alone_event : (link client now : ℕ) (e : LinkEvent) → (link ≢ client → note_by e ≡ []) → Alone link client now (on link now e ∷ []) (happened link e ∷ [])
alone_event link client now e none = record {
  shows = λ l. refl;
  failed = λ l. refl;
  serving = (refl, tt);
  noted = λ l ne. note l ne (cases_eq l link);
  quiet = λ l ne. ((other_link l link ne, tt), record { quiet = ap (λ (b : Bool). only_if b (e ∷ []) ++ []) (other_link l link ne); sound = refl });
}
  where
    note : (l : ℕ) → l ≢ client → (l ≡ link) ⊎ (l ≢ link) → notes (history l (happened link e ∷ [])) ≡ []
    note l ne (inl same) = subst (λ (n : ℕ). notes (history n (happened link e ∷ [])) ≡ []) (sym same)
        (ap (λ (b : Bool). notes (only_if b (e ∷ []) ++ [])) (same_link link) ∙ append-nil (note_by e) ∙ none (λ is. ne (same ∙ is)))
    note l ne (inr apart) = ap (λ (b : Bool). notes (only_if b (e ∷ []) ++ [])) (other_link l link apart)

pub alone_failed : (link client now : ℕ) → Alone link client now (fault link now ∷ []) (failed link ∷ [])
alone_failed link client now = record {
  shows = λ l. refl;
  failed = λ l. refl;
  serving = (refl, tt);
  noted = λ l ne. refl;
  quiet = λ l ne. ((other_link l link ne, tt), record { quiet = refl; sound = ap (λ (b : Bool). only_if b (tt ∷ []) ++ []) (other_link l link ne) });
}

pub alone_closed : (link client now : ℕ) → Alone link client now (closed link now ∷ []) []
alone_closed link client now = record {
  shows = λ l. refl;
  failed = λ l. refl;
  serving = (refl, tt);
  noted = λ l ne. refl;
  quiet = λ l ne. ((other_link l link ne, tt), no_steps l);
}

-- nothing was done, and nothing told of a link
pub alone_none : (link client now : ℕ) (did : List Step) → ((l : ℕ) → IsNew l did) → Alone link client now [] did
alone_none link client now did none = record {
  shows = λ l. (none l).quiet;
  failed = λ l. (none l).sound;
  serving = tt;
  noted = λ l ne. ap notes (none l).quiet;
  quiet = λ l ne. (tt, none l);
}
