-- Each link that is dialled is one of a request.
use Rattle.std.proofs.Common.{◌≡◌, ◌≢◌, ◌⊎◌, ℕ, ◌==◌, List, [], ◌∷◌, ◌++◌, Option, Some, None, refl, sym, ◌∙◌, ap, subst, inl, inr, arith, Bool, true, false}
use Rattle.std.specs.Prelude.{not}
use Rattle.std.specs.List.{flat_map, Contains}
use Rattle.std.proofs.lemmas.Bool.{cases_eq}
use Rattle.std.proofs.lemmas.List.{append-nil}
use Rattle.std.proofs.lemmas.List.Concat.{flat_map-append}
use Rattle.std.proofs.lemmas.List.Elements.{All-contains, All-from_recursion, Contains-append_left, Contains-append_right, Contains-append_cases}
use Rattle.link_world.specs.declared.note.Note.{Note}
use Rattle.link_world.specs.Log.{Event, LinkEvent, waited, wait_failed, clock, on, failed as fault, closed, asked, only_if, history_of, notes, note_by}
use Rattle.link_world.specs.Seen.{Seen}
use Rattle.link_world.specs.Lately.{Lately}
use Rattle.desk.specs.Desks.{Desk}
use Rattle.conversation.specs.Plans.{Plan}
use Rattle.conversation.specs.Steps.{Step, happened, failed, pinned, looked, drew, spent, ticked, stopped, history, elsewhere, elsewhere_by}
use Rattle.conversation.specs.Turns.{Turn, BackLink, links_of, IsLinkTold}
use Rattle.conversation.specs.Served.{of_last, of_all, backs_of, notes_of, IfLast, IsAnswered}
use Rattle.conn_machine.specs.Parts.{Trail, TiedBy}
use Rattle.conn_machine.specs.Reached.{Reached, PhaseHolds, IsTold, closed_by, ending_note, trail_of}
use Rattle.conn_machine.specs.declared.parts.Client.{Client}
use Rattle.conn_machine.specs.declared.parts.Current.{Current}
use Rattle.conn_machine.specs.declared.parts.Phase.{Phase}
use Rattle.conn_machine.specs.declared.parts.Phase.TheVariants.{Open, Broken, Over, Told}
use Rattle.conn_machine.specs.declared.conn.Conn.{Conn}
use Rattle.conn_service.specs.Arrivals.{is_dial, dials}
use Rattle.conn_service.specs.Moments.{moment, Given}
use Rattle.conn_service.specs.Went.{Went}
use Rattle.conn_service.proofs.Lists.{same_link, other_link, none_front, none_back, no_elements}
use Rattle.worker_loop.specs.Named.{links_by, named_by, named, links_if, open_links}
use Rattle.worker_loop.specs.Owned.{TellsAll, Tracks}

-- the one of a list of one
pub one_of : (a l : ℕ) → Contains (a ∷ []) l → l ≡ a
one_of a l h = All-contains (λ (n : ℕ). n ≡ a) (a ∷ []) l (All-from_recursion (λ (n : ℕ). n ≡ a) (a ∷ []) (refl, tt)) h

one_in : (a l : ℕ) → l ≡ a → Contains (a ∷ []) l
one_in a l is = subst (λ (n : ℕ). Contains (a ∷ []) n) (sym is) (0, omega arith, refl)

-- a link of which the steps tell is the client's or stands elsewhere
told_elsewhere : (link l : ℕ) (steps : List Step) → (history l steps ≡ [] → ⊥) → l ≢ link → Contains (elsewhere link steps) l
told_elsewhere link l [] some ne = absurd (some refl)
told_elsewhere link l (happened m e ∷ steps) some ne = by (λ later. told_elsewhere link l steps later ne) (cases_eq l m)
  where
    by : ((history l steps ≡ [] → ⊥) → Contains (elsewhere link steps) l) → (l ≡ m) ⊎ (l ≢ m) → Contains (elsewhere link (happened m e ∷ steps)) l
    by rest (inl is) = Contains-append_left (elsewhere_by link (happened m e)) (elsewhere link steps) l
        (subst (λ (b : Bool). Contains (only_if (not b) (m ∷ [])) l) (sym (other_link link m (λ same. ne (is ∙ sym same)))) (one_in m l is))
    by rest (inr other) = Contains-append_right (elsewhere_by link (happened m e)) (elsewhere link steps) l
        (rest (λ none. some (ap (λ (b : Bool). only_if b (e ∷ []) ++ history l steps) (other_link l m other) ∙ none)))
told_elsewhere link l (failed m ∷ steps) some ne = Contains-append_right (elsewhere_by link (failed m)) (elsewhere link steps) l (told_elsewhere link l steps some ne)
told_elsewhere link l (pinned p ∷ steps) some ne = told_elsewhere link l steps some ne
told_elsewhere link l (looked p ∷ steps) some ne = told_elsewhere link l steps some ne
told_elsewhere link l (drew p ∷ steps) some ne = told_elsewhere link l steps some ne
told_elsewhere link l (spent n ∷ steps) some ne = told_elsewhere link l steps some ne
told_elsewhere link l (ticked n ∷ steps) some ne = told_elsewhere link l steps some ne
told_elsewhere link l (stopped ∷ steps) some ne = told_elsewhere link l steps some ne

-- the notes of requests name their links
pub links_noted : (link : ℕ) (ts : List Turn) → flat_map links_by (flat_map (notes_of link) ts) ≡ flat_map backs_of ts
links_noted link [] = refl
links_noted link (t ∷ ts) = ap (λ (ls : List ℕ). links_of t.back ++ ls) (links_noted link ts)

last_named : (pinned : Bool) (m : Current) (trail : Trail) (link : ℕ) (last : Option Turn) → TiedBy pinned m trail last → (l : ℕ) → Contains (of_last backs_of last) l
    → Contains (flat_map links_by (closed_by pinned link last)) l ⊎ Contains (links_if pinned trail.backs) l
last_named true m trail link None tied l has = absurd tied
last_named true m trail link (Some t) tied l has = inr (subst (λ (ls : List ℕ). Contains ls l) tied.backs has)
last_named false m trail link None tied l has = absurd (no_elements l has)
last_named false m trail link (Some t) tied l has = inl (Contains-append_left (links_of t.back) [] l has)

-- a link of which the machine was told is named by a note, or is one of its request that has no note yet
told_named : {steps : List Step} {c : Conn} → Reached steps c → c.notes.items ≡ [] → (l : ℕ) → Contains (elsewhere c.client.link steps) l
    → Contains (flat_map links_by (notes (history c.client.link steps))) l ⊎ Contains (open_links c) l
told_named {steps} {c} r untold l has =
    by (Contains-append_cases (flat_map backs_of r.done) (of_last backs_of r.last) l
    (All-contains (Contains (of_all backs_of r.done r.last)) (elsewhere c.client.link steps) l (All-from_recursion (Contains (of_all backs_of r.done r.last)) (elsewhere c.client.link steps) r.kept.holds.links) has))
  where
    link : ℕ
    link = c.client.link

    front : List Note
    front = flat_map (notes_of link) r.done

    last : List Note
    last = closed_by c.current.pinned link r.last

    noted : notes (history link steps) ≡ (front ++ last) ++ ending_note link c.phase
    noted = sym (append-nil (notes (history link steps))) ∙ ap (λ (ns : List Note). notes (history link steps) ++ ns) (sym untold) ∙ r.kept.holds.noted

    whole : Contains (flat_map links_by (front ++ last)) l → Contains (flat_map links_by (notes (history link steps))) l
    whole h = subst (λ (ns : List Note). Contains (flat_map links_by ns) l) (sym noted)
        (subst (λ (ls : List ℕ). Contains ls l) (sym (flat_map-append links_by (front ++ last) (ending_note link c.phase)))
        (Contains-append_left (flat_map links_by (front ++ last)) (flat_map links_by (ending_note link c.phase)) l h))

    at : Contains (flat_map links_by last) l ⊎ Contains (open_links c) l → Contains (flat_map links_by (notes (history link steps))) l ⊎ Contains (open_links c) l
    at (inl h) = inl (whole (subst (λ (ls : List ℕ). Contains ls l) (sym (flat_map-append links_by front last)) (Contains-append_right (flat_map links_by front) (flat_map links_by last) l h)))
    at (inr h) = inr h

    by : Contains (flat_map backs_of r.done) l ⊎ Contains (of_last backs_of r.last) l → Contains (flat_map links_by (notes (history link steps))) l ⊎ Contains (open_links c) l
    by (inl h) = inl (whole (subst (λ (ls : List ℕ). Contains ls l) (sym (flat_map-append links_by front last)) (Contains-append_left (flat_map links_by front) (flat_map links_by last) l
        (subst (λ (ls : List ℕ). Contains ls l) (sym (links_noted link r.done)) h))))
    by (inr h) = at (last_named c.current.pinned c.current (trail_of c) link r.last r.kept.tied l h)

-- of a link of its request that has no note yet the machine was told
open_told : {steps : List Step} {c : Conn} → Reached steps c → (l : ℕ) → Contains (open_links c) l → Contains (elsewhere c.client.link steps) l
open_told {steps} {c} r l has = by c.current.pinned r.last r.kept.tied r.kept.sound.one has
  where
    shown : (back : Option BackLink) → IsLinkTold steps back → Contains (links_of back) l → Contains (elsewhere c.client.link steps) l
    shown None told h = absurd (no_elements l h)
    shown (Some b) told h =
        let at : l ≡ b.link = one_of b.link l h in
        let e = ap (λ (n : ℕ). history n steps) at ∙ told.events ∙ told.opened in
        told_elsewhere c.client.link l steps (λ none. let f : ⊥ = cc in f) (λ is. let a = r.kept.holds.arrived.1 in let same = ap (λ (n : ℕ). history n steps) is in let f : ⊥ = cc in f)

    by : (pinned : Bool) (last : Option Turn) → TiedBy pinned c.current (trail_of c) last → IfLast (IsAnswered steps c.client.entry c.client.peer) last
        → Contains (links_if pinned c.backs.items) l → Contains (elsewhere c.client.link steps) l
    by false last tied one h = absurd (no_elements l h)
    by true None tied one h = absurd tied
    by true (Some t) tied one h = shown t.back one.shown (subst (λ (ls : List ℕ). Contains ls l) (sym tied.backs) h)

-- what a note of the log names, the log names
noted_named : (link l : ℕ) (log : List Event) → Contains (flat_map links_by (notes (history_of link log))) l → Contains (named log) l
noted_named link l [] h = absurd (no_elements l h)
noted_named link l (waited until ∷ log) h = noted_named link l log h
noted_named link l (wait_failed until ∷ log) h = noted_named link l log h
noted_named link l (clock now ∷ log) h = noted_named link l log h
noted_named link l (fault m stamp ∷ log) h = noted_named link l log h
noted_named link l (closed m stamp ∷ log) h = noted_named link l log h
noted_named link l (asked answer ∷ log) h = noted_named link l log h
noted_named link l (on m stamp e ∷ log) h = by (λ later. noted_named link l log later) (link == m) refl
  where
    both : (Contains (flat_map links_by (notes (history_of link log))) l → Contains (named log) l) → Contains (flat_map links_by (note_by e)) l ⊎ Contains (flat_map links_by (notes (history_of link log))) l → Contains (named (on m stamp e ∷ log)) l
    both rest (inl here) = Contains-append_left (flat_map links_by (note_by e)) (named log) l here
    both rest (inr later) = Contains-append_right (flat_map links_by (note_by e)) (named log) l (rest later)

    by : (Contains (flat_map links_by (notes (history_of link log))) l → Contains (named log) l) → (b : Bool) → (link == m) ≡ b → Contains (named (on m stamp e ∷ log)) l
    by rest true is = both rest (Contains-append_cases (flat_map links_by (note_by e)) (flat_map links_by (notes (history_of link log))) l
        (subst (λ (ls : List ℕ). Contains ls l) (flat_map-append links_by (note_by e) (notes (history_of link log)))
        (subst (λ (b : Bool). Contains (flat_map links_by (notes (only_if b (e ∷ []) ++ history_of link log))) l) is h)))
    by rest false is = both rest (inr (subst (λ (b : Bool). Contains (flat_map links_by (notes (only_if b (e ∷ []) ++ history_of link log))) l) is h))

pub named_more : (log ran : List Event) (l : ℕ) → Contains (named log) l → Contains (named (log ++ ran)) l
named_more log ran l h = subst (λ (ls : List ℕ). Contains ls l) (sym (flat_map-append named_by log ran)) (Contains-append_left (named log) (named ran) l h)

-- on a link that was dialled something happened
dial_happened : (l : ℕ) (ran : List Event) → Contains (dials ran) l → history_of l ran ≡ [] → ⊥
dial_happened l [] h none = no_elements l h
dial_happened l (waited until ∷ ran) h none = dial_happened l ran h none
dial_happened l (wait_failed until ∷ ran) h none = dial_happened l ran h none
dial_happened l (clock now ∷ ran) h none = dial_happened l ran h none
dial_happened l (fault m stamp ∷ ran) h none = dial_happened l ran h none
dial_happened l (closed m stamp ∷ ran) h none = dial_happened l ran h none
dial_happened l (asked answer ∷ ran) h none = dial_happened l ran h none
dial_happened l (on m stamp e ∷ ran) h none = by (λ more. dial_happened l ran more later) (is_dial e) refl
  where
    later : history_of l ran ≡ []
    later = none_back (only_if (l == m) (e ∷ [])) (history_of l ran) none

    here : l ≡ m → ⊥
    here is =
        let front : only_if (l == m) (e ∷ []) ≡ [] = none_front (only_if (l == m) (e ∷ [])) (history_of l ran) none in
        let same : (l == m) ≡ true = subst (λ (n : ℕ). (l == n) ≡ true) is (same_link l) in
        let whole : e ∷ [] ≡ [] = sym (ap (λ (b : Bool). only_if b (e ∷ [])) same) ∙ front in
        let f : ⊥ = cc in f

    by : (Contains (dials ran) l → ⊥) → (b : Bool) → is_dial e ≡ b → ⊥
    by rest false is = rest (subst (λ (b : Bool). Contains (only_if b (m ∷ []) ++ dials ran) l) is h)
    by rest true is = elim (Contains-append_cases (m ∷ []) (dials ran) l (subst (λ (b : Bool). Contains (only_if b (m ∷ []) ++ dials ran) l) is h)) [
      | inl one ↦ here (one_of m l one)
      | inr more ↦ rest more
    ]

-- A link that was dialled while a connection was served, or was one of its request that had no note yet, is named by a
-- note of the log, or is one of its request that has no note yet.
pub goes_named : {S : Type 0} {now new : Seen} {l m : Lately} {f g : Desk} {c d : Conn} {gs : List Plan} {steps : List Step} → Tracks now gs steps c → (w : Went S (moment now l f c) (moment new m g d)) → d.notes.items ≡ []
    → (log : List Event) → TellsAll c.client.link (steps ++ w.did) log → (k : ℕ) → Contains (open_links c) k ⊎ Contains (dials w.ran) k → Contains (named log) k ⊎ Contains (open_links d) k
goes_named {S} {now} {new} {l} {m} {f} {g} {c} {d} {gs} {steps} t w untold log tells k has = elim (told_named reached untold k there) [
  | inl noted ↦ inl (noted_named c.client.link k log (subst (λ (h : List LinkEvent). Contains (flat_map links_by (notes h)) k) tells.events
      (subst (λ (x : Client). Contains (flat_map links_by (notes (history x.link (steps ++ w.did)))) k) w.conn.client noted)))
  | inr open_ ↦ inr open_
]
  where
    reached : Reached (steps ++ w.did) d
    reached = w.conn.reached steps t.stands

    parts : elsewhere c.client.link (steps ++ w.did) ≡ elsewhere c.client.link steps ++ elsewhere c.client.link w.did
    parts = flat_map-append (elsewhere_by c.client.link) steps w.did

    given : Contains (dials w.ran) k → Given now new k
    given h = All-contains (Given now new) (dials w.ran) k (All-from_recursion (Given now new) (dials w.ran) w.world.dialled) h

    among : Contains (open_links c) k ⊎ Contains (dials w.ran) k → Contains (elsewhere c.client.link steps ++ elsewhere c.client.link w.did) k
    among (inl h) = Contains-append_left (elsewhere c.client.link steps) (elsewhere c.client.link w.did) k (open_told t.stands.reached k h)
    among (inr h) = Contains-append_right (elsewhere c.client.link steps) (elsewhere c.client.link w.did) k
        (told_elsewhere c.client.link k w.did (λ none. dial_happened k w.ran h (sym (w.world.shows k) ∙ none))
        (λ is. let yes_ : now.come k ≡ true = subst (λ (n : ℕ). now.come n ≡ true) (sym is) t.ready.linked.come in let no_ = (given h).before in let f : ⊥ = cc in f))

    there : Contains (elsewhere d.client.link (steps ++ w.did)) k
    there = subst (λ (x : Client). Contains (elsewhere x.link (steps ++ w.did)) k) (sym w.conn.client)
        (subst (λ (ls : List ℕ). Contains ls k) (sym parts) (among has))

-- a finished connection has no request without a note
pub none_open : {steps : List Step} {d : Conn} → Reached steps d → IsTold d.phase → (k : ℕ) → Contains (open_links d) k → ⊥
none_open {steps} {d} r told k has = by d.phase told r.phase
  where
    by : (p : Phase) → IsTold p → PhaseHolds p steps d r.done r.last r.rest r.left r.kept.next → ⊥
    by Open is holds = is
    by Broken is holds = is
    by (Over cause) is holds = is
    by (Told cause) is holds = no_elements k (subst (λ (b : Bool). Contains (links_if b d.backs.items) k) holds.0 has)
