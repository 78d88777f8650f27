-- What a machine's notes are, and what telling one leaves.
use Rattle.std.proofs.Common.{length, get_or, drop, ◌≡◌, ◌≢◌, ℕ, ◌<◌, List, [], ◌∷◌, ◌++◌, Option, Some, None, refl, sym, ◌∙◌, ap, subst, arith, Bool, true, false, Vec, vec_len, ◌==◌, inl, inr}
use Rattle.std.specs.List.{flat_map, AllByRecursion, Contains}
use Rattle.std.specs.declared.alloc.Global.{Global}
use Rattle.std.proofs.lemmas.List.{append-nil, nil_from_length}
use Rattle.std.proofs.lemmas.Bool.Decides.{nat_tests}
use Rattle.link_world.specs.declared.note.Note.{Note}
use Rattle.link_world.specs.declared.note.EndCause.{EndCause}
use Rattle.link_world.specs.Log.{noted, notes}
use Rattle.conversation.specs.Plans.{Plan}
use Rattle.conversation.specs.Steps.{Step, happened, history, failures, stops, pins}
use Rattle.conversation.specs.Turns.{Turn}
use Rattle.conversation.specs.Served.{of_last, notes_of, EndHolds, end_note, Served}
use Rattle.conversation.specs.Holding.{told, Holds, Sound}
use Rattle.conversation.proofs.Tellings.{told_happened, failures_happened, sound_happened}
use Rattle.conversation.proofs.Holdings.{all_both, holds_told, holds_closed, holds_ended, end_told, served}
use Rattle.conn_machine.specs.Parts.{Trail, TiedBy, note_by}
use Rattle.conn_machine.specs.Reached.{Reached, PhaseHolds, ending_note, closed_by, trail_of, open_over, IsUnended, IsRequestNote, EndsBy}
use Rattle.conn_machine.specs.declared.parts.Client.{Client}
use Rattle.conn_machine.specs.declared.parts.Current.{Current}
use Rattle.conn_machine.specs.declared.parts.Phase.{Phase}
use Rattle.conn_machine.specs.declared.parts.Phase.TheVariants.{Open, Broken, Over, Told}
use Rattle.conn_machine.specs.declared.conn.Conn.{Conn}
use Rattle.conn_machine.proofs.Opens.{holds_as}
use Rattle.conn_machine.proofs.Turnings.{same_note}

-- the first note that waits is told
pub reached_told : {steps : List Step} {c : Conn} (v : Vec Note Global) (note : Note) → c.notes.items ≡ note ∷ v.items → Reached steps c
    → Reached (steps ++ happened c.client.link (noted note) ∷ []) (record c { notes = v })
reached_told {steps} {c} v note is r = record {
  done = r.done;
  last = r.last;
  rest = r.rest;
  left = r.left;
  kept = record {
    next = r.kept.next;
    holds = holds_as (told_happened c.client.link steps (noted note)) refl refl refl refl refl refl refl refl refl (holds_told note is r.kept.holds);
    sound = sound_happened c.client.link steps (noted note) c.client.entry c.client.peer r.done r.last r.kept.holds.arrived r.kept.sound;
    tied = r.kept.tied;
  };
  phase = by c.phase r.phase;
}
  where
    by : (q : Phase) → PhaseHolds q steps c r.done r.last r.rest r.left r.kept.next
        → PhaseHolds q (steps ++ happened c.client.link (noted note) ∷ []) (record c { notes = v }) r.done r.last r.rest r.left r.kept.next
    by Open h = (h.0, h.1, h.2, h.3, failures_happened c.client.link c.client.link steps (noted note) ∙ h.4)
    by Broken h = tt
    by (Over cause) h = end_told cause c.client.link steps note r.done r.last r.rest r.left h
    by (Told cause) h = (h.0, end_told cause c.client.link steps note r.done r.last r.rest r.left h.1)

last_note : (pinned : Bool) (link : ℕ) (m : Current) (trail : Trail) (last : Option Turn) → pinned ≡ true → TiedBy pinned m trail last
    → of_last (notes_of link) last ≡ note_by link m trail.looks trail.picks trail.backs ∷ []
last_note true link m trail None is tied = absurd tied
last_note true link m trail (Some t) is tied = ap (λ (n : Note). n ∷ []) (sym (same_note link m trail t tied))
last_note false link m trail last is tied = absurd (let f : ⊥ = cc in f)

unpinned_tied : (b : Bool) (m : Current) (trail : Trail) (last : Option Turn) → b ≡ false → TiedBy b m trail last
unpinned_tied true m trail last is = absurd (let f : ⊥ = cc in f)
unpinned_tied false m trail last is = tt

-- the note of the last request is told
pub reached_open_told : {steps : List Step} {c : Conn} (d : Conn) (cause : EndCause) (note : Note) → c.phase ≡ Over cause → d.phase ≡ Over cause
    → c.notes.items ≡ [] → c.current.pinned ≡ true → note ≡ note_by c.client.link c.current c.looks.items c.picks.items c.backs.items
    → d.client ≡ c.client → d.current.pinned ≡ false → d.current.number ≡ c.current.number → d.notes ≡ c.notes
    → Reached steps c → Reached (steps ++ happened c.client.link (noted note) ∷ []) d
reached_open_told {steps} {c} d cause note is is' none pinned note_is client unpinned number notes_is r = record {
  done = r.done;
  last = r.last;
  rest = r.rest;
  left = r.left;
  kept = record {
    next = r.kept.next;
    holds = subst (λ (k : Client). Holds (told k.link (steps ++ happened c.client.link (noted note) ∷ [])) k.link k.entry k.peer r.done r.last r.rest r.left d.notes.items (closed_by d.current.pinned k.link r.last) (ending_note k.link d.phase) (open_over d.phase d.over) d.current.number r.kept.next) (sym client)
        (holds_as (told_happened c.client.link steps (noted note)) refl refl refl (ap (λ (v : Vec Note Global). v.items) notes_is)
        (ap (λ (b : Bool). closed_by b c.client.link r.last) unpinned ∙ last_note c.current.pinned c.client.link c.current (trail_of c) r.last pinned r.kept.tied ∙ ap (λ (n : Note). n ∷ []) (sym note_is))
        (ap (ending_note c.client.link) is') (ap (λ (q : Phase). open_over q d.over) is' ∙ sym (ap (λ (q : Phase). open_over q c.over) is)) number refl
        (holds_closed note none (holds_as refl refl refl refl refl (sym (ap (λ (b : Bool). closed_by b c.client.link r.last) pinned)) (sym (ap (ending_note c.client.link) is)) refl refl refl r.kept.holds)));
    sound = subst (λ (k : Client). Sound (steps ++ happened c.client.link (noted note) ∷ []) k.entry k.peer r.done r.last) (sym client)
        (sound_happened c.client.link steps (noted note) c.client.entry c.client.peer r.done r.last r.kept.holds.arrived r.kept.sound);
    tied = unpinned_tied d.current.pinned d.current (trail_of d) r.last unpinned;
  };
  phase = subst (λ (p : Phase). PhaseHolds p (steps ++ happened c.client.link (noted note) ∷ []) d r.done r.last r.rest r.left r.kept.next) (sym is')
      (subst (λ (k : Client). EndHolds cause (history k.link (steps ++ happened c.client.link (noted note) ∷ [])) r.done r.last r.rest r.left (failures k.link (steps ++ happened c.client.link (noted note) ∷ []) ≢ []) (stops (steps ++ happened c.client.link (noted note) ∷ []) ≢ [])) (sym client)
      (end_told cause c.client.link steps note r.done r.last r.rest r.left (subst (λ (p : Phase). PhaseHolds p steps c r.done r.last r.rest r.left r.kept.next) is r.phase)));
}

-- the end is told
pub reached_end_told : {steps : List Step} {c : Conn} (cause : EndCause) (note : Note) → c.phase ≡ Over cause → c.notes.items ≡ [] → c.current.pinned ≡ false
    → note ≡ end_note c.client.link cause → Reached steps c
    → Reached (steps ++ happened c.client.link (noted note) ∷ []) (record c { phase = Told cause })
reached_end_told {steps} {c} cause note is none unpinned note_is r = record {
  done = r.done;
  last = r.last;
  rest = r.rest;
  left = r.left;
  kept = record {
    next = r.kept.next;
    holds = holds_as (told_happened c.client.link steps (noted note)) refl refl refl refl refl (ap (λ (n : Note). n ∷ []) (sym note_is)) refl refl refl
        (holds_ended note none (holds_as refl refl refl refl refl refl (sym (ap (ending_note c.client.link) is)) (sym (ap (λ (q : Phase). open_over q c.over) is)) refl refl r.kept.holds));
    sound = sound_happened c.client.link steps (noted note) c.client.entry c.client.peer r.done r.last r.kept.holds.arrived r.kept.sound;
    tied = r.kept.tied;
  };
  phase = (unpinned, end_told cause c.client.link steps note r.done r.last r.rest r.left (subst (λ (p : Phase). PhaseHolds p steps c r.done r.last r.rest r.left r.kept.next) is r.phase));
}

all_front : {X : Type 0} (P : X → Type 0) (xs ys : List X) → AllByRecursion P (xs ++ ys) → AllByRecursion P xs
all_front P [] ys h = tt
all_front P (x ∷ xs) ys h = (h.0, all_front P xs ys h.1)

all_back : {X : Type 0} (P : X → Type 0) (xs ys : List X) → AllByRecursion P (xs ++ ys) → AllByRecursion P ys
all_back P [] ys h = h
all_back P (x ∷ xs) ys h = all_back P xs ys h.1

-- all but the last of a list
before_last : {X : Type 0} (P : X → Type 0) (xs ws rs : List X) (e : X) → xs ++ ws ≡ rs ++ e ∷ [] → (ws ≡ [] → ⊥) → AllByRecursion P rs → AllByRecursion P xs
before_last P [] ws rs e same some h = tt
before_last P (x ∷ []) ws [] e same some h = absurd (some (cc))
before_last P (x ∷ y ∷ xs) ws [] e same some h = absurd (let f : ⊥ = cc in f)
before_last P (x ∷ xs) ws (r ∷ rs) e same some h =
    let eq : x ≡ r = cc in
    let rest : xs ++ ws ≡ rs ++ e ∷ [] = cc in
    (subst P (sym eq) h.0, before_last P xs ws rs e rest some h.1)

all_requests : (link : ℕ) (turns : List Turn) → AllByRecursion IsRequestNote (flat_map (notes_of link) turns)
all_requests link [] = tt
all_requests link (t ∷ turns) = (tt, all_requests link turns)

closed_requests : (b : Bool) (link : ℕ) (last : Option Turn) → AllByRecursion IsRequestNote (closed_by b link last)
closed_requests true link last = tt
closed_requests false link None = tt
closed_requests false link (Some t) = (tt, tt)

all_of_link : (link : ℕ) (turns : List Turn) → AllByRecursion (λ (n : Note). n.link ≡ link) (flat_map (notes_of link) turns)
all_of_link link [] = tt
all_of_link link (t ∷ turns) = (refl, all_of_link link turns)

closed_of_link : (b : Bool) (link : ℕ) (last : Option Turn) → AllByRecursion (λ (n : Note). n.link ≡ link) (closed_by b link last)
closed_of_link true link last = tt
closed_of_link false link None = tt
closed_of_link false link (Some t) = (refl, tt)

ending_of_link : (link : ℕ) (phase : Phase) → AllByRecursion (λ (n : Note). n.link ≡ link) (ending_note link phase)
ending_of_link link Open = tt
ending_of_link link Broken = tt
ending_of_link link (Over cause) = tt
ending_of_link link (Told cause) = (refl, tt)

-- each note that waits is of the machine's link
waiting_of_link : (steps : List Step) (c : Conn) → Reached steps c → AllByRecursion (λ (n : Note). n.link ≡ c.client.link) c.notes.items
waiting_of_link steps c r =
    let link : ℕ = c.client.link in
    all_back (λ (n : Note). n.link ≡ c.client.link) (notes (history c.client.link steps)) c.notes.items
    (subst (λ (l : List Note). AllByRecursion (λ (n : Note). n.link ≡ c.client.link) l) (sym r.kept.holds.noted)
    (all_both (λ (n : Note). n.link ≡ c.client.link) (flat_map (notes_of c.client.link) r.done ++ closed_by c.current.pinned c.client.link r.last) (ending_note c.client.link c.phase)
    (all_both (λ (n : Note). n.link ≡ c.client.link) (flat_map (notes_of c.client.link) r.done) (closed_by c.current.pinned c.client.link r.last) (all_of_link c.client.link r.done) (closed_of_link c.current.pinned c.client.link r.last))
    (ending_of_link c.client.link c.phase)))

first_of_link : (link : ℕ) (waiting : List Note) (note : Note) → AllByRecursion (λ (n : Note). n.link ≡ link) waiting → 0 < length waiting → note ≡ get_or waiting 0 note → note.link ≡ link
first_of_link link [] note all some is = absurd (omega arith)
first_of_link link (n ∷ waiting) note all some is = ap (λ (x : Note). x.link) is ∙ all.0

pub first_link : (steps : List Step) (c : Conn) (note : Note) → 0 < length c.notes.items → note ≡ get_or c.notes.items 0 note → Reached steps c → note.link ≡ c.client.link
first_link steps c note some is r = first_of_link c.client.link c.notes.items note (waiting_of_link steps c r) some is

pub first_out : (waiting : List Note) (note : Note) (waiting' : List Note) → 0 < length waiting → note ≡ get_or waiting 0 note → waiting' ≡ drop 1 waiting → waiting ≡ note ∷ waiting'
first_out [] note waiting' some is rest = absurd (omega arith)
first_out (n ∷ waiting) note waiting' some is rest = rw (rest, is) refl

-- while the end is not told, no end is noted
pub unended_untold : (c : Conn) → ending_note c.client.link c.phase ≡ [] → IsUnended c
unended_untold c is = λ steps r.
    all_front IsRequestNote (notes (history c.client.link steps)) c.notes.items
    (subst (λ (l : List Note). AllByRecursion IsRequestNote l) (sym (r.kept.holds.noted ∙ ap (λ (l : List Note). (flat_map (notes_of c.client.link) r.done ++ closed_by c.current.pinned c.client.link r.last) ++ l) is ∙ append-nil (flat_map (notes_of c.client.link) r.done ++ closed_by c.current.pinned c.client.link r.last)))
    (all_both IsRequestNote (flat_map (notes_of c.client.link) r.done) (closed_by c.current.pinned c.client.link r.last) (all_requests c.client.link r.done) (closed_requests c.current.pinned c.client.link r.last)))

pub unended_waiting : (c : Conn) → (c.notes.items ≡ [] → ⊥) → IsUnended c
unended_waiting c some = by c.phase refl
  where
    by : (p : Phase) → c.phase ≡ p → IsUnended c
    by Open is = unended_untold c (ap (ending_note c.client.link) is)
    by Broken is = unended_untold c (ap (ending_note c.client.link) is)
    by (Over cause) is = unended_untold c (ap (ending_note c.client.link) is)
    by (Told cause) is = λ steps r.
        before_last IsRequestNote (notes (history c.client.link steps)) c.notes.items (flat_map (notes_of c.client.link) r.done ++ closed_by c.current.pinned c.client.link r.last) (end_note c.client.link cause)
        (r.kept.holds.noted ∙ ap (λ (p : Phase). (flat_map (notes_of c.client.link) r.done ++ closed_by c.current.pinned c.client.link r.last) ++ ending_note c.client.link p) is) some
        (all_both IsRequestNote (flat_map (notes_of c.client.link) r.done) (closed_by c.current.pinned c.client.link r.last) (all_requests c.client.link r.done) (closed_requests c.current.pinned c.client.link r.last))

pub untold_from : (c : Conn) → ((cause : EndCause) → c.phase ≡ Told cause → ⊥) → IsUnended c
untold_from c not_told = unended_untold c (by c.phase refl)
  where
    by : (p : Phase) → c.phase ≡ p → ending_note c.client.link c.phase ≡ []
    by Open is = ap (ending_note c.client.link) is
    by Broken is = ap (ending_note c.client.link) is
    by (Over cause) is = ap (ending_note c.client.link) is
    by (Told cause) is = absurd (not_told cause is)

pub no_items : {X A : Type 0} (v : Vec X A) (b : Bool) → b ≡ (vec_len v == 0) → b ≡ true → v.items ≡ []
no_items v b is holds = nil_from_length v.items (grind (arith, nat_tests, v.ok))

pub some_items : {X A : Type 0} (v : Vec X A) (b : Bool) → b ≡ (vec_len v == 0) → b ≡ false → v.items ≡ [] → ⊥
some_items {X} v b is fails none = let e : length v.items ≡ 0 = ap (length {A = X}) none in grind (arith, nat_tests, v.ok)

pub some_length : {X A : Type 0} (v : Vec X A) (b : Bool) → b ≡ (vec_len v == 0) → b ≡ false → 0 < length v.items
some_length v b is fails = grind (arith, nat_tests, v.ok)

pub unended_some : (c : Conn) (b : Bool) → b ≡ (vec_len c.notes == 0) → b ≡ false → IsUnended c
unended_some c b is fails = unended_waiting c (some_items c.notes b is fails)

-- the end that is told is the end that came
pub ends_told : (p : Phase) (c cause : EndCause) → p ≡ Over c → EndsBy cause p → EndsBy cause (Told c)
ends_told p c cause is (inl same) = let e : Over c ≡ Over cause = sym is ∙ same in let f : c ≡ cause = cc in inr (ap (λ (x : EndCause). let y : Phase = Told x in y) f)
ends_told p c cause is (inr other) = absurd (let e : Over c ≡ Told cause = sym is ∙ other in let f : ⊥ = cc in f)

-- a machine that has told all of its notes and its end was served
pub finished_served : {steps : List Step} {c : Conn} (plans : List Plan) (cause : EndCause) → c.notes.items ≡ [] → c.phase ≡ Told cause → Reached steps c → AllByRecursion (Contains plans) (pins steps)
    → Served plans c.client.link c.client.entry c.client.peer steps (failures c.client.link steps ≢ []) (stops steps ≢ [])
finished_served {steps} {c} plans cause none is r held =
    let h : PhaseHolds (Told cause) steps c r.done r.last r.rest r.left r.kept.next = subst (λ (p : Phase). PhaseHolds p steps c r.done r.last r.rest r.left r.kept.next) is r.phase in
    served steps plans c.client.link c.client.entry c.client.peer r.done r.last r.rest r.left c.notes.items (open_over c.phase c.over) c.current.number r.kept.next cause none
    (holds_as refl refl refl refl refl (sym (ap (λ (b : Bool). closed_by b c.client.link r.last) h.0)) (sym (ap (ending_note c.client.link) is)) refl refl refl r.kept.holds)
    r.kept.sound h.1 held
