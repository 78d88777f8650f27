-- A draw was refused only where the desk's count says so.
use Rattle.std.proofs.Common.{◌≡◌, ℕ, ◌+◌, ◌<◌, ◌≤◌, List, [], ◌∷◌, ◌++◌, Option, Some, None, sym, ◌∙◌, ap, subst, inl, inr, arith, true, false, Bool}
use Rattle.std.specs.Prelude.{◌==◌, ◌^◌}
use Rattle.std.specs.List.{flat_map, AllByRecursion, Contains}
use Rattle.std.proofs.lemmas.Bool.{cases_eq}
use Rattle.std.proofs.lemmas.List.{append-nil}
use Rattle.std.proofs.lemmas.List.Concat.{flat_map-append}
use Rattle.std.proofs.lemmas.List.Elements.{Contains-append_left, Contains-append_right, Contains-push}
use Rattle.ip_net.specs.declared.ip.Ip.{Ip}
use Rattle.wrr_deadlines.specs.Reduced.{period_len}
use Rattle.link_world.specs.declared.note.Note.{Note}
use Rattle.link_world.specs.declared.note.NoteBody.{NoteBody}
use Rattle.link_world.specs.declared.note.NoteBody.TheVariants as body
use Rattle.link_world.specs.declared.note.Cause.{Cause}
use Rattle.link_world.specs.declared.note.Cause.TheVariants.{Passed, Undecided, Head, HeadTooLarge, NoRouter, Stopped, BodyTooLarge, NoChild, Spent, BackFailed, BackBad, BackLate}
use Rattle.link_world.specs.declared.world.Arrival.{Arrival}
use Rattle.link_world.specs.Log.{Event, LinkEvent, came, history_of, notes, note_by, only_if}
use Rattle.link_world.specs.Seen.{Seen, Came}
use Rattle.link_world.specs.Lately.{Lately}
use Rattle.conversation.specs.Steps.{Step, history}
use Rattle.conversation.specs.Turns.{Turn, note_of, AnswersBy}
use Rattle.conversation.specs.Served.{of_last, notes_of, IfLast, IsAnswered}
use Rattle.desk.specs.Desks.{Desk, seat_at, one_server}
use Rattle.conn_machine.specs.Reached.{Reached, ending_note, closed_by}
use Rattle.conn_machine.specs.declared.parts.Client.{Client}
use Rattle.conn_machine.specs.declared.parts.Phase.{Phase}
use Rattle.conn_machine.specs.declared.parts.Phase.TheVariants.{Open, Broken, Over, Told}
use Rattle.conn_machine.specs.declared.conn.Conn.{Conn}
use Rattle.conn_service.specs.Choices.{last_number, spents_under}
use Rattle.conn_service.specs.Moments.{moment}
use Rattle.conn_service.specs.Went.{Went}
use Rattle.conn_service.proofs.Lists.{same_link, last_number-append, spents-append}
use Rattle.worker_loop.specs.Runs.{JustCame}
use Rattle.worker_loop.specs.Spent.{IsUsedUp, CauseStands, BodyStands, NoteStands, IsFollowed}
use Rattle.worker_loop.proofs.Lists.{true_or_false, all_both, all_weaker, new_both, history-append, steps-append}
use Rattle.worker_loop.proofs.Comings.{first_steps, first_new}
use Rattle.worker_loop.proofs.Choosings.{own_under, refused_kind, refused_told}

all_front : {X : Type 0} (P : X → Type 0) (xs ys : List X) → AllByRecursion P (xs ++ ys) → AllByRecursion P xs
all_front P [] ys h = tt
all_front P (x ∷ xs) ys h = (h.0, all_front P xs ys h.1)

all_back : {X : Type 0} (P : X → Type 0) (xs ys : List X) → AllByRecursion P (xs ++ ys) → AllByRecursion P ys
all_back P [] ys h = h
all_back P (x ∷ xs) ys h = all_back P xs ys h.1

outgrown : (a b p most : ℕ) → a ≤ b → most < a + p → most < b + p
outgrown a b p most le lt = omega (arith, le, lt)

-- the counts only rise
pub used_later : (f g : Desk) → ((n node : ℕ) → (seat_at f n).count node ≤ (seat_at g n).count node) → (n node : ℕ) → IsUsedUp f n node → IsUsedUp g n node
used_later f g up n node h = outgrown ((seat_at f n).count node) ((seat_at g n).count node) (period_len one_server) (2 ^ 62) (up n node) h

pub stands_later : (f g : Desk) → ((n node : ℕ) → (seat_at f n).count node ≤ (seat_at g n).count node) → (note : Note) → NoteStands f note → NoteStands g note
stands_later f g up note h = by_body note.body h
  where
    by_cause : (n : ℕ) (cause : Cause) → CauseStands f n cause → CauseStands g n cause
    by_cause n Passed h = tt
    by_cause n Undecided h = tt
    by_cause n (Head fault) h = tt
    by_cause n HeadTooLarge h = tt
    by_cause n NoRouter h = tt
    by_cause n (Stopped place) h = tt
    by_cause n BodyTooLarge h = tt
    by_cause n NoChild h = tt
    by_cause n (Spent node) h = used_later f g up n node h
    by_cause n (BackFailed link) h = tt
    by_cause n (BackBad link) h = tt
    by_cause n (BackLate link base now) h = tt

    by_body : (b : NoteBody) → BodyStands f b → BodyStands g b
    by_body (body.Request r) h = by_cause r.generation r.cause h
    by_body (body.End cause) h = tt

-- all of these nodes
all_held : (P : ℕ → Type 0) (xs : List ℕ) → ((x : ℕ) → Contains xs x → P x) → AllByRecursion P xs
all_held P [] h = tt
all_held P (x ∷ xs) h = (h x (Contains-append_left (x ∷ []) xs x (Contains-push [] x)), all_held P xs (λ y c. h y (Contains-append_right (x ∷ []) xs y c)))

-- the refused draws of a request, where it has the number n
abbrev own_refused : ℕ → Turn → List ℕ
own_refused n = own_under refused_kind n

-- what a request's note says
turn_stands : (g : Desk) (link : ℕ) (steps : List Step) (entry : List ℕ) (peer : Ip) (t : Turn) → IsAnswered steps entry peer t → AllByRecursion (IsUsedUp g t.plan.number) (own_refused t.plan.number t) → NoteStands g (note_of link t)
turn_stands g link steps entry peer t is used = by_cause t.cause is.answers
  where
    here : AllByRecursion (IsUsedUp g t.plan.number) t.spents
    here = subst (λ (b : Bool). AllByRecursion (IsUsedUp g t.plan.number) (only_if b t.spents)) (same_link t.plan.number) used

    by_cause : (cause : Cause) → AnswersBy cause entry peer t → CauseStands g t.plan.number cause
    by_cause Passed a = tt
    by_cause Undecided a = tt
    by_cause (Head fault) a = tt
    by_cause HeadTooLarge a = tt
    by_cause NoRouter a = tt
    by_cause (Stopped place) a = tt
    by_cause BodyTooLarge a = tt
    by_cause NoChild a = tt
    by_cause (Spent node) a = (subst (λ (xs : List ℕ). AllByRecursion (IsUsedUp g t.plan.number) xs) a.0.5 here).0
    by_cause (BackFailed link) a = tt
    by_cause (BackBad link) a = tt
    by_cause (BackLate link base now) a = tt

done_stand : (g : Desk) (link : ℕ) (steps : List Step) (entry : List ℕ) (peer : Ip) (done : List Turn) → AllByRecursion (IsAnswered steps entry peer) done → ((n : ℕ) → AllByRecursion (IsUsedUp g n) (flat_map (own_refused n) done)) → AllByRecursion (NoteStands g) (flat_map (notes_of link) done)
done_stand g link steps entry peer [] is used = tt
done_stand g link steps entry peer (t ∷ done) is used = (
  turn_stands g link steps entry peer t is.0 (all_front (IsUsedUp g t.plan.number) (own_refused t.plan.number t) (flat_map (own_refused t.plan.number) done) (used t.plan.number)),
  done_stand g link steps entry peer done is.1 (λ n. all_back (IsUsedUp g n) (own_refused n t) (flat_map (own_refused n) done) (used n)),
)

closed_stand : (g : Desk) (pinned : Bool) (link : ℕ) (steps : List Step) (entry : List ℕ) (peer : Ip) (last : Option Turn) → IfLast (IsAnswered steps entry peer) last → ((n : ℕ) → AllByRecursion (IsUsedUp g n) (of_last (own_refused n) last)) → AllByRecursion (NoteStands g) (closed_by pinned link last)
closed_stand g true link steps entry peer last is used = tt
closed_stand g false link steps entry peer None is used = tt
closed_stand g false link steps entry peer (Some t) is used = (turn_stands g link steps entry peer t is (used t.plan.number), tt)

ending_stands : (g : Desk) (link : ℕ) (p : Phase) → AllByRecursion (NoteStands g) (ending_note link p)
ending_stands g link Open = tt
ending_stands g link Broken = tt
ending_stands g link (Over cause) = tt
ending_stands g link (Told cause) = (tt, tt)

-- what is noted of a connection
notes_stand : (g : Desk) {steps : List Step} {c : Conn} → Reached steps c → ((n : ℕ) → AllByRecursion (IsUsedUp g n) (spents_under n 0 steps)) → AllByRecursion (NoteStands g) (notes (history c.client.link steps))
notes_stand g {steps} {c} r used =
    let k = r.kept in
    let link = c.client.link in
    let all : (n : ℕ) → AllByRecursion (IsUsedUp g n) (flat_map (own_refused n) r.done ++ of_last (own_refused n) r.last) = λ n. subst (λ (xs : List ℕ). AllByRecursion (IsUsedUp g n) xs) (refused_told n r) (used n) in
    all_front (NoteStands g) (notes (history link steps)) c.notes.items
    (subst (λ (ns : List Note). AllByRecursion (NoteStands g) ns) (sym k.holds.noted)
    (all_both (NoteStands g) (flat_map (notes_of link) r.done ++ closed_by c.current.pinned link r.last) (ending_note link c.phase)
    (all_both (NoteStands g) (flat_map (notes_of link) r.done) (closed_by c.current.pinned link r.last)
    (done_stand g link steps c.client.entry c.client.peer r.done k.sound.all (λ n. all_front (IsUsedUp g n) (flat_map (own_refused n) r.done) (of_last (own_refused n) r.last) (all n)))
    (closed_stand g c.current.pinned link steps c.client.entry c.client.peer r.last k.sound.one (λ n. all_back (IsUsedUp g n) (flat_map (own_refused n) r.done) (of_last (own_refused n) r.last) (all n))))
    (ending_stands g link c.phase)))

-- a link that hasn't come yet hadn't before
pub earlier : (now new : Seen) → ((l : ℕ) → now.come l ≡ true → new.come l ≡ true) → (l : ℕ) → new.come l ≡ false → now.come l ≡ false
earlier now new later l not = elim (true_or_false (now.come l)) [
  | inl is ↦ let e = later l is in absurd (let f : ⊥ = cc in f)
  | inr is ↦ is
]

-- the same at a later moment, of a connection that nothing was told
pub followed_later : (now new : Seen) (f g : Desk) (c : Conn) → ((l : ℕ) → now.come l ≡ true → new.come l ≡ true) → ((n node : ℕ) → (seat_at f n).count node ≤ (seat_at g n).count node) → IsFollowed now f c → IsFollowed new g c
followed_later now new f g c later up x = record {
  steps = x.steps;
  stands = record { reached = x.stands.reached; fresh = λ l not. x.stands.fresh l (earlier now new later l not) };
  number = x.number;
  refused = λ n. all_weaker (IsUsedUp f n) (IsUsedUp g n) (spents_under n 0 x.steps) (used_later f g up n) (x.refused n);
}

-- the same of the connection that was served
pub followed_went : {S : Type 0} {now new : Seen} {l m : Lately} {f g : Desk} {c d : Conn} (w : Went S (moment now l f c) (moment new m g d)) → IsFollowed now f c → IsFollowed new g d
followed_went {S} {now} {new} {l} {m} {f} {g} {c} {d} w x = record {
  steps = x.steps ++ w.did;
  stands = record {
    reached = w.conn.reached x.steps x.stands;
    fresh = λ k not. new_both (x.stands.fresh k (earlier now new w.world.come k not)) (w.world.fresh k not);
  };
  number = last_number-append 0 x.steps w.did ∙ ap (λ (m : ℕ). last_number m w.did) x.number ∙ sym w.desk.number;
  refused = λ n.
      let parts : spents_under n 0 (x.steps ++ w.did) ≡ spents_under n 0 x.steps ++ spents_under n c.current.number w.did =
      spents-append n 0 x.steps w.did ∙ ap (λ (m : ℕ). spents_under n 0 x.steps ++ spents_under n m w.did) x.number in
      subst (λ (xs : List ℕ). AllByRecursion (IsUsedUp g n) xs) (sym parts)
      (all_both (IsUsedUp g n) (spents_under n 0 x.steps) (spents_under n c.current.number w.did)
      (all_weaker (IsUsedUp f n) (IsUsedUp g n) (spents_under n 0 x.steps) (used_later f g w.desk.counts n) (x.refused n))
      (all_held (IsUsedUp g n) (spents_under n c.current.number w.did) (w.desk.spent n)));
}

-- and what was noted of it
went_stands : {S : Type 0} {now new : Seen} {l m : Lately} {f g : Desk} {c d : Conn} (w : Went S (moment now l f c) (moment new m g d)) → IsFollowed now f c → AllByRecursion (NoteStands g) (notes (history_of c.client.link w.ran))
unfolding followed_went
went_stands {S} {now} {new} {l} {m} {f} {g} {c} {d} w x =
    let y : IsFollowed new g d = followed_went w x in
    let link = c.client.link in
    let at_d : AllByRecursion (NoteStands g) (notes (history d.client.link (x.steps ++ w.did))) = notes_stand g (w.conn.reached x.steps x.stands) y.refused in
    let at_c : AllByRecursion (NoteStands g) (notes (history link (x.steps ++ w.did))) = subst (λ (k : Client). AllByRecursion (NoteStands g) (notes (history k.link (x.steps ++ w.did)))) w.conn.client at_d in
    let parts : notes (history link (x.steps ++ w.did)) ≡ notes (history link x.steps) ++ notes (history link w.did) = ap notes (steps-append link x.steps w.did) ∙ flat_map-append note_by (history link x.steps) (history link w.did) in
    subst (λ (h : List LinkEvent). AllByRecursion (NoteStands g) (notes h)) (w.world.shows link)
    (all_back (NoteStands g) (notes (history link x.steps)) (notes (history link w.did)) (subst (λ (ns : List Note). AllByRecursion (NoteStands g) ns) parts at_c))

notes-append : (l : ℕ) (a b : List Event) → notes (history_of l (a ++ b)) ≡ notes (history_of l a) ++ notes (history_of l b)
notes-append l a b = ap notes (history-append l a b) ∙ flat_map-append note_by (history_of l a) (history_of l b)

-- on each link what was noted stands, where it stood before
pub noted_stand : {S : Type 0} {now new : Seen} {l m : Lately} {f g : Desk} {c d : Conn} (w : Went S (moment now l f c) (moment new m g d)) → IsFollowed now f c
    → (before : List Event) (link : ℕ) → AllByRecursion (NoteStands f) (notes (history_of link before)) → AllByRecursion (NoteStands g) (notes (history_of link (before ++ w.ran)))
noted_stand {S} {now} {new} {l} {m} {f} {g} {c} {d} w x before link was =
    subst (λ (ns : List Note). AllByRecursion (NoteStands g) ns) (sym (notes-append link before w.ran))
    (all_both (NoteStands g) (notes (history_of link before)) (notes (history_of link w.ran))
    (all_weaker (NoteStands f) (NoteStands g) (notes (history_of link before)) (stands_later f g w.desk.counts) was)
    (elim (cases_eq link c.client.link) [
      | inl same ↦ subst (λ (k : ℕ). AllByRecursion (NoteStands g) (notes (history_of k w.ran))) (sym same) (went_stands w x)
      | inr apart ↦ subst (λ (ns : List Note). AllByRecursion (NoteStands g) ns) (sym (ap notes (sym (w.world.shows link)) ∙ w.world.noted link apart)) tt
    ]))

-- nothing was noted
pub quiet_stand : (f : Desk) (before ran : List Event) (link : ℕ) → notes (history_of link ran) ≡ [] → AllByRecursion (NoteStands f) (notes (history_of link before)) → AllByRecursion (NoteStands f) (notes (history_of link (before ++ ran)))
quiet_stand f before ran link none was =
    subst (λ (ns : List Note). AllByRecursion (NoteStands f) ns)
    (sym (notes-append link before ran ∙ ap (λ (ns : List Note). notes (history_of link before) ++ ns) none ∙ append-nil (notes (history_of link before)))) was

-- a client came
pub followed_came : (now new : Seen) (f : Desk) (a : Arrival) (d : Conn) → Came now a.link (came a.entry a.peer) new → JustCame a d → IsFollowed new f d
followed_came now new f a d arrival began = record {
  steps = first_steps a;
  stands = record {
    reached = began.reached;
    fresh = λ l not. first_new a l (λ same. let here = arrival.come in let e : new.come a.link ≡ false = ap new.come (sym same) ∙ not in let f : ⊥ = cc in f);
  };
  number = sym began.number;
  refused = λ n. none_refused (IsUsedUp f n) (n == 0);
}
  where
    none_refused : (P : ℕ → Type 0) (b : Bool) → AllByRecursion P (only_if b [] ++ [])
    none_refused P true = tt
    none_refused P false = tt

-- what has come stays come
pub came_later : (now new : Seen) (a : Arrival) → Came now a.link (came a.entry a.peer) new → (l : ℕ) → now.come l ≡ true → new.come l ≡ true
came_later now new a arrival l is = elim (cases_eq l a.link) [
  | inl same ↦ ap new.come same ∙ arrival.come
  | inr ne ↦ arrival.others_come l ne ∙ is
]
