-- Each pin is accounted for.
use Rattle.std.proofs.Common.{◌≡◌, ◌≢◌, ℕ, ◌+◌, List, [], ◌∷◌, ◌++◌, map, length, Option, Some, None, refl, sym, ◌∙◌, ap, subst, inl, inr, arith, true, false, Bool, length-append}
use Rattle.std.specs.Prelude.{◌==◌, Result, Ok, Err, IsOk, OnOk}
use Rattle.std.specs.List.{flat_map}
use Rattle.std.proofs.lemmas.Bool.{cases_eq}
use Rattle.std.proofs.lemmas.Bool.Decides.{nat_tests}
use Rattle.std.proofs.lemmas.List.{append-nil, append_assoc, map-append}
use Rattle.std.proofs.lemmas.List.Concat.{flat_map-append}
use Rattle.slab.specs.Slab.{Slab, get}
use Rattle.link_world.specs.declared.note.Note.{Note}
use Rattle.link_world.specs.declared.world.Arrival.{Arrival}
use Rattle.link_world.specs.declared.world.WaitFailed.{WaitFailed}
use Rattle.link_world.specs.Log.{Event, LinkEvent, came, waited, wait_failed, clock, asked, on, only_if, history_of, notes, note_by}
use Rattle.link_world.specs.Seen.{Seen, Came, NowDid, StopDid, WaitDid}
use Rattle.link_world.specs.Lately.{Lately}
use Rattle.conversation.specs.Plans.{Plan}
use Rattle.conversation.specs.Steps.{Step, history, pins, pins_by, IsNew}
use Rattle.conversation.specs.Turns.{Turn}
use Rattle.conversation.specs.Served.{of_last, pin_of, notes_of}
use Rattle.link_world.specs.declared.note.Look.{Look}
use Rattle.link_world.specs.declared.note.NodePick.{NodePick}
use Rattle.desk.specs.Desks.{Desk, seat_at}
use Rattle.conn_machine.specs.Parts.{Trail, TiedBy, AtStage}
use Rattle.conn_machine.specs.Reached.{Reached, PhaseHolds, IsTold, IsFinished, ending_note, closed_by, trail_of, pending_of}
use Rattle.conn_machine.specs.declared.parts.Client.{Client}
use Rattle.conn_machine.specs.declared.parts.Current.{Current}
use Rattle.conn_machine.specs.declared.parts.Phase.{Phase}
use Rattle.conn_machine.specs.declared.parts.Phase.TheVariants.{Open, Broken, Over, Told}
use Rattle.conn_machine.specs.declared.parts.Stage.{Stage}
use Rattle.conn_machine.specs.declared.parts.Stage.TheVariants.{Head}
use Rattle.conn_machine.specs.declared.conn.Conn.{Conn}
use Rattle.conn_service.specs.Choices.{looks_under, picks_under}
use Rattle.conn_service.specs.Moments.{moment, Stands}
use Rattle.conn_service.specs.Pins.{Mark, kept, refused as turned, mark_plan, kept_by, refused_by, counted_on}
use Rattle.conn_service.specs.Went.{Went, extended}
use Rattle.worker_loop.specs.Accounts.{Label, taken, refused, label_plan, number_at, refused_at, pinned_on, number_of, noted_on, number_if, open_number, Accounts}
use Rattle.worker_loop.specs.Runs.{AttendsBy, JustCame}
use Rattle.worker_loop.specs.Chosen.{IsNobodys, looks_in, picks_in, looks_noted, picks_noted, open_looks, open_picks, list_if}
use Rattle.worker_loop.specs.Spent.{IsFollowed}
use Rattle.worker_loop.proofs.Lists.{extended_twice, extended_none, history-append, steps-append}
use Rattle.worker_loop.proofs.Frames.{client_told, no_more_told}
use Rattle.worker_loop.proofs.Servings.{Others}
use Rattle.worker_loop.proofs.Comings.{first_steps, came_mute}
use Rattle.worker_loop.proofs.Refusals.{followed_later, followed_went, noted_stand, quiet_stand, followed_came, came_later}
use Rattle.worker_loop.proofs.Sharings.{shared_open, shared_over, shared_quiet, shared_kept, shared_none, shared_join, said_quiet, shares_looks, shares_picks, Shares}
use Rattle.std.specs.declared.alloc.AllocError.{AllocError}

abbrev numbers : List Plan → List ℕ
numbers ps = map (λ (p : Plan). p.number) ps

abbrev noted : List LinkEvent → List ℕ
noted h = flat_map number_of (notes h)

noted-append : (a b : List LinkEvent) → noted (a ++ b) ≡ noted a ++ noted b
noted-append a b = ap (flat_map number_of) (flat_map-append note_by a b) ∙ flat_map-append number_of (notes a) (notes b)

done_numbers : (link : ℕ) (done : List Turn) → flat_map number_of (flat_map (notes_of link) done) ≡ numbers (flat_map pin_of done)
done_numbers link [] = refl
done_numbers link (t ∷ done) = ap (λ (ns : List ℕ). t.plan.number ∷ ns) (done_numbers link done)

last_numbers : (b : Bool) (m : Current) (trail : Trail) (link : ℕ) (last : Option Turn) → TiedBy b m trail last → flat_map number_of (closed_by b link last) ++ number_if b m.number ≡ numbers (of_last pin_of last)
last_numbers true m trail link None tied = absurd tied
last_numbers true m trail link (Some t) tied = ap (λ (n : ℕ). n ∷ []) (sym tied.number)
last_numbers false m trail link None tied = refl
last_numbers false m trail link (Some t) tied = refl

ending_numbers : (link : ℕ) (p : Phase) → flat_map number_of (ending_note link p) ≡ []
ending_numbers link Open = refl
ending_numbers link Broken = refl
ending_numbers link (Over cause) = refl
ending_numbers link (Told cause) = refl

-- the pins of a connection are those of its notes and that of its open request
pins_noted : {steps : List Step} {c : Conn} → Reached steps c → c.notes.items ≡ [] → noted (history c.client.link steps) ++ open_number c ≡ numbers (pins steps)
pins_noted {steps} {c} r none =
    let k = r.kept in
    let link = c.client.link in
    let told : notes (history link steps) ≡ (flat_map (notes_of link) r.done ++ closed_by c.current.pinned link r.last) ++ ending_note link c.phase =
    sym (append-nil (notes (history link steps))) ∙ ap (λ (ns : List Note). notes (history link steps) ++ ns) (sym none) ∙ k.holds.noted in
    ap (λ (ns : List ℕ). ns ++ open_number c)
    (ap (flat_map number_of) told
    ∙ flat_map-append number_of (flat_map (notes_of link) r.done ++ closed_by c.current.pinned link r.last) (ending_note link c.phase)
    ∙ ap (λ (ns : List ℕ). flat_map number_of (flat_map (notes_of link) r.done ++ closed_by c.current.pinned link r.last) ++ ns) (ending_numbers link c.phase)
    ∙ append-nil (flat_map number_of (flat_map (notes_of link) r.done ++ closed_by c.current.pinned link r.last))
    ∙ flat_map-append number_of (flat_map (notes_of link) r.done) (closed_by c.current.pinned link r.last))
    ∙ append_assoc (flat_map number_of (flat_map (notes_of link) r.done)) (flat_map number_of (closed_by c.current.pinned link r.last)) (open_number c)
    ∙ ap (λ (ns : List ℕ). flat_map number_of (flat_map (notes_of link) r.done) ++ ns) (last_numbers c.current.pinned c.current (trail_of c) link r.last k.tied)
    ∙ ap (λ (ns : List ℕ). ns ++ numbers (of_last pin_of r.last)) (done_numbers link r.done)
    ∙ sym (map-append (λ (p : Plan). p.number) (flat_map pin_of r.done) (of_last pin_of r.last))
    ∙ ap numbers (sym k.holds.pinned)

cancels : (xs ys zs : List ℕ) → xs ++ ys ≡ xs ++ zs → ys ≡ zs
cancels [] ys zs h = h
cancels (x ∷ xs) ys zs h = cancels xs ys zs (cc)

-- what serving a connection noted, and its open request, are its open request before and its pins
went_noted : {S : Type 0} {now new : Seen} {l m : Lately} {f g : Desk} {c d : Conn} {steps : List Step} → Stands now steps c → c.notes.items ≡ [] → d.notes.items ≡ [] → (w : Went S (moment now l f c) (moment new m g d)) → noted_on c.client.link w.ran ++ open_number d ≡ open_number c ++ numbers (pins w.did)
went_noted {S} {now} {new} {l} {m} {f} {g} {c} {d} {steps} t none_c none_d w =
    let link = c.client.link in
    let before : noted (history link steps) ++ open_number c ≡ numbers (pins steps) = pins_noted t.reached none_c in
    let at_d : noted (history d.client.link (steps ++ w.did)) ++ open_number d ≡ numbers (pins (steps ++ w.did)) = pins_noted (w.conn.reached steps t) none_d in
    let after : noted (history link (steps ++ w.did)) ++ open_number d ≡ numbers (pins (steps ++ w.did)) = subst (λ (k : Client). noted (history k.link (steps ++ w.did)) ++ open_number d ≡ numbers (pins (steps ++ w.did))) w.conn.client at_d in
    ap (λ (h : List LinkEvent). noted h ++ open_number d) (sym (w.world.shows link))
    ∙ cancels (noted (history link steps)) (noted (history link w.did) ++ open_number d) (open_number c ++ numbers (pins w.did))
    (sym (append_assoc (noted (history link steps)) (noted (history link w.did)) (open_number d))
    ∙ ap (λ (ns : List ℕ). ns ++ open_number d) (sym (noted-append (history link steps) (history link w.did)) ∙ ap noted (sym (steps-append link steps w.did)))
    ∙ after
    ∙ ap numbers (flat_map-append pins_by steps w.did)
    ∙ map-append (λ (p : Plan). p.number) (pins steps) (pins w.did)
    ∙ ap (λ (ns : List ℕ). ns ++ numbers (pins w.did)) (sym before)
    ∙ append_assoc (noted (history link steps)) (open_number c) (numbers (pins w.did)))

abbrev label_of : ℕ → Mark → Label
label_of link (kept p) = taken link p
label_of link (turned p) = refused p

labels_plans : (link : ℕ) (marks : List Mark) → map label_plan (map (label_of link) marks) ≡ map mark_plan marks
labels_plans link [] = refl
labels_plans link (kept p ∷ marks) = ap (λ (l : List Plan). p ∷ l) (labels_plans link marks)
labels_plans link (turned p ∷ marks) = ap (λ (l : List Plan). p ∷ l) (labels_plans link marks)

labels_refused : (link : ℕ) (marks : List Mark) → flat_map refused_at (map (label_of link) marks) ≡ flat_map refused_by marks
labels_refused link [] = refl
labels_refused link (kept p ∷ marks) = labels_refused link marks
labels_refused link (turned p ∷ marks) = ap (λ (l : List Plan). p ∷ l) (labels_refused link marks)

labels_own : (link : ℕ) (marks : List Mark) → pinned_on link (map (label_of link) marks) ≡ numbers (flat_map kept_by marks)
labels_own link [] = refl
labels_own link (kept p ∷ marks) = let is : (link == link) ≡ true = grind (arith, nat_tests) in rw is (ap (λ (ns : List ℕ). p.number ∷ ns) (labels_own link marks))
labels_own link (turned p ∷ marks) = labels_own link marks

labels_other : (l link : ℕ) (marks : List Mark) → (l == link) ≡ false → pinned_on l (map (label_of link) marks) ≡ []
labels_other l link [] is = refl
labels_other l link (kept p ∷ marks) is = rw is (labels_other l link marks is)
labels_other l link (turned p ∷ marks) is = labels_other l link marks is

adds : (a b c m n k : ℕ) → counted_on b 0 ≡ counted_on a m → counted_on c 0 ≡ counted_on b n → k ≡ m + n → counted_on c 0 ≡ counted_on a k
adds a b c m n k p q is = omega (arith, p, q, is)

-- the account of a worker without connections
pub accounts_none : (now : Seen) (desk : Desk) (conns : Slab Conn) → ((k : ℕ) → get conns k ≡ None) → Accounts now now desk desk conns
accounts_none now desk conns none = record {
  ran = [];
  log = extended_none now.log;
  labels = [];
  all = sym (append-nil desk.pins);
  open_ones = λ k c gc. absurd (let e = none k in let f : ⊥ = cc in f);
  others = λ link nobody. refl;
  counted = refl;
  looks = λ n. shared_none (seat_at desk n).looks (looks_noted n []) (open_looks n) conns none (λ l. refl);
  picks = λ n. shared_none (seat_at desk n).picks (picks_noted n []) (open_picks n) conns none (λ l. refl);
  stand = λ link. tt;
  followed = λ k c gc. absurd (let e = none k in let f : ⊥ = cc in f);
}

-- what an account needs of a call for one connection
record Adds (base now new : Seen) (from f g : Desk) (link : ℕ) (a_ran ran : List Event) (a_labels labels : List Label) : Type 0 where
  pub log : new.log ≡ extended base.log (a_ran ++ ran)
  pub all : g.pins ≡ from.pins ++ map label_plan (a_labels ++ labels)
  pub counted : counted_on g.refused 0 ≡ counted_on from.refused (length (flat_map refused_at (a_labels ++ labels)))
  pub pinned_other : (l : ℕ) → l ≢ link → pinned_on l (a_labels ++ labels) ≡ pinned_on l a_labels
  pub noted_other : (l : ℕ) → l ≢ link → noted_on l (a_ran ++ ran) ≡ noted_on l a_ran

noted_on-append : (l : ℕ) (a b : List Event) → noted_on l (a ++ b) ≡ noted_on l a ++ noted_on l b
noted_on-append l a b = ap noted (history-append l a b) ∙ noted-append (history_of l a) (history_of l b)

adds_went : {S : Type 0} {base now new : Seen} {l m : Lately} {from f g : Desk} {c d : Conn} {conns : Slab Conn} (a : Accounts base now from f conns) (w : Went S (moment now l f c) (moment new m g d)) → Adds base now new from f g c.client.link a.ran w.ran a.labels (map (label_of c.client.link) w.desk.pinned.marks)
adds_went {S} {base} {now} {new} {l} {m} {from} {f} {g} {c} {d} {conns} a w =
    let link = c.client.link in
    let marks = w.desk.pinned.marks in
    record {
      log = w.world.log ∙ ap (λ (o : Option (List Event)). extended o w.ran) a.log ∙ extended_twice base.log a.ran w.ran;
      all = w.desk.pinned.all ∙ ap (λ (ps : List Plan). ps ++ map mark_plan marks) a.all ∙ append_assoc from.pins (map label_plan a.labels) (map mark_plan marks)
          ∙ ap (λ (ps : List Plan). from.pins ++ (map label_plan a.labels ++ ps)) (sym (labels_plans link marks))
          ∙ ap (λ (ps : List Plan). from.pins ++ ps) (sym (map-append label_plan a.labels (map (label_of link) marks)));
      counted = adds from.refused f.refused g.refused (length (flat_map refused_at a.labels)) (length (flat_map refused_by marks)) (length (flat_map refused_at (a.labels ++ map (label_of link) marks))) a.counted w.desk.pinned.counted
          (ap (length {A = Plan}) (flat_map-append refused_at a.labels (map (label_of link) marks)) ∙ length-append (flat_map refused_at a.labels) (flat_map refused_at (map (label_of link) marks)) ∙ ap (λ (x : List Plan). length (flat_map refused_at a.labels) + length x) (labels_refused link marks));
      pinned_other = λ k ne. let test : (k == link) ≡ false = grind (arith, nat_tests, ne) in flat_map-append (number_at k) a.labels (map (label_of link) marks) ∙ ap (λ (ns : List ℕ). pinned_on k a.labels ++ ns) (labels_other k link marks test) ∙ append-nil (pinned_on k a.labels);
      noted_other = λ k ne. noted_on-append k a.ran w.ran ∙ ap (λ (ns : List ℕ). noted_on k a.ran ++ ns) (ap (λ (h : List LinkEvent). noted h) (sym (w.world.shows k)) ∙ ap (flat_map number_of) (w.world.noted k ne)) ∙ append-nil (noted_on k a.ran);
    }

-- the connection's own account
own_account : {S : Type 0} {base now new : Seen} {l m : Lately} {from f g : Desk} {c d : Conn} {conns : Slab Conn} {steps : List Step} (a : Accounts base now from f conns) (w : Went S (moment now l f c) (moment new m g d)) → Stands now steps c → c.notes.items ≡ [] → d.notes.items ≡ [] → pinned_on c.client.link a.labels ≡ noted_on c.client.link a.ran ++ open_number c
    → pinned_on c.client.link (a.labels ++ map (label_of c.client.link) w.desk.pinned.marks) ≡ noted_on c.client.link (a.ran ++ w.ran) ++ open_number d
own_account {S} {base} {now} {new} {l} {m} {from} {f} {g} {c} {d} {conns} {steps} a w t none_c none_d was =
    let link = c.client.link in
    let marks = w.desk.pinned.marks in
    flat_map-append (number_at link) a.labels (map (label_of link) marks)
    ∙ ap (λ (ns : List ℕ). pinned_on link a.labels ++ ns) (labels_own link marks ∙ ap numbers w.desk.pinned.own)
    ∙ ap (λ (ns : List ℕ). ns ++ numbers (pins w.did)) was
    ∙ append_assoc (noted_on link a.ran) (open_number c) (numbers (pins w.did))
    ∙ ap (λ (ns : List ℕ). noted_on link a.ran ++ ns) (sym (went_noted t none_c none_d w))
    ∙ sym (append_assoc (noted_on link a.ran) (noted_on link w.ran) (open_number d))
    ∙ ap (λ (ns : List ℕ). ns ++ open_number d) (sym (noted_on-append link a.ran w.ran))

-- two keys have two client links
pub links_apart : {now : Seen} {f : List Plan} {steps : ℕ → List Step} {conns : Slab Conn} (k j : ℕ) (c x : Conn) → AttendsBy now f steps conns → get conns k ≡ Some c → get conns j ≡ Some x → k ≢ j → x.client.link ≢ c.client.link
links_apart {now} {f} {steps} {conns} k j c x at gc gx ne same =
    let mine = at.tracks k c gc in
    let theirs = at.tracks j x gx in
    client_told theirs.stands.reached (subst (λ (m : ℕ). IsNew m (steps j)) (sym same) (no_more_told c.client.link (at.apart k j ne) (client_told mine.stands.reached)))

-- the connection goes on
pub accounts_open : {S : Type 0} {base now new : Seen} {l m : Lately} {from f g : Desk} {c d : Conn} {gs : List Plan} {steps : ℕ → List Step} (conns conns' : Slab Conn) (key : ℕ) → AttendsBy now gs steps conns → get conns key ≡ Some c → Went S (moment now l f c) (moment new m g d) → d.notes.items ≡ [] → get conns' key ≡ Some d → Others conns conns' key → Accounts base now from f conns → Accounts base new from g conns'
accounts_open {S} {base} {now} {new} {l} {m} {from} {f} {g} {c} {d} {steps} conns conns' key at gc w none_d gd others a =
    let more = adds_went a w in
    let t = at.tracks key c gc in
    record {
      ran = a.ran ++ w.ran;
      log = more.log;
      labels = a.labels ++ map (label_of c.client.link) w.desk.pinned.marks;
      all = more.all;
      open_ones = λ k x gx. elim (cases_eq k key) [
        | inl same ↦
            let here : get conns' key ≡ Some x = ap (get conns') (sym same) ∙ gx in
            let is : d ≡ x = cc in
            subst (λ (z : Conn). pinned_on z.client.link (a.labels ++ map (label_of c.client.link) w.desk.pinned.marks) ≡ noted_on z.client.link (a.ran ++ w.ran) ++ open_number z) is
            (subst (λ (z : Client). pinned_on z.link (a.labels ++ map (label_of c.client.link) w.desk.pinned.marks) ≡ noted_on z.link (a.ran ++ w.ran) ++ open_number d) (sym w.conn.client)
            (own_account a w t.stands t.untold none_d (a.open_ones key c gc)))
        | inr ne ↦
            let gx0 : get conns k ≡ Some x = sym (others k ne) ∙ gx in
            let apart = links_apart key k c x at gc gx0 (λ e. ne (sym e)) in
            more.pinned_other x.client.link apart ∙ a.open_ones k x gx0 ∙ ap (λ (ns : List ℕ). ns ++ open_number x) (sym (more.noted_other x.client.link apart))
      ];
      others = λ link nobody.
          let apart : link ≢ c.client.link = λ e. nobody key d gd (ap (λ (z : Client). z.link) w.conn.client ∙ sym e) in
          more.pinned_other link apart
          ∙ a.others link (λ k x gx. elim (cases_eq k key) [
            | inl same ↦ λ e. let here : get conns key ≡ Some x = ap (get conns) (sym same) ∙ gx in let is : c ≡ x = cc in apart (sym e ∙ ap (λ (z : Conn). z.client.link) (sym is))
            | inr ne ↦ nobody k x (others k ne ∙ gx)
          ])
          ∙ sym (more.noted_other link apart);
      counted = more.counted;
      looks = λ n. shared_open (seat_at from n).looks (seat_at f n).looks (seat_at g n).looks (looks_noted n a.ran) (looks_noted n (a.ran ++ w.ran)) (open_looks n) (looks_under n c.current.number w.did) c d conns conns' key gc gd others w.conn.client (λ k x gx ne. links_apart key k c x at gc gx (λ e. ne (sym e)))
          (shares_looks n a.ran w (a.followed key c gc) t.untold none_d) (a.looks n);
      picks = λ n. shared_open (seat_at from n).picks (seat_at f n).picks (seat_at g n).picks (picks_noted n a.ran) (picks_noted n (a.ran ++ w.ran)) (open_picks n) (picks_under n c.current.number w.did) c d conns conns' key gc gd others w.conn.client (λ k x gx ne. links_apart key k c x at gc gx (λ e. ne (sym e)))
          (shares_picks n a.ran w (a.followed key c gc) t.untold none_d) (a.picks n);
      stand = λ link. noted_stand w (a.followed key c gc) a.ran link (a.stand link);
      followed = λ k x gx. elim (cases_eq k key) [
        | inl same ↦
            let here : get conns' key ≡ Some x = ap (get conns') (sym same) ∙ gx in
            let is : d ≡ x = cc in
            subst (λ (z : Conn). IsFollowed new g z) is (followed_went w (a.followed key c gc))
        | inr ne ↦ followed_later now new f g x w.world.come w.desk.counts (a.followed k x (sym (others k ne) ∙ gx))
      ];
    }

-- the connection ended
pub accounts_over : {S : Type 0} {base now new : Seen} {l m : Lately} {from f g : Desk} {c d : Conn} {gs : List Plan} {steps : ℕ → List Step} (conns conns' : Slab Conn) (key : ℕ) → AttendsBy now gs steps conns → get conns key ≡ Some c → Went S (moment now l f c) (moment new m g d) → IsFinished d → get conns' key ≡ None → Others conns conns' key → Accounts base now from f conns → Accounts base new from g conns'
accounts_over {S} {base} {now} {new} {l} {m} {from} {f} {g} {c} {d} {steps} conns conns' key at gc w finished gone others a =
    let more = adds_went a w in
    let t = at.tracks key c gc in
    let unpinned : d.current.pinned ≡ false = over_unpinned d (w.conn.reached (steps key) t.stands) finished.1 in
    record {
      ran = a.ran ++ w.ran;
      log = more.log;
      labels = a.labels ++ map (label_of c.client.link) w.desk.pinned.marks;
      all = more.all;
      open_ones = λ k x gx. elim (cases_eq k key) [
        | inl same ↦ absurd (let here : get conns' key ≡ Some x = ap (get conns') (sym same) ∙ gx in let f : ⊥ = cc in f)
        | inr ne ↦
            let gx0 : get conns k ≡ Some x = sym (others k ne) ∙ gx in
            let apart = links_apart key k c x at gc gx0 (λ e. ne (sym e)) in
            more.pinned_other x.client.link apart ∙ a.open_ones k x gx0 ∙ ap (λ (ns : List ℕ). ns ++ open_number x) (sym (more.noted_other x.client.link apart))
      ];
      others = λ link nobody. elim (cases_eq link c.client.link) [
        | inl same ↦
            subst (λ (z : ℕ). pinned_on z (a.labels ++ map (label_of c.client.link) w.desk.pinned.marks) ≡ noted_on z (a.ran ++ w.ran)) (sym same)
            (own_account a w t.stands t.untold finished.0 (a.open_ones key c gc) ∙ ap (λ (ns : List ℕ). noted_on c.client.link (a.ran ++ w.ran) ++ ns) (over_number d (w.conn.reached (steps key) t.stands) finished.1) ∙ append-nil (noted_on c.client.link (a.ran ++ w.ran)))
        | inr apart ↦
            more.pinned_other link apart
            ∙ a.others link (λ k x gx. elim (cases_eq k key) [
              | inl same ↦ λ e. let here : get conns key ≡ Some x = ap (get conns) (sym same) ∙ gx in let is : c ≡ x = cc in apart (sym e ∙ ap (λ (z : Conn). z.client.link) (sym is))
              | inr ne ↦ nobody k x (others k ne ∙ gx)
            ])
            ∙ sym (more.noted_other link apart)
      ];
      counted = more.counted;
      looks = λ n. shared_over (seat_at from n).looks (seat_at f n).looks (seat_at g n).looks (looks_noted n a.ran) (looks_noted n (a.ran ++ w.ran)) (open_looks n) (looks_under n c.current.number w.did) c conns conns' key gc gone others (λ k x gx ne. links_apart key k c x at gc gx (λ e. ne (sym e)))
          (subst (λ (xs : List Look). Shares Look (seat_at f n).looks (seat_at g n).looks (looks_noted n a.ran) (looks_noted n (a.ran ++ w.ran)) c.client.link (open_looks n c) xs (looks_under n c.current.number w.did)) (ap (λ (b : Bool). list_if b (only_if (n == d.current.number) d.looks.items)) unpinned)
          (shares_looks n a.ran w (a.followed key c gc) t.untold finished.0)) (a.looks n);
      picks = λ n. shared_over (seat_at from n).picks (seat_at f n).picks (seat_at g n).picks (picks_noted n a.ran) (picks_noted n (a.ran ++ w.ran)) (open_picks n) (picks_under n c.current.number w.did) c conns conns' key gc gone others (λ k x gx ne. links_apart key k c x at gc gx (λ e. ne (sym e)))
          (subst (λ (xs : List NodePick). Shares NodePick (seat_at f n).picks (seat_at g n).picks (picks_noted n a.ran) (picks_noted n (a.ran ++ w.ran)) c.client.link (open_picks n c) xs (picks_under n c.current.number w.did)) (ap (λ (b : Bool). list_if b (only_if (n == d.current.number) d.picks.items)) unpinned)
          (shares_picks n a.ran w (a.followed key c gc) t.untold finished.0)) (a.picks n);
      stand = λ link. noted_stand w (a.followed key c gc) a.ran link (a.stand link);
      followed = λ k x gx. elim (cases_eq k key) [
        | inl same ↦ absurd (let here : get conns' key ≡ Some x = ap (get conns') (sym same) ∙ gx in let f : ⊥ = cc in f)
        | inr ne ↦ followed_later now new f g x w.world.come w.desk.counts (a.followed k x (sym (others k ne) ∙ gx))
      ];
    }
  where
    told_open : (p : Phase) (steps : List Step) (x : Conn) (done : List Turn) (last : Option Turn) (rest left : List ℕ) (next : ℕ) → IsTold p → PhaseHolds p steps x done last rest left next → x.current.pinned ≡ false
    told_open Open steps x done last rest left next told h = absurd told
    told_open Broken steps x done last rest left next told h = absurd told
    told_open (Over cause) steps x done last rest left next told h = absurd told
    told_open (Told cause) steps x done last rest left next told h = h.0

    over_unpinned : (x : Conn) {steps : List Step} → Reached steps x → IsTold x.phase → x.current.pinned ≡ false
    over_unpinned x {steps} r told = told_open x.phase steps x r.done r.last r.rest r.left r.kept.next told r.phase

    over_number : (x : Conn) {steps : List Step} → Reached steps x → IsTold x.phase → open_number x ≡ []
    over_number x {steps} r told = ap (λ (b : Bool). number_if b x.current.number) (over_unpinned x r told)

-- what happened was no note
pub accounts_quiet : {base now new : Seen} {from f : Desk} {conns : Slab Conn} (ran : List Event) → new.log ≡ extended now.log ran → ((l : ℕ) → notes (history_of l ran) ≡ []) → ((l : ℕ) → now.come l ≡ true → new.come l ≡ true) → Accounts base now from f conns → Accounts base new from f conns
accounts_quiet {base} {now} {new} {from} {f} {conns} ran log mute come a = record {
  ran = a.ran ++ ran;
  log = log ∙ ap (λ (o : Option (List Event)). extended o ran) a.log ∙ extended_twice base.log a.ran ran;
  labels = a.labels;
  all = a.all;
  open_ones = λ k c gc. a.open_ones k c gc ∙ ap (λ (ns : List ℕ). ns ++ open_number c) (sym (still c.client.link));
  others = λ link nobody. a.others link nobody ∙ sym (still link);
  counted = a.counted;
  looks = λ n. shared_quiet (seat_at from n).looks (seat_at f n).looks (looks_noted n a.ran) (looks_noted n (a.ran ++ ran)) (open_looks n) conns (λ l. said_quiet (looks_in n) l a.ran ran (mute l)) (a.looks n);
  picks = λ n. shared_quiet (seat_at from n).picks (seat_at f n).picks (picks_noted n a.ran) (picks_noted n (a.ran ++ ran)) (open_picks n) conns (λ l. said_quiet (picks_in n) l a.ran ran (mute l)) (a.picks n);
  stand = λ link. quiet_stand f a.ran ran link (mute link) (a.stand link);
  followed = λ k c gc. followed_later now new f f c come (λ n node. omega arith) (a.followed k c gc);
}
  where
    still : (l : ℕ) → noted_on l (a.ran ++ ran) ≡ noted_on l a.ran
    still l = noted_on-append l a.ran ran ∙ ap (λ (ns : List ℕ). noted_on l a.ran ++ ns) (ap (flat_map number_of) (mute l)) ∙ append-nil (noted_on l a.ran)

pub accounts_same : {base now new : Seen} {from f : Desk} {conns : Slab Conn} → new ≡ now → Accounts base now from f conns → Accounts base new from f conns
accounts_same {base} {now} {new} {from} {f} {conns} is a = subst (λ (s : Seen). Accounts base s from f conns) (sym is) a

pub accounts_clock : {base now new : Seen} {from f : Desk} {conns : Slab Conn} (n : ℕ) → NowDid now n new → Accounts base now from f conns → Accounts base new from f conns
accounts_clock n (inl did) a = accounts_same did.1 a
accounts_clock n (inr did) a = accounts_quiet (clock n ∷ []) (ap (λ (s : Seen). s.log) did.1) (λ l. refl) (λ l is. ap (λ (s : Seen). s.come l) did.1 ∙ is) a

pub accounts_kept : {base now : Seen} {from f : Desk} (conns conns' : Slab Conn) → ((k : ℕ) → get conns' k ≡ get conns k) → Accounts base now from f conns → Accounts base now from f conns'
accounts_kept {base} {now} {from} {f} conns conns' same a = record {
  ran = a.ran;
  log = a.log;
  labels = a.labels;
  all = a.all;
  open_ones = λ k c gc. a.open_ones k c (sym (same k) ∙ gc);
  others = λ link nobody. a.others link (λ k c gc. nobody k c (same k ∙ gc));
  counted = a.counted;
  looks = λ n. shared_kept (seat_at from n).looks (seat_at f n).looks (looks_noted n a.ran) (open_looks n) conns conns' same (a.looks n);
  picks = λ n. shared_kept (seat_at from n).picks (seat_at f n).picks (picks_noted n a.ran) (open_picks n) conns conns' same (a.picks n);
  stand = a.stand;
  followed = λ k c gc. a.followed k c (sym (same k) ∙ gc);
}

-- a connection comes to a key
accounts_join : {base now : Seen} {from f : Desk} (conns conns' : Slab Conn) (key : ℕ) (d : Conn) → IsNobodys d.client.link conns → d.current.pinned ≡ false → IsFollowed now f d → get conns key ≡ None → get conns' key ≡ Some d → Others conns conns' key → Accounts base now from f conns → Accounts base now from f conns'
accounts_join {base} {now} {from} {f} conns conns' key d strange unpinned first vacant gd others a = record {
  ran = a.ran;
  log = a.log;
  labels = a.labels;
  all = a.all;
  open_ones = λ k x gx. elim (cases_eq k key) [
    | inl same ↦
        let here : get conns' key ≡ Some x = ap (get conns') (sym same) ∙ gx in
        let is : d ≡ x = cc in
        subst (λ (z : Conn). pinned_on z.client.link a.labels ≡ noted_on z.client.link a.ran ++ open_number z) is
        (a.others d.client.link strange ∙ sym (append-nil (noted_on d.client.link a.ran)) ∙ ap (λ (b : Bool). noted_on d.client.link a.ran ++ number_if b d.current.number) (sym unpinned))
    | inr ne ↦ a.open_ones k x (sym (others k ne) ∙ gx)
  ];
  others = λ link nobody. a.others link (λ k x gx. elim (cases_eq k key) [
    | inl same ↦ absurd (let here : get conns key ≡ Some x = ap (get conns) (sym same) ∙ gx in let f : ⊥ = cc in f)
    | inr ne ↦ nobody k x (others k ne ∙ gx)
  ]);
  counted = a.counted;
  looks = λ n. shared_join (seat_at from n).looks (seat_at f n).looks (looks_noted n a.ran) (open_looks n) conns conns' key d strange (ap (λ (b : Bool). list_if b (only_if (n == d.current.number) d.looks.items)) unpinned) vacant gd others (a.looks n);
  picks = λ n. shared_join (seat_at from n).picks (seat_at f n).picks (picks_noted n a.ran) (open_picks n) conns conns' key d strange (ap (λ (b : Bool). list_if b (only_if (n == d.current.number) d.picks.items)) unpinned) vacant gd others (a.picks n);
  stand = a.stand;
  followed = λ k x gx. elim (cases_eq k key) [
    | inl same ↦
        let here : get conns' key ≡ Some x = ap (get conns') (sym same) ∙ gx in
        let is : d ≡ x = cc in
        subst (λ (z : Conn). IsFollowed now f z) is first
    | inr ne ↦ a.followed k x (sym (others k ne) ∙ gx)
  ];
}

unpinned_first : {a : Arrival} {d : Conn} → JustCame a d → d.current.pinned ≡ false
unpinned_first {a} {d} began =
    let r = began.reached in
    let ph : PhaseHolds Open (first_steps a) d r.done r.last r.rest r.left r.kept.next = subst (λ (p : Phase). PhaseHolds p (first_steps a) d r.done r.last r.rest r.left r.kept.next) began.waits.phase r.phase in
    let st : AtStage Head d.client d.current d.input.items (pending_of d) r.done r.last r.rest = subst (λ (s : Stage). AtStage s d.client d.current d.input.items (pending_of d) r.done r.last r.rest) began.waits.stage ph.3 in
    st.unpinned

-- a client came
pub accounts_accept : {base now new : Seen} {from f : Desk} {g : List Plan} {steps : ℕ → List Step} (a : Arrival) (d : Conn) (conns conns' : Slab Conn) (key : ℕ) → AttendsBy now g steps conns → Came now a.link (came a.entry a.peer) new → JustCame a d → get conns key ≡ None → get conns' key ≡ Some d → Others conns conns' key → Accounts base now from f conns → Accounts base new from f conns'
accounts_accept {base} {now} {new} {from} {f} {g} {steps} a d conns conns' key at arrival began vacant gd others acc =
    accounts_join conns conns' key d strange (unpinned_first began) (followed_came now new f a d arrival began) vacant gd others
    (accounts_quiet (on a.link now.now (came a.entry a.peer) ∷ []) (ap (λ (s : Seen). s.log) arrival.same) (λ l. came_mute l a.link now.now a.entry a.peer) (came_later now new a arrival) acc)
  where
    strange : IsNobodys d.client.link conns
    strange k x gx same = let t = at.tracks k x gx in let come = t.ready.linked.come in let at_link = began.link in let not = arrival.not_come in let e : now.come x.client.link ≡ now.come a.link = ap now.come (same ∙ at_link) in let f : ⊥ = cc in f

pub on_ok : {P : Type 0} (r : Result (Unit {0}) AllocError) → IsOk r → OnOk r P → P
on_ok (Ok x) is h = h
on_ok (Err e) is h = absurd (let f : ⊥ = cc in f)

pub accounts_wait : {base now new : Seen} {from f : Desk} {conns : Slab Conn} (until : ℕ) → WaitDid now until (Ok tt) new → Accounts base now from f conns → Accounts base new from f conns
accounts_wait until is a = accounts_quiet (waited until ∷ []) (ap (λ (s : Seen). s.log) is) (λ l. refl) (λ l come. ap (λ (s : Seen). s.come l) is ∙ come) a

pub accounts_failed : {base now new : Seen} {from f : Desk} {conns : Slab Conn} (until : ℕ) (e : WaitFailed) → WaitDid now until (Err e) new → Accounts base now from f conns → Accounts base new from f conns
accounts_failed until e (n, more, is) a = accounts_quiet (wait_failed until ∷ []) (ap (λ (s : Seen). s.log) is) (λ l. refl) (λ l come. ap (λ (s : Seen). s.come l) is ∙ come) a

pub accounts_stop : {base now new : Seen} {from f : Desk} {conns : Slab Conn} → StopDid now true new → Accounts base now from f conns → Accounts base new from f conns
accounts_stop (n, more, is) a = accounts_quiet (asked true ∷ []) (ap (λ (s : Seen). s.log) is) (λ l. refl) (λ l come. ap (λ (s : Seen). s.come l) is ∙ come) a

pub accounts_unasked : {base now new : Seen} {from f : Desk} {conns : Slab Conn} → StopDid now false new → Accounts base now from f conns → Accounts base new from f conns
accounts_unasked is a = accounts_quiet (asked false ∷ []) (ap (λ (s : Seen). s.log) is) (λ l. refl) (λ l come. ap (λ (s : Seen). s.come l) is ∙ come) a
