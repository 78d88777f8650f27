-- Whose the looks and the picks of a shared desk are, after each call.
use Rattle.std.proofs.Common.{◌≡◌, ◌≢◌, ℕ, List, [], ◌∷◌, ◌++◌, map, Some, None, refl, sym, ◌∙◌, ap, subst, inl, inr}
use Rattle.std.specs.List.{flat_map}
use Rattle.std.proofs.lemmas.Bool.{cases_eq}
use Rattle.std.proofs.lemmas.List.{append-nil, append_assoc, map-append}
use Rattle.std.proofs.lemmas.List.Concat.{flat_map-append}
use Rattle.slab.specs.Slab.{Slab, get}
use Rattle.link_world.specs.declared.note.Note.{Note}
use Rattle.link_world.specs.declared.note.Look.{Look}
use Rattle.link_world.specs.declared.note.NodePick.{NodePick}
use Rattle.link_world.specs.Log.{Event, LinkEvent, history_of, notes, note_by, only_if}
use Rattle.link_world.specs.Seen.{Seen}
use Rattle.link_world.specs.Lately.{Lately}
use Rattle.conversation.specs.Steps.{Step, history}
use Rattle.desk.specs.Desks.{Desk, seat_at}
use Rattle.conn_machine.specs.declared.parts.Client.{Client}
use Rattle.conn_machine.specs.declared.conn.Conn.{Conn}
use Rattle.conn_service.specs.Choices.{looks_under, picks_under}
use Rattle.conn_service.specs.Moments.{moment}
use Rattle.conn_service.specs.Went.{Went}
use Rattle.conn_service.proofs.Lists.{same_link, other_link, looks-append, picks-append}
use Rattle.worker_loop.specs.Chosen.{looks_in, picks_in, looks_noted, picks_noted, open_looks, open_picks, IsNobodys, Labelled, made_of, made_for, IsShared}
use Rattle.worker_loop.specs.Spent.{IsFollowed}
use Rattle.worker_loop.proofs.Lists.{history-append, steps-append}
use Rattle.worker_loop.proofs.Servings.{Others}
use Rattle.worker_loop.proofs.Choosings.{looks_told, picks_told}

abbrev label_for : {A : Type 0} → ℕ → A → Labelled A
label_for link x = record { link = link; made = x }

abbrev labels_of : {A : Type 0} → ℕ → List A → List (Labelled A)
labels_of link xs = map (label_for link) xs

labels_made : {A : Type 0} (link : ℕ) (xs : List A) → map made_of (labels_of link xs) ≡ xs
labels_made link [] = refl
labels_made link (x ∷ xs) = ap (λ ys. x ∷ ys) (labels_made link xs)

labels_own : {A : Type 0} (link : ℕ) (xs : List A) → flat_map (made_for link) (labels_of link xs) ≡ xs
labels_own link [] = refl
labels_own link (x ∷ xs) = ap (λ b. only_if b (x ∷ []) ++ flat_map (made_for link) (labels_of link xs)) (same_link link) ∙ ap (λ ys. x ∷ ys) (labels_own link xs)

labels_other : {A : Type 0} (l link : ℕ) (xs : List A) → l ≢ link → flat_map (made_for l) (labels_of link xs) ≡ []
labels_other l link [] ne = refl
labels_other l link (x ∷ xs) ne = ap (λ b. only_if b (x ∷ []) ++ flat_map (made_for l) (labels_of link xs)) (other_link l link ne) ∙ labels_other l link xs ne

-- what one call adds: `added` at the desk for the client on this link, and its notes
pub record Shares (A : Type 0) (mid new : List A) (noted noted' : ℕ → List A) (link : ℕ) (before after : List A) (added : List A) : Type 0 where
  pub all : new ≡ mid ++ added
  pub own : noted' link ++ after ≡ (noted link ++ before) ++ added
  pub others : (l : ℕ) → l ≢ link → noted' l ≡ noted l

-- the labels of another link stay
stays : {A : Type 0} (l link : ℕ) (labels : List (Labelled A)) (added : List A) → l ≢ link → flat_map (made_for l) (labels ++ labels_of link added) ≡ flat_map (made_for l) labels
stays l link labels added ne =
    flat_map-append (made_for l) labels (labels_of link added) ∙ ap (λ xs. flat_map (made_for l) labels ++ xs) (labels_other l link added ne) ∙ append-nil (flat_map (made_for l) labels)

whole : {A : Type 0} (link : ℕ) (old mid new : List A) (labels : List (Labelled A)) (added : List A) → mid ≡ old ++ map made_of labels → new ≡ mid ++ added → new ≡ old ++ map made_of (labels ++ labels_of link added)
whole link old mid new labels added was is =
    is ∙ ap (λ xs. xs ++ added) was ∙ append_assoc old (map made_of labels) added
    ∙ ap (λ xs. old ++ (map made_of labels ++ xs)) (sym (labels_made link added)) ∙ ap (λ xs. old ++ xs) (sym (map-append made_of labels (labels_of link added)))

mine : {A : Type 0} (link : ℕ) (labels : List (Labelled A)) (added was is : List A) → flat_map (made_for link) labels ≡ was → is ≡ was ++ added → flat_map (made_for link) (labels ++ labels_of link added) ≡ is
mine link labels added was is e f =
    flat_map-append (made_for link) labels (labels_of link added) ∙ ap (λ xs. flat_map (made_for link) labels ++ xs) (labels_own link added) ∙ ap (λ xs. xs ++ added) e ∙ sym f

-- the connection goes on
pub shared_open : {A : Type 0} (old mid new : List A) (noted noted' : ℕ → List A) (waiting : Conn → List A) (added : List A) (c d : Conn) (conns conns' : Slab Conn) (key : ℕ)
    → get conns key ≡ Some c → get conns' key ≡ Some d → Others conns conns' key → d.client ≡ c.client
    → ((k : ℕ) (x : Conn) → get conns k ≡ Some x → k ≢ key → x.client.link ≢ c.client.link)
    → Shares A mid new noted noted' c.client.link (waiting c) (waiting d) added → IsShared A old mid noted waiting conns → IsShared A old new noted' waiting conns'
shared_open {A} old mid new noted noted' waiting added c d conns conns' key gc gd others client apart s a = record {
  labels = a.labels ++ labels_of c.client.link added;
  all = whole c.client.link old mid new a.labels added a.all s.all;
  open_ones = λ k x gx. elim (cases_eq k key) [
    | inl same ↦
        let here : get conns' key ≡ Some x = ap (get conns') (sym same) ∙ gx in
        let is : d ≡ x = cc in
        subst (λ (z : Conn). flat_map (made_for z.client.link) (a.labels ++ labels_of c.client.link added) ≡ noted' z.client.link ++ waiting z) is
        (subst (λ (z : Client). flat_map (made_for z.link) (a.labels ++ labels_of c.client.link added) ≡ noted' z.link ++ waiting d) (sym client)
        (mine c.client.link a.labels added (noted c.client.link ++ waiting c) (noted' c.client.link ++ waiting d) (a.open_ones key c gc) s.own))
    | inr ne ↦
        let gx0 : get conns k ≡ Some x = sym (others k ne) ∙ gx in
        stays x.client.link c.client.link a.labels added (apart k x gx0 ne) ∙ a.open_ones k x gx0 ∙ ap (λ xs. xs ++ waiting x) (sym (s.others x.client.link (apart k x gx0 ne)))
  ];
  others = λ link nobody.
      let away : link ≢ c.client.link = λ e. nobody key d gd (ap (λ (z : Client). z.link) client ∙ sym e) in
      stays link c.client.link a.labels added away
      ∙ a.others link (λ k x gx. elim (cases_eq k key) [
        | inl same ↦ λ e. let here : get conns key ≡ Some x = ap (get conns) (sym same) ∙ gx in let is : c ≡ x = cc in away (sym e ∙ ap (λ (z : Conn). z.client.link) (sym is))
        | inr ne ↦ nobody k x (others k ne ∙ gx)
      ])
      ∙ sym (s.others link away);
}

-- the connection ended
pub shared_over : {A : Type 0} (old mid new : List A) (noted noted' : ℕ → List A) (waiting : Conn → List A) (added : List A) (c : Conn) (conns conns' : Slab Conn) (key : ℕ)
    → get conns key ≡ Some c → get conns' key ≡ None → Others conns conns' key
    → ((k : ℕ) (x : Conn) → get conns k ≡ Some x → k ≢ key → x.client.link ≢ c.client.link)
    → Shares A mid new noted noted' c.client.link (waiting c) [] added → IsShared A old mid noted waiting conns → IsShared A old new noted' waiting conns'
shared_over {A} old mid new noted noted' waiting added c conns conns' key gc gone others apart s a = record {
  labels = a.labels ++ labels_of c.client.link added;
  all = whole c.client.link old mid new a.labels added a.all s.all;
  open_ones = λ k x gx. elim (cases_eq k key) [
    | inl same ↦ absurd (let here : get conns' key ≡ Some x = ap (get conns') (sym same) ∙ gx in let f : ⊥ = cc in f)
    | inr ne ↦
        let gx0 : get conns k ≡ Some x = sym (others k ne) ∙ gx in
        stays x.client.link c.client.link a.labels added (apart k x gx0 ne) ∙ a.open_ones k x gx0 ∙ ap (λ xs. xs ++ waiting x) (sym (s.others x.client.link (apart k x gx0 ne)))
  ];
  others = λ link nobody. elim (cases_eq link c.client.link) [
    | inl same ↦
        subst (λ (z : ℕ). flat_map (made_for z) (a.labels ++ labels_of c.client.link added) ≡ noted' z) (sym same)
        (mine c.client.link a.labels added (noted c.client.link ++ waiting c) (noted' c.client.link) (a.open_ones key c gc) (sym (append-nil (noted' c.client.link)) ∙ s.own))
    | inr away ↦
        stays link c.client.link a.labels added away
        ∙ a.others link (λ k x gx. elim (cases_eq k key) [
          | inl same ↦ λ e. let here : get conns key ≡ Some x = ap (get conns) (sym same) ∙ gx in let is : c ≡ x = cc in away (sym e ∙ ap (λ (z : Conn). z.client.link) (sym is))
          | inr ne ↦ nobody k x (others k ne ∙ gx)
        ])
        ∙ sym (s.others link away)
  ];
}

-- nothing was noted
pub shared_quiet : {A : Type 0} (old mid : List A) (noted noted' : ℕ → List A) (waiting : Conn → List A) (conns : Slab Conn) → ((l : ℕ) → noted' l ≡ noted l) → IsShared A old mid noted waiting conns → IsShared A old mid noted' waiting conns
shared_quiet old mid noted noted' waiting conns same a = record {
  labels = a.labels;
  all = a.all;
  open_ones = λ k c gc. a.open_ones k c gc ∙ ap (λ xs. xs ++ waiting c) (sym (same c.client.link));
  others = λ link nobody. a.others link nobody ∙ sym (same link);
}

pub shared_kept : {A : Type 0} (old mid : List A) (noted : ℕ → List A) (waiting : Conn → List A) (conns conns' : Slab Conn) → ((k : ℕ) → get conns' k ≡ get conns k) → IsShared A old mid noted waiting conns → IsShared A old mid noted waiting conns'
shared_kept old mid noted waiting conns conns' same a = record {
  labels = a.labels;
  all = a.all;
  open_ones = λ k c gc. a.open_ones k c (sym (same k) ∙ gc);
  others = λ link nobody. a.others link (λ k c gc. nobody k c (same k ∙ gc));
}

-- nothing was done yet
pub shared_none : {A : Type 0} (old : List A) (noted : ℕ → List A) (waiting : Conn → List A) (conns : Slab Conn) → ((k : ℕ) → get conns k ≡ None) → ((l : ℕ) → noted l ≡ []) → IsShared A old old noted waiting conns
shared_none old noted waiting conns none quiet = record {
  labels = [];
  all = sym (append-nil old);
  open_ones = λ k c gc. absurd (let e = none k in let f : ⊥ = cc in f);
  others = λ link nobody. sym (quiet link);
}

-- a connection comes to a key
pub shared_join : {A : Type 0} (old mid : List A) (noted : ℕ → List A) (waiting : Conn → List A) (conns conns' : Slab Conn) (key : ℕ) (d : Conn)
    → IsNobodys d.client.link conns → waiting d ≡ [] → get conns key ≡ None → get conns' key ≡ Some d → Others conns conns' key → IsShared A old mid noted waiting conns → IsShared A old mid noted waiting conns'
shared_join old mid noted waiting conns conns' key d strange none vacant gd others a = record {
  labels = a.labels;
  all = a.all;
  open_ones = λ k x gx. elim (cases_eq k key) [
    | inl same ↦
        let here : get conns' key ≡ Some x = ap (get conns') (sym same) ∙ gx in
        let is : d ≡ x = cc in
        subst (λ (z : Conn). flat_map (made_for z.client.link) a.labels ≡ noted z.client.link ++ waiting z) is
        (a.others d.client.link strange ∙ sym (append-nil (noted d.client.link)) ∙ ap (λ xs. noted d.client.link ++ xs) (sym none))
    | inr ne ↦ a.open_ones k x (sym (others k ne) ∙ gx)
  ];
  others = λ link nobody. a.others link (λ k x gx. elim (cases_eq k key) [
    | inl same ↦ absurd (let here : get conns key ≡ Some x = ap (get conns) (sym same) ∙ gx in let f : ⊥ = cc in f)
    | inr ne ↦ nobody k x (others k ne ∙ gx)
  ]);
}

cancels : {A : Type 0} (xs ys zs : List A) → xs ++ ys ≡ xs ++ zs → ys ≡ zs
cancels [] ys zs h = h
cancels (x ∷ xs) ys zs h = cancels xs ys zs (cc)

notes-append : (l : ℕ) (a b : List Event) → notes (history_of l (a ++ b)) ≡ notes (history_of l a) ++ notes (history_of l b)
notes-append l a b = ap notes (history-append l a b) ∙ flat_map-append note_by (history_of l a) (history_of l b)

-- what notes say of two stretches
pub said-append : {A : Type 0} (said : Note → List A) (l : ℕ) (a b : List Event) → flat_map said (notes (history_of l (a ++ b))) ≡ flat_map said (notes (history_of l a)) ++ flat_map said (notes (history_of l b))
said-append said l a b = ap (flat_map said) (notes-append l a b) ∙ flat_map-append said (notes (history_of l a)) (notes (history_of l b))

-- where nothing was noted
pub said_quiet : {A : Type 0} (said : Note → List A) (l : ℕ) (a b : List Event) → notes (history_of l b) ≡ [] → flat_map said (notes (history_of l (a ++ b))) ≡ flat_map said (notes (history_of l a))
said_quiet said l a b none = said-append said l a b ∙ ap (λ ns. flat_map said (notes (history_of l a)) ++ flat_map said ns) none ∙ append-nil (flat_map said (notes (history_of l a)))

-- what serving a connection adds, where the told notes and what waits are all that was made before and after
shares_by : {A : Type 0} {S : Type 0} {now new : Seen} {l m : Lately} {f g : Desk} {c d : Conn} (w : Went S (moment now l f c) (moment new m g d)) (said : Note → List A) (before after was added mid is : List A) (a_ran : List Event) (steps : List Step)
    → is ≡ mid ++ added
    → flat_map said (notes (history c.client.link steps)) ++ before ≡ was
    → flat_map said (notes (history d.client.link (steps ++ w.did))) ++ after ≡ was ++ added
    → Shares A mid is (λ k. flat_map said (notes (history_of k a_ran))) (λ k. flat_map said (notes (history_of k (a_ran ++ w.ran)))) c.client.link before after added
shares_by {A} {S} {now} {new} {l} {m} {f} {g} {c} {d} w said before after was added mid is a_ran steps all first next = record {
  all = all;
  own =
      ap (λ xs. xs ++ after) (said-append said link a_ran w.ran)
      ∙ append_assoc (of_log a_ran) (of_log w.ran) after
      ∙ ap (λ xs. of_log a_ran ++ xs) served
      ∙ sym (append_assoc (of_log a_ran) before added);
  others = λ k ne. said_quiet said k a_ran w.ran (ap notes (sym (w.world.shows k)) ∙ w.world.noted k ne);
}
  where
    link : ℕ
    link = c.client.link

    of_log : List Event → List A
    of_log ran = flat_map said (notes (history_of link ran))

    of_steps : List Step → List A
    of_steps told = flat_map said (notes (history link told))

    both : of_steps (steps ++ w.did) ≡ of_steps steps ++ of_steps w.did
    both = ap (λ (h : List LinkEvent). flat_map said (notes h)) (steps-append link steps w.did)
        ∙ ap (flat_map said) (flat_map-append note_by (history link steps) (history link w.did))
        ∙ flat_map-append said (notes (history link steps)) (notes (history link w.did))

    later : of_steps (steps ++ w.did) ++ after ≡ was ++ added
    later = subst (λ (k : Client). flat_map said (notes (history k.link (steps ++ w.did))) ++ after ≡ was ++ added) w.conn.client next

    served : of_log w.ran ++ after ≡ before ++ added
    served = ap (λ (h : List LinkEvent). flat_map said (notes h) ++ after) (sym (w.world.shows link))
        ∙ cancels (of_steps steps) (of_steps w.did ++ after) (before ++ added)
        (sym (append_assoc (of_steps steps) (of_steps w.did) after) ∙ ap (λ xs. xs ++ after) (sym both) ∙ later ∙ ap (λ xs. xs ++ added) (sym first) ∙ append_assoc (of_steps steps) before added)

-- the looks that serving a connection adds
pub shares_looks : {S : Type 0} {now new : Seen} {l m : Lately} {f g : Desk} {c d : Conn} (n : ℕ) (a_ran : List Event) (w : Went S (moment now l f c) (moment new m g d)) (x : IsFollowed now f c) → c.notes.items ≡ [] → d.notes.items ≡ []
    → Shares Look (seat_at f n).looks (seat_at g n).looks (looks_noted n a_ran) (looks_noted n (a_ran ++ w.ran)) c.client.link (open_looks n c) (open_looks n d) (looks_under n c.current.number w.did)
shares_looks {S} {now} {new} {l} {m} {f} {g} {c} {d} n a_ran w x none_c none_d =
    shares_by w (looks_in n) (open_looks n c) (open_looks n d) (looks_under n 0 x.steps) (looks_under n c.current.number w.did) (seat_at f n).looks (seat_at g n).looks a_ran x.steps
    (w.desk.looks n) (looks_told n x.stands.reached none_c)
    (looks_told n (w.conn.reached x.steps x.stands) none_d ∙ looks-append n 0 x.steps w.did ∙ ap (λ (k : ℕ). looks_under n 0 x.steps ++ looks_under n k w.did) x.number)

-- and the picks
pub shares_picks : {S : Type 0} {now new : Seen} {l m : Lately} {f g : Desk} {c d : Conn} (n : ℕ) (a_ran : List Event) (w : Went S (moment now l f c) (moment new m g d)) (x : IsFollowed now f c) → c.notes.items ≡ [] → d.notes.items ≡ []
    → Shares NodePick (seat_at f n).picks (seat_at g n).picks (picks_noted n a_ran) (picks_noted n (a_ran ++ w.ran)) c.client.link (open_picks n c) (open_picks n d) (picks_under n c.current.number w.did)
shares_picks {S} {now} {new} {l} {m} {f} {g} {c} {d} n a_ran w x none_c none_d =
    shares_by w (picks_in n) (open_picks n c) (open_picks n d) (picks_under n 0 x.steps) (picks_under n c.current.number w.did) (seat_at f n).picks (seat_at g n).picks a_ran x.steps
    (w.desk.picks n) (picks_told n x.stands.reached none_c)
    (picks_told n (w.conn.reached x.steps x.stands) none_d ∙ picks-append n 0 x.steps w.did ∙ ap (λ (k : ℕ). picks_under n 0 x.steps ++ picks_under n k w.did) x.number)
