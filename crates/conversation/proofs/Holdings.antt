-- What each event leaves of what a machine keeps.
use Rattle.std.proofs.Common.{zero, suc, take, drop, length, ◌≡◌, ◌≢◌, ◌⊎◌, inl, inr, ℕ, ◌+◌, ◌<◌, ◌≤◌, List, [], ◌∷◌, ◌++◌, Option, Some, None, refl, sym, ◌∙◌, ap, subst, arith, Bool, true, false}
use Rattle.std.specs.List.{flat_map, AllByRecursion, Contains}
use Rattle.std.proofs.lemmas.List.{append-nil, append_assoc, length-append}
use Rattle.std.proofs.lemmas.List.Concat.{flat_map-append}
use Rattle.std.proofs.lemmas.List.Elements.{Contains-append_left, Contains-push}
use Rattle.ip_net.specs.declared.ip.Ip.{Ip}
use Rattle.link_world.specs.declared.note.Note.{Note}
use Rattle.link_world.specs.declared.note.EndCause.{EndCause}
use Rattle.link_world.specs.declared.note.EndCause.TheVariants.{Client, ClientFailed, Asked, Refused, Unread, Idle, Count, Cut, CutLate, Stopped, Memory}
use Rattle.link_world.specs.declared.note.Look.{Look}
use Rattle.link_world.specs.declared.note.NodePick.{NodePick}
use Rattle.link_world.specs.declared.note.Cause.TheVariants.{Undecided}
use Rattle.link_world.specs.Log.{LinkEvent, came, gave, gave_end, took, noted, given, taken, notes, ends, given_by, taken_by, note_by, end_by}
use Rattle.conversation.specs.Plans.{Plan}
use Rattle.conversation.specs.Steps.{Step, Choice, of_plan, happened, history, failures, stops, pins}
use Rattle.conversation.specs.Asks.{Ask}
use Rattle.conversation.specs.Turns.{Turn, links_of, note_of, HasAnswer}
use Rattle.conversation.specs.Served.{of_all, of_last, item_of, reply_of, pin_of, looks_of, picks_of, spents_of, chosen_by, choices_of, backs_of, notes_of, IfLast, AreDistinct, AreNumbered, Rises, IsWhole, EndedWithin, IsHeadPart, EndHolds, end_note, Served}
use Rattle.conversation.specs.Holding.{Told, told, Holds, Sound, IsReplyKnown, IsUntaken, EndedIn}
use Rattle.conversation.proofs.Tellings.{history_more, failures_happened, stops_happened}

pub all_both : {X : Type 0} (P : X → Type 0) (xs ys : List X) → AllByRecursion P xs → AllByRecursion P ys → AllByRecursion P (xs ++ ys)
all_both P [] ys h k = k
all_both P (x ∷ xs) ys h k = (h.0, all_both P xs ys h.1 k)

pub given_more : (h : List LinkEvent) (e : LinkEvent) → given (h ++ e ∷ []) ≡ given h ++ given_by e
given_more h e = flat_map-append given_by h (e ∷ []) ∙ ap (λ (l : List ℕ). given h ++ l) (append-nil (given_by e))

pub taken_more : (h : List LinkEvent) (e : LinkEvent) → taken (h ++ e ∷ []) ≡ taken h ++ taken_by e
taken_more h e = flat_map-append taken_by h (e ∷ []) ∙ ap (λ (l : List ℕ). taken h ++ l) (append-nil (taken_by e))

pub notes_more : (h : List LinkEvent) (e : LinkEvent) → notes (h ++ e ∷ []) ≡ notes h ++ note_by e
notes_more h e = flat_map-append note_by h (e ∷ []) ∙ ap (λ (l : List Note). notes h ++ l) (append-nil (note_by e))

pub ends_more : (h : List LinkEvent) (e : LinkEvent) → ends h ≢ [] → ends (h ++ e ∷ []) ≢ []
ends_more h e some none = some (front (ends h) (ends (e ∷ [])) (sym (flat_map-append end_by h (e ∷ [])) ∙ none))
  where
    front : (xs ys : List (Unit {0})) → xs ++ ys ≡ [] → xs ≡ []
    front [] ys is = refl
    front (x ∷ xs) ys is = cc

pub ends_end : (h : List LinkEvent) → ends (h ++ gave_end ∷ []) ≢ []
ends_end h none = some (ends h) (sym (flat_map-append end_by h (gave_end ∷ [])) ∙ none)
  where
    some : (xs : List (Unit {0})) → xs ++ tt ∷ [] ≢ []
    some [] is = cc
    some (x ∷ xs) is = cc

-- the end stays where it came
pub ended_more : {h : List LinkEvent} {done : List Turn} {last : Option Turn} (e : LinkEvent) → EndedIn h done last → EndedIn (h ++ e ∷ []) done last
ended_more e x = record {
  before = x.before;
  after = x.after ++ e ∷ [];
  parts = ap (λ (l : List LinkEvent). l ++ e ∷ []) x.parts ∙ append_assoc x.before (gave_end ∷ x.after) (e ∷ []);
  covers = x.covers;
  untaken = x.untaken;
}

-- and it came
pub ended_ends : {h : List LinkEvent} {done : List Turn} {last : Option Turn} → EndedIn h done last → ends h ≢ []
ended_ends {h} x none = some (ends x.before) (ends x.after) (sym (flat_map-append end_by x.before (gave_end ∷ x.after)) ∙ sym (ap ends x.parts) ∙ none)
  where
    some : (xs ys : List (Unit {0})) → xs ++ tt ∷ ys ≢ []
    some [] ys is = cc
    some (x ∷ xs) ys is = cc

-- the last request becomes this one
pub ended_last : {h : List LinkEvent} {done : List Turn} {last : Option Turn} {v : Turn} (x : EndedIn h done last) → (IsReplyKnown v → IsUntaken (taken x.before) done v) → EndedIn h done (Some v)
ended_last x untaken = record { before = x.before; after = x.after; parts = x.parts; covers = x.covers; untaken = untaken }

-- what was taken by then is at most what was taken
early_taken : {h : List LinkEvent} {done : List Turn} {last : Option Turn} (x : EndedIn h done last) → length (taken x.before) ≤ length (taken h)
early_taken {h} x =
    let e : taken h ≡ taken x.before ++ taken (gave_end ∷ x.after) = ap taken x.parts ∙ flat_map-append taken_by x.before (gave_end ∷ x.after) in
    let n : length (taken h) ≡ length (taken x.before ++ taken (gave_end ∷ x.after)) = ap (length {A = ℕ}) e in
    let m : length (taken x.before ++ taken (gave_end ∷ x.after)) ≡ length (taken x.before) + length (taken (gave_end ∷ x.after)) = length-append (taken x.before) (taken (gave_end ∷ x.after)) in
    omega (arith, n, m)

some_length : (xs : List ℕ) → xs ≢ [] → 0 < length xs
some_length [] some = absurd (some refl)
some_length (x ∷ xs) some = omega arith

-- some of the replies is left
pub some_left : (gone left : List ℕ) (done : List Turn) (v : Turn) → gone ++ left ≡ flat_map reply_of done ++ v.reply → left ≢ [] → IsUntaken gone done v
some_left gone left done v is some =
    let n : length (gone ++ left) ≡ length (flat_map reply_of done ++ v.reply) = ap (length {A = ℕ}) is in
    let m : length (gone ++ left) ≡ length gone + length left = length-append gone left in
    let p : 0 < length left = some_length left some in
    omega (arith, n, m, p)

-- one more list in all
close_list : {A : Type 0} (f : Turn → List A) (done : List Turn) (u : Turn) (xs : List A) → xs ≡ of_all f done (Some u) → xs ≡ of_all f (done ++ u ∷ []) None
close_list f done u xs h =
    h ∙ sym (append-nil (flat_map f (done ++ u ∷ [])) ∙ flat_map-append f done (u ∷ []) ∙ ap (λ l. flat_map f done ++ l) (append-nil (f u)))

-- an event on the client's link
event : {t : Told} {link : ℕ} {entry : List ℕ} {peer : Ip} {done : List Turn} {last : Option Turn} {rest left : List ℕ} {waiting closed ending : List Note} {over : Bool} {number next : ℕ}
    (e : LinkEvent) {rest' left' : List ℕ} {waiting' closed' ending' : List Note} {over' : Bool}
    → rest' ≡ rest ++ given_by e → left ≡ taken_by e ++ left'
    → (notes t.events ++ note_by e) ++ waiting' ≡ (flat_map (notes_of link) done ++ closed') ++ ending'
    → (over' ≡ true → EndedIn (t.events ++ e ∷ []) done last)
    → Holds t link entry peer done last rest left waiting closed ending over number next
    → Holds (record t { events = t.events ++ e ∷ [] }) link entry peer done last rest' left' waiting' closed' ending' over' number next
event {t} {link} {entry} {peer} {done} {last} {rest} {left} e {rest'} {left'} {waiting'} {closed'} {ending'} in_rest in_left in_notes in_ends r = record {
  arrived = (r.arrived.0 ++ e ∷ [], ap (λ (l : List LinkEvent). l ++ e ∷ []) r.arrived.1);
  reads = given_more t.events e ∙ ap (λ (l : List ℕ). l ++ given_by e) r.reads ∙ append_assoc (of_all item_of done last) rest (given_by e) ∙ ap (λ (l : List ℕ). of_all item_of done last ++ l) (sym in_rest);
  spells = ap (λ (l : List ℕ). l ++ left') (taken_more t.events e) ∙ append_assoc (taken t.events) (taken_by e) left' ∙ ap (λ (l : List ℕ). taken t.events ++ l) (sym in_left) ∙ r.spells;
  covers = (r.covers.0 ++ taken_by e, taken_more t.events e ∙ ap (λ (l : List ℕ). l ++ taken_by e) r.covers.1 ∙ append_assoc (flat_map reply_of done) r.covers.0 (taken_by e));
  noted = ap (λ (l : List Note). l ++ waiting') (notes_more t.events e) ∙ in_notes;
  pinned = r.pinned;
  looked = r.looked;
  picked = r.picked;
  refused = r.refused;
  chosen = r.chosen;
  own = r.own;
  links = r.links;
  rising = r.rising;
  numbered = r.numbered;
  numbered_last = r.numbered_last;
  whole = r.whole;
  closes = in_ends;
}

-- a client came
pub holds_came : (link : ℕ) (entry : List ℕ) (peer : Ip) → Holds (record { events = came entry peer ∷ []; others = []; pins = []; looks = []; picks = []; spents = []; choices = [] }) link entry peer [] None [] [] [] [] [] false 0 1
holds_came link entry peer = record {
  arrived = ([], refl);
  reads = refl;
  spells = refl;
  covers = ([], refl);
  noted = refl;
  pinned = refl;
  looked = refl;
  picked = refl;
  refused = refl;
  chosen = refl;
  own = tt;
  links = tt;
  rising = omega arith;
  numbered = refl;
  numbered_last = tt;
  whole = tt;
  closes = λ (is : false ≡ true). absurd (let f : ⊥ = cc in f);
}

-- it gave this
pub holds_gave : {t : Told} {link : ℕ} {entry : List ℕ} {peer : Ip} {done : List Turn} {last : Option Turn} {rest left : List ℕ} {waiting closed ending : List Note} {over : Bool} {number next : ℕ}
    (piece : List ℕ) {rest' : List ℕ} → rest' ≡ rest ++ piece
    → Holds t link entry peer done last rest left waiting closed ending over number next
    → Holds (record t { events = t.events ++ gave piece ∷ [] }) link entry peer done last rest' left waiting closed ending over number next
holds_gave {t} {waiting} piece is r = event (gave piece) is refl (ap (λ (l : List Note). l ++ waiting) (append-nil (notes t.events)) ∙ r.noted) (λ c. ended_more (gave piece) (r.closes c)) r

-- it gave its end
pub holds_over : {t : Told} {link : ℕ} {entry : List ℕ} {peer : Ip} {done : List Turn} {last : Option Turn} {rest left : List ℕ} {waiting closed ending : List Note} {over : Bool} {number next : ℕ}
    → Holds t link entry peer done last rest left waiting closed ending over number next → IfLast (λ u. IsReplyKnown u → IsUntaken (taken t.events) done u) last
    → Holds (record t { events = t.events ++ gave_end ∷ [] }) link entry peer done last rest left waiting closed ending true number next
holds_over {t} {rest} {waiting} r untaken =
    event gave_end (sym (append-nil rest)) refl (ap (λ (l : List Note). l ++ waiting) (append-nil (notes t.events)) ∙ r.noted)
    (λ c. record { before = t.events; after = []; parts = refl; covers = r.covers; untaken = untaken }) r

-- what is said of its end is forgotten
pub holds_forgot : {t : Told} {link : ℕ} {entry : List ℕ} {peer : Ip} {done : List Turn} {last : Option Turn} {rest left : List ℕ} {waiting closed ending : List Note} {over : Bool} {number next : ℕ}
    → Holds t link entry peer done last rest left waiting closed ending over number next → Holds t link entry peer done last rest left waiting closed ending false number next
holds_forgot r = record {
  arrived = r.arrived;
  reads = r.reads;
  spells = r.spells;
  covers = r.covers;
  noted = r.noted;
  pinned = r.pinned;
  looked = r.looked;
  picked = r.picked;
  refused = r.refused;
  chosen = r.chosen;
  own = r.own;
  links = r.links;
  rising = r.rising;
  numbered = r.numbered;
  numbered_last = r.numbered_last;
  whole = r.whole;
  closes = λ (is : false ≡ true). absurd (let f : ⊥ = cc in f);
}

cut : (n : ℕ) (xs : List ℕ) → xs ≡ take n xs ++ drop n xs
cut zero xs = refl
cut (suc n) [] = refl
cut (suc n) (x ∷ xs) = ap (λ (l : List ℕ). x ∷ l) (cut n xs)

pub cut_at : (n : ℕ) (xs : List ℕ) → xs ≡ take n xs ++ drop n xs
cut_at n xs = cut n xs

-- it took the first bytes
pub holds_took : {t : Told} {link : ℕ} {entry : List ℕ} {peer : Ip} {done : List Turn} {last : Option Turn} {rest left : List ℕ} {waiting closed ending : List Note} {over : Bool} {number next : ℕ}
    (n : ℕ) {left' : List ℕ} → left' ≡ drop n left
    → Holds t link entry peer done last rest left waiting closed ending over number next
    → Holds (record t { events = t.events ++ took (take n left) ∷ [] }) link entry peer done last rest left' waiting closed ending over number next
holds_took {t} {rest} {left} {waiting} n {left'} is r =
    event (took (take n left)) (sym (append-nil rest)) (cut n left ∙ ap (λ (l : List ℕ). take n left ++ l) (sym is))
    (ap (λ (l : List Note). l ++ waiting) (append-nil (notes t.events)) ∙ r.noted) (λ c. ended_more (took (take n left)) (r.closes c)) r

-- a note that waited is told
pub holds_told : {t : Told} {link : ℕ} {entry : List ℕ} {peer : Ip} {done : List Turn} {last : Option Turn} {rest left : List ℕ} {waiting closed ending : List Note} {over : Bool} {number next : ℕ}
    (note : Note) {waiting' : List Note} → waiting ≡ note ∷ waiting'
    → Holds t link entry peer done last rest left waiting closed ending over number next
    → Holds (record t { events = t.events ++ noted note ∷ [] }) link entry peer done last rest left waiting' closed ending over number next
holds_told {t} {rest} note {waiting'} is r =
    event (noted note) (sym (append-nil rest)) refl (append_assoc (notes t.events) (note ∷ []) waiting' ∙ ap (λ (l : List Note). notes t.events ++ l) (sym is) ∙ r.noted)
    (λ c. ended_more (noted note) (r.closes c)) r

-- the note of the last request is told
pub holds_closed : {t : Told} {link : ℕ} {entry : List ℕ} {peer : Ip} {done : List Turn} {last : Option Turn} {rest left : List ℕ} {waiting : List Note} {over : Bool} {number next : ℕ}
    (note : Note) → waiting ≡ []
    → Holds t link entry peer done last rest left waiting [] [] over number next
    → Holds (record t { events = t.events ++ noted note ∷ [] }) link entry peer done last rest left waiting (note ∷ []) [] over number next
holds_closed {t} {link} {done} {rest} {waiting} note none r =
    event (noted note) (sym (append-nil rest)) refl in_notes (λ c. ended_more (noted note) (r.closes c)) r
  where
    before : notes t.events ≡ flat_map (notes_of link) done
    before = sym (append-nil (notes t.events)) ∙ ap (λ (l : List Note). notes t.events ++ l) (sym none) ∙ r.noted ∙ append-nil (flat_map (notes_of link) done ++ []) ∙ append-nil (flat_map (notes_of link) done)

    in_notes : (notes t.events ++ note ∷ []) ++ waiting ≡ (flat_map (notes_of link) done ++ note ∷ []) ++ []
    in_notes = ap (λ (l : List Note). (notes t.events ++ note ∷ []) ++ l) none ∙ ap (λ (l : List Note). (l ++ note ∷ []) ++ []) before

-- the end's note is told
pub holds_ended : {t : Told} {link : ℕ} {entry : List ℕ} {peer : Ip} {done : List Turn} {last : Option Turn} {rest left : List ℕ} {waiting closed : List Note} {over : Bool} {number next : ℕ}
    (note : Note) → waiting ≡ []
    → Holds t link entry peer done last rest left waiting closed [] over number next
    → Holds (record t { events = t.events ++ noted note ∷ [] }) link entry peer done last rest left waiting closed (note ∷ []) over number next
holds_ended {t} {link} {done} {rest} {waiting} {closed} note none r =
    event (noted note) (sym (append-nil rest)) refl in_notes (λ c. ended_more (noted note) (r.closes c)) r
  where
    before : notes t.events ≡ flat_map (notes_of link) done ++ closed
    before = sym (append-nil (notes t.events)) ∙ ap (λ (l : List Note). notes t.events ++ l) (sym none) ∙ r.noted ∙ append-nil (flat_map (notes_of link) done ++ closed)

    in_notes : (notes t.events ++ note ∷ []) ++ waiting ≡ (flat_map (notes_of link) done ++ closed) ++ note ∷ []
    in_notes = ap (λ (l : List Note). (notes t.events ++ note ∷ []) ++ l) none ∙ append-nil (notes t.events ++ note ∷ []) ∙ ap (λ (l : List Note). l ++ note ∷ []) before

rises_more : (from : ℕ) (ps : List Plan) (to : ℕ) (p : Plan) → Rises from ps to → to ≤ p.number → Rises from (ps ++ p ∷ []) p.number
rises_more from [] to p h le = (omega arith, omega arith)
rises_more from (q ∷ ps) to p h le = (h.0, rises_more q.number ps to p h.1 le)

add_last : {A : Type 0} (f : Turn → List A) (done : List Turn) (u : Turn) (xs : List A) → xs ≡ of_all f done None → f u ≡ [] → xs ≡ of_all f done (Some u)
add_last f done u xs h none = h ∙ ap (λ l. flat_map f done ++ l) (sym none)

-- a request that was just pinned
abbrev pub fresh_turn : ℕ → List ℕ → Ask → Plan → Turn
fresh_turn index item ask p = record {
  index = index;
  item = item;
  ask = ask;
  plan = p;
  router = None;
  status = 0;
  cause = Undecided;
  looks = [];
  picks = [];
  spents = [];
  back = None;
  reply = [];
  whole = false;
}

fresh_unknown : (index : ℕ) (item : List ℕ) (ask : Ask) (p : Plan) → IsReplyKnown (fresh_turn index item ask p) → ⊥
fresh_unknown index item ask p (inl whole) = let e : false ≡ true = whole in let f : ⊥ = cc in f
fresh_unknown index item ask p (inr (r, b, asked, back, given_)) = let e : None ≡ Some b = back in let f : ⊥ = cc in f

-- the next request is pinned
pub holds_pinned : {t : Told} {link : ℕ} {entry : List ℕ} {peer : Ip} {done : List Turn} {rest left : List ℕ} {waiting closed ending : List Note} {over : Bool} {number next : ℕ}
    (item : List ℕ) (ask : Ask) (p : Plan) {rest' : List ℕ} → rest ≡ item ++ rest' → number ≤ p.number
    → Holds t link entry peer done None rest left waiting closed ending over number next
    → Holds (record t { pins = t.pins ++ p ∷ []; choices = t.choices ++ of_plan p ∷ [] }) link entry peer done (Some (fresh_turn next item ask p)) rest' left waiting closed ending over p.number next
holds_pinned {t} {link} {entry} {peer} {done} {rest} {left} {number} {next} item ask p {rest'} in_rest le r = record {
  arrived = r.arrived;
  reads = r.reads ∙ ap (λ (l : List ℕ). (flat_map item_of done ++ []) ++ l) in_rest ∙ ap (λ (l : List ℕ). l ++ (item ++ rest')) (append-nil (flat_map item_of done)) ∙ sym (append_assoc (flat_map item_of done) item rest');
  spells = add_last reply_of done (fresh_turn next item ask p) (taken t.events ++ left) r.spells refl;
  covers = r.covers;
  noted = r.noted;
  pinned = ap (λ (l : List Plan). l ++ p ∷ []) (r.pinned ∙ append-nil (flat_map pin_of done));
  looked = add_last looks_of done (fresh_turn next item ask p) t.looks r.looked refl;
  picked = add_last picks_of done (fresh_turn next item ask p) t.picks r.picked refl;
  refused = add_last spents_of done (fresh_turn next item ask p) t.spents r.refused refl;
  chosen = ap (λ (l : List Choice). l ++ of_plan p ∷ []) (r.chosen ∙ append-nil (flat_map choices_of done));
  own = r.own;
  links = r.links;
  rising = rises_more 0 t.pins number p r.rising le;
  numbered = r.numbered;
  numbered_last = refl;
  whole = r.whole;
  closes = λ c. ended_last (r.closes c) (λ d. absurd (fresh_unknown next item ask p d));
}

-- the same of the last request, but for its answer
pub record SameTurn (u v : Turn) : Type 0 where
  pub index : v.index ≡ u.index
  pub item : v.item ≡ u.item
  pub plan : v.plan ≡ u.plan
  pub looks : v.looks ≡ u.looks
  pub picks : v.picks ≡ u.picks
  pub spents : v.spents ≡ u.spents

same_choices : (p q : Plan) (l m : List Look) (k j : List NodePick) (x y : List ℕ) → p ≡ q → l ≡ m → k ≡ j → x ≡ y → chosen_by p l k x ≡ chosen_by q m j y
same_choices p q l m k j x y a b c d = rw (a, b, c, d) refl

-- a number that is none of these may follow them
distinct_push : (ns : List ℕ) (n : ℕ) → AllByRecursion (λ (m : ℕ). m ≢ n) ns → AreDistinct ns → AreDistinct (ns ++ n ∷ [])
distinct_push [] n other d = (tt, tt)
distinct_push (m ∷ ns) n other d = (all_both (λ (k : ℕ). k ≢ m) ns (n ∷ []) d.0 ((λ (is : n ≡ m). other.0 (sym is)), tt), distinct_push ns n other.1 d.1)

-- with the last request the links of all stay apart, and none of them is lost
pub record KeepsLinks (done : List Turn) (u v : Turn) : Type 0 where
  pub own : AreDistinct (of_all backs_of done (Some u)) → AreDistinct (of_all backs_of done (Some v))
  pub links : (l : ℕ) → Contains (of_all backs_of done (Some u)) l → Contains (of_all backs_of done (Some v)) l

-- the last request is on the link that it was on
pub own_same : (done : List Turn) (u v : Turn) → links_of v.back ≡ links_of u.back → KeepsLinks done u v
own_same done u v is =
    let same : of_all backs_of done (Some u) ≡ of_all backs_of done (Some v) = ap (λ (l : List ℕ). flat_map backs_of done ++ l) (sym is) in
    record {
      own = λ d. subst AreDistinct same d;
      links = λ l h. subst (λ (x : List ℕ). Contains x l) same h;
    }

-- it is on a link that none of the others was on
pub own_new : (done : List Turn) (u v : Turn) (link : ℕ) → links_of u.back ≡ [] → links_of v.back ≡ link ∷ [] → AllByRecursion (λ (n : ℕ). n ≢ link) (flat_map backs_of done) → KeepsLinks done u v
own_new done u v link none one other =
    let before : of_all backs_of done (Some u) ≡ flat_map backs_of done = ap (λ (l : List ℕ). flat_map backs_of done ++ l) none ∙ append-nil (flat_map backs_of done) in
    let after : flat_map backs_of done ++ link ∷ [] ≡ of_all backs_of done (Some v) = ap (λ (l : List ℕ). flat_map backs_of done ++ l) (sym one) in
    record {
      own = λ d. subst AreDistinct after (distinct_push (flat_map backs_of done) link other (subst AreDistinct before d));
      links = λ l h. subst (λ (x : List ℕ). Contains x l) after (Contains-append_left (flat_map backs_of done) (link ∷ []) l (subst (λ (x : List ℕ). Contains x l) before h));
    }

all_by : {X : Type 0} (P Q : X → Type 0) (xs : List X) → ((x : X) → P x → Q x) → AllByRecursion P xs → AllByRecursion Q xs
all_by P Q [] f h = tt
all_by P Q (x ∷ xs) f h = (f x h.0, all_by P Q xs f h.1)

-- the last request is on its link
pub last_link : (done : List Turn) (v : Turn) (link : ℕ) → links_of v.back ≡ link ∷ [] → Contains (of_all backs_of done (Some v)) link
last_link done v link one = subst (λ (l : List ℕ). Contains (flat_map backs_of done ++ l) link) (sym one) (Contains-push (flat_map backs_of done) link)

-- one more link of requests is told of
pub more_links : (done : List Turn) (last : Option Turn) (link : ℕ) (others : List ℕ) → Contains (of_all backs_of done last) link
    → AllByRecursion (Contains (of_all backs_of done last)) others → AllByRecursion (Contains (of_all backs_of done last)) (others ++ link ∷ [])
more_links done last link others one h = all_both (Contains (of_all backs_of done last)) others (link ∷ []) h (one, tt)

-- other links are told of
pub holds_others : {t : Told} {link : ℕ} {entry : List ℕ} {peer : Ip} {done : List Turn} {last : Option Turn} {rest left : List ℕ} {waiting closed ending : List Note} {over : Bool} {number next : ℕ}
    (others : List ℕ) → (AllByRecursion (Contains (of_all backs_of done last)) t.others → AllByRecursion (Contains (of_all backs_of done last)) others)
    → Holds t link entry peer done last rest left waiting closed ending over number next
    → Holds (record t { others = others }) link entry peer done last rest left waiting closed ending over number next
holds_others others more r = record {
  arrived = r.arrived;
  reads = r.reads;
  spells = r.spells;
  covers = r.covers;
  noted = r.noted;
  pinned = r.pinned;
  looked = r.looked;
  picked = r.picked;
  refused = r.refused;
  chosen = r.chosen;
  own = r.own;
  links = more r.links;
  rising = r.rising;
  numbered = r.numbered;
  numbered_last = r.numbered_last;
  whole = r.whole;
  closes = r.closes;
}

-- the last request's reply goes on
pub holds_replied : {t : Told} {link : ℕ} {entry : List ℕ} {peer : Ip} {done : List Turn} {u : Turn} {rest left : List ℕ} {waiting closed ending : List Note} {over : Bool} {number next : ℕ}
    (v : Turn) (more : List ℕ) {left' : List ℕ} → SameTurn u v → v.reply ≡ u.reply ++ more → left' ≡ left ++ more → (over ≡ true → IsReplyKnown v → IsReplyKnown u ⊎ (left' ≢ []))
    → KeepsLinks done u v
    → Holds t link entry peer done (Some u) rest left waiting closed ending over number next
    → Holds t link entry peer done (Some v) rest left' waiting closed ending over number next
holds_replied {t} {link} {entry} {peer} {done} {u} {rest} {left} v more {left'} same in_reply in_left decides own r = record {
  arrived = r.arrived;
  reads = r.reads ∙ ap (λ (l : List ℕ). (flat_map item_of done ++ l) ++ rest) (sym same.item);
  spells = spelled;
  covers = r.covers;
  noted = r.noted;
  pinned = r.pinned ∙ ap (λ (p : Plan). flat_map pin_of done ++ p ∷ []) (sym same.plan);
  looked = r.looked ∙ ap (λ (l : List Look). flat_map looks_of done ++ l) (sym same.looks);
  picked = r.picked ∙ ap (λ (l : List NodePick). flat_map picks_of done ++ l) (sym same.picks);
  refused = r.refused ∙ ap (λ (l : List ℕ). flat_map spents_of done ++ l) (sym same.spents);
  chosen = r.chosen ∙ ap (λ (l : List Choice). flat_map choices_of done ++ l) (sym (same_choices v.plan u.plan v.looks u.looks v.picks u.picks v.spents u.spents same.plan same.looks same.picks same.spents));
  own = own.own r.own;
  links = all_by (Contains (of_all backs_of done (Some u))) (Contains (of_all backs_of done (Some v))) t.others own.links r.links;
  rising = r.rising;
  numbered = r.numbered;
  numbered_last = same.index ∙ r.numbered_last;
  whole = r.whole;
  closes = λ c. ended_last (r.closes c) (λ d. untaken (r.closes c) (decides c d));
}
  where
    spelled : taken t.events ++ left' ≡ flat_map reply_of done ++ v.reply
    spelled = ap (λ (l : List ℕ). taken t.events ++ l) in_left ∙ sym (append_assoc (taken t.events) left more) ∙ ap (λ (l : List ℕ). l ++ more) r.spells ∙ append_assoc (flat_map reply_of done) u.reply more ∙ ap (λ (l : List ℕ). flat_map reply_of done ++ l) (sym in_reply)

    untaken : (x : EndedIn t.events done (Some u)) → IsReplyKnown u ⊎ (left' ≢ []) → IsUntaken (taken x.before) done v
    untaken x (inl decided) =
        let n : length (taken x.before) < length (flat_map reply_of done ++ u.reply) = x.untaken decided in
        let e : flat_map reply_of done ++ v.reply ≡ (flat_map reply_of done ++ u.reply) ++ more = ap (λ (l : List ℕ). flat_map reply_of done ++ l) in_reply ∙ sym (append_assoc (flat_map reply_of done) u.reply more) in
        let l : length (flat_map reply_of done ++ v.reply) ≡ length ((flat_map reply_of done ++ u.reply) ++ more) = ap (length {A = ℕ}) e in
        let k : length ((flat_map reply_of done ++ u.reply) ++ more) ≡ length (flat_map reply_of done ++ u.reply) + length more = length-append (flat_map reply_of done ++ u.reply) more in
        omega (arith, n, l, k)
    untaken x (inr some) =
        let n : length (taken x.before) ≤ length (taken t.events) = early_taken x in
        let m : length (taken t.events) < length (flat_map reply_of done ++ v.reply) = some_left (taken t.events) left' done v spelled some in
        omega (arith, n, m)

numbered_more : (first : ℕ) (done : List Turn) (next : ℕ) (u : Turn) → AreNumbered first done next → u.index ≡ next → AreNumbered first (done ++ u ∷ []) (next + 1)
numbered_more first [] next u h is = (is ∙ sym h, ap (λ (n : ℕ). n + 1) h)
numbered_more first (t ∷ done) next u h is = (h.0, numbered_more (first + 1) done next u h.1 is)

-- the last request has its whole reply and its note
pub holds_done : {t : Told} {link : ℕ} {entry : List ℕ} {peer : Ip} {done : List Turn} {u : Turn} {rest left : List ℕ} {waiting : List Note} {over : Bool} {number next : ℕ}
    → u.whole ≡ true → left ≡ []
    → Holds t link entry peer done (Some u) rest left waiting [] [] over number next
    → Holds t link entry peer (done ++ u ∷ []) None rest left (waiting ++ note_of link u ∷ []) [] [] false number (next + 1)
holds_done {t} {link} {done} {u} {rest} {left} {waiting} {next} whole none r = record {
  arrived = r.arrived;
  reads = r.reads ∙ ap (λ (l : List ℕ). l ++ rest) (close_list item_of done u (of_all item_of done (Some u)) refl);
  spells = close_list reply_of done u (taken t.events ++ left) r.spells;
  covers = ([], close_list reply_of done u (taken t.events) (sym (append-nil (taken t.events)) ∙ ap (λ (l : List ℕ). taken t.events ++ l) (sym none) ∙ r.spells));
  noted = in_notes;
  pinned = close_list pin_of done u t.pins r.pinned;
  looked = close_list looks_of done u t.looks r.looked;
  picked = close_list picks_of done u t.picks r.picked;
  refused = close_list spents_of done u t.spents r.refused;
  chosen = close_list choices_of done u t.choices r.chosen;
  own = subst AreDistinct (close_list backs_of done u (of_all backs_of done (Some u)) refl) r.own;
  links = subst (λ (l : List ℕ). AllByRecursion (Contains l) t.others) (close_list backs_of done u (of_all backs_of done (Some u)) refl) r.links;
  rising = r.rising;
  numbered = numbered_more 1 done next u r.numbered r.numbered_last;
  numbered_last = tt;
  whole = all_both IsWhole done (u ∷ []) r.whole (whole, tt);
  closes = λ (is : false ≡ true). absurd (let f : ⊥ = cc in f);
}
  where
    before : notes t.events ++ waiting ≡ flat_map (notes_of link) done
    before = r.noted ∙ append-nil (flat_map (notes_of link) done ++ []) ∙ append-nil (flat_map (notes_of link) done)

    after : (flat_map (notes_of link) (done ++ u ∷ []) ++ []) ++ [] ≡ flat_map (notes_of link) done ++ note_of link u ∷ []
    after = append-nil (flat_map (notes_of link) (done ++ u ∷ []) ++ []) ∙ append-nil (flat_map (notes_of link) (done ++ u ∷ [])) ∙ flat_map-append (notes_of link) done (u ∷ [])

    in_notes : notes t.events ++ (waiting ++ note_of link u ∷ []) ≡ (flat_map (notes_of link) (done ++ u ∷ []) ++ []) ++ []
    in_notes = sym (append_assoc (notes t.events) waiting (note_of link u ∷ [])) ∙ ap (λ (l : List Note). l ++ note_of link u ∷ []) before ∙ sym after

within_more : (link : ℕ) (steps : List Step) (note : Note) (done : List Turn) (rest : List ℕ) → IsHeadPart rest ⊎ EndedWithin (history link steps) done → IsHeadPart rest ⊎ EndedWithin (history link (steps ++ happened link (noted note) ∷ [])) done
within_more link steps note done rest (inl part) = inl part
within_more link steps note done rest (inr x) = inr (record {
  front = x.front;
  turn = x.turn;
  done_is = x.done_is;
  before = x.before;
  after = x.after ++ noted note ∷ [];
  parts = history_more link steps (noted note) ∙ ap (λ (l : List LinkEvent). l ++ noted note ∷ []) x.parts ∙ append_assoc x.before (gave_end ∷ x.after) (noted note ∷ []);
  covers = x.covers;
  short = x.short;
})

-- an end stays what it is while notes are told
pub end_told : (cause : EndCause) (link : ℕ) (steps : List Step) (note : Note) (done : List Turn) (last : Option Turn) (rest left : List ℕ)
    → EndHolds cause (history link steps) done last rest left (failures link steps ≢ []) (stops steps ≢ [])
    → EndHolds cause (history link (steps ++ happened link (noted note) ∷ [])) done last rest left (failures link (steps ++ happened link (noted note) ∷ []) ≢ []) (stops (steps ++ happened link (noted note) ∷ []) ≢ [])
end_told Client link steps note done last rest left h = (rw (history_more link steps (noted note)) (ends_more (history link steps) (noted note) h.0), h.1, h.2, h.3, within_more link steps note done rest h.4)
end_told ClientFailed link steps note done last rest left h = rw (failures_happened link link steps (noted note)) h
end_told Asked link steps note done last rest left h = h
end_told Refused link steps note done last rest left h = h
end_told Unread link steps note done last rest left h = h
end_told (Idle base now) link steps note done last rest left h = h
end_told Count link steps note done last rest left h = h
end_told (Cut l) link steps note done last rest left h = h
end_told (CutLate base now) link steps note done last rest left h = h
end_told Stopped link steps note done last rest left h = rw (stops_happened link steps (noted note)) h
end_told Memory link steps note done last rest left h = tt

-- a machine that has told all of its notes and its end was served
pub served : (steps : List Step) (plans : List Plan) (link : ℕ) (entry : List ℕ) (peer : Ip) (done : List Turn) (last : Option Turn) (rest left : List ℕ) (waiting : List Note) (over : Bool) (number next : ℕ) (cause : EndCause)
    → waiting ≡ []
    → Holds (told link steps) link entry peer done last rest left waiting (of_last (notes_of link) last) (end_note link cause ∷ []) over number next
    → Sound steps entry peer done last
    → EndHolds cause (history link steps) done last rest left (failures link steps ≢ []) (stops steps ≢ [])
    → AllByRecursion (Contains plans) (pins steps)
    → Served plans link entry peer steps (failures link steps ≢ []) (stops steps ≢ [])
served steps plans link entry peer done last rest left waiting over number next cause none r sound ending held = record {
  done = done;
  last = last;
  rest = rest;
  left = left;
  cause = cause;
  arrived = r.arrived;
  reads = r.reads;
  spells = r.spells;
  covers = r.covers;
  noted = sym (append-nil (notes (history link steps))) ∙ ap (λ (l : List Note). notes (history link steps) ++ l) (sym none) ∙ r.noted;
  pinned = r.pinned;
  looked = r.looked;
  picked = r.picked;
  refused = r.refused;
  chosen = r.chosen;
  own = r.own;
  links = r.links;
  published = held;
  rising = (number, r.rising);
  numbered = (next, r.numbered, r.numbered_last);
  answered = (sound.all, sound.one);
  whole = r.whole;
  ending = ending;
}
