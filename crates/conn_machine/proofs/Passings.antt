-- An exchange that goes on, or ends.
use Rattle.std.proofs.Common.{◌≡◌, ◌≢◌, ◌⊎◌, inl, inr, zero, suc, ℕ, ◌≤◌, List, [], ◌∷◌, ◌++◌, length, take, drop, Option, Some, None, refl, sym, ◌∙◌, ap, subst, Bool, true, false, append_assoc}
use Rattle.std.specs.List.{AllByRecursion, Contains}
use Rattle.std.specs.Prelude.{is_some}
use Rattle.std.proofs.lemmas.List.{append-nil, drop-append-le}
use Rattle.ip_net.specs.declared.ip.Ip.{Ip}
use Rattle.http_wire.specs.Spelling.{reply_text}
use Rattle.http_wire.specs.declared.message.Request.{Request as HttpRequest}
use Rattle.http_wire.specs.declared.message.Reply.{Reply as HttpReply}
use Rattle.link_world.specs.declared.note.Note.{Note}
use Rattle.link_world.specs.declared.note.Cause.{Cause}
use Rattle.link_world.specs.declared.note.Cause.TheVariants as causes
use Rattle.link_world.specs.declared.note.EndCause.TheVariants as ending
use Rattle.link_world.specs.Log.{LinkEvent, gave, gave_end, given, taken, ends}
use Rattle.back_machine.specs.Replies.{IsReplyAt, HasReply, HasNoReplyYet, IsWhole, IsShort, content_length}
use Rattle.back_machine.specs.Exchanges.{BackView, Exchanged, Receives, IsOpen, InUse, Ends, IsCut, StateHolds, broken_by}
use Rattle.back_machine.specs.declared.state.BackState.{BackState}
use Rattle.back_machine.specs.declared.state.BackState.TheVariants as state
use Rattle.back_machine.specs.declared.state.BackCause.{BackCause}
use Rattle.back_machine.specs.declared.state.BackCause.TheVariants as why
use Rattle.conversation.specs.Asks.{Ask, asks, refusal}
use Rattle.conversation.specs.Steps.{Step, happened, failed, history, failures, elsewhere}
use Rattle.conversation.specs.Turns.{sent, Turn, BackLink, HasWholeReply, closes, ends_after, message_to, links_of, IsSent, IsOwnText, Answers, AnswersBy, IsTold, IsLinkTold}
use Rattle.conversation.specs.Served.{of_all, backs_of, IsAnswered, IsCutBy, IfLast, EndHolds}
use Rattle.conversation.specs.Holding.{told, IsReplyKnown}
use Rattle.conversation.proofs.Tellings.{told_elsewhere, history_more, failures_happened, told_failed_elsewhere, failures_failed_elsewhere, told_more, apart_failed, history_failed, failures_failed}
use Rattle.conversation.proofs.Completions.{whole_not_short, whole_not_none}
use Rattle.conversation.proofs.Holdings.{holds_replied, holds_others, own_same, last_link, more_links, holds_forgot, given_more, taken_more, ends_end}
use Rattle.conn_machine.specs.Parts.{Trail, TiedBy, Fits, IsElse, IsExchanging, IsFailing, Passing, end_by, refused_status}
use Rattle.conn_machine.specs.Relays.{Relays, new_head, IsVersion, IsOutcome, lost_cause, heard_status, heard_cause}
use Rattle.conn_machine.specs.Reached.{Reached, Opened, PhaseHolds, ending_note, closed_by, trail_of, open_over}
use Rattle.conn_machine.specs.declared.parts.Asked.{Asked}
use Rattle.conn_machine.specs.declared.parts.Asked.TheVariants.{Nothing, Request, Refused}
use Rattle.conn_machine.specs.declared.parts.Client.{Client}
use Rattle.conn_machine.specs.declared.parts.Current.{Current}
use Rattle.conn_machine.specs.declared.parts.Phase.{Phase}
use Rattle.conn_machine.specs.declared.parts.Phase.TheVariants.{Broken}
use Rattle.conn_machine.specs.declared.parts.Stage.TheVariants.{Exchange, Reply}
use Rattle.conn_machine.specs.declared.passing.Outcome.TheVariants as out
use Rattle.conn_machine.specs.declared.conn.Conn.{Conn}
use Rattle.conn_machine.proofs.Opens.{holds_as}
use Rattle.conn_machine.proofs.Knowns.{known_still}
use Rattle.conn_machine.proofs.Exchanges.{all_shown}
use Rattle.conn_machine.proofs.Turnings.{Turning, IsAlike, turning, at_turn, opened_turn, ends_fit, own_text_of, own_some, text_some}
use Rattle.conn_machine.proofs.Happenings.{moved, longer, told_link, away, longer_sent, opened_event, passing_on, on_its_way}

-- the request with what its link and its reply have become
abbrev pub moving : Turn → BackLink → ℕ → Cause → List ℕ → Bool → Turn
moving u b status cause more whole = record u { back = Some b; status = status; cause = cause; reply = u.reply ++ more; whole = whole }

pub sent_as : (entry : List ℕ) (peer : Ip) (r : HttpRequest) (row : ℕ) (old b : BackLink) (u v : Turn) → IsSent entry peer r row old u
    → v.item ≡ u.item → v.ask ≡ u.ask → v.plan ≡ u.plan → v.router ≡ u.router → v.looks ≡ u.looks → v.picks ≡ u.picks → v.spents ≡ u.spents → v.back ≡ Some b
    → b.events ≡ old.events → IsSent entry peer r row b v
sent_as entry peer r row old b u v is item ask plan router looks_is picks_is spents_is back events = record {
  won = record { asked = ask ∙ is.won.asked; won = rw (plan, item) is.won.won; router = router ∙ is.won.router };
  looked = rw (plan, looks_is) is.looked;
  picked = rw (plan, picks_is) is.picked;
  accepted = spents_is ∙ is.accepted;
  back = back;
  more = is.more;
  dialled = rw plan (events ∙ is.dialled);
  unsent = is.unsent;
  message = rw (plan, events) is.message;
}

-- what is kept of the request, once its link or its reply has become this
pub turned : {steps : List Step} {k : Client} {m : Current} {trail : Trail} {input pending : List ℕ} {waiting : List Note} {over : Bool} {steps' : List Step} {P : Turn → Type 0} (old b : BackLink) (status : ℕ) (cause : Cause) (more : List ℕ) (whole : Bool) (Q : Turn → Type 0) {m' : Current} {pending' : List ℕ}
    (t : Turning steps k m trail input pending waiting over P) → t.turn.back ≡ Some old → b.link ≡ old.link
    → (others : List ℕ) → told k.link steps' ≡ record (told k.link steps) { others = others }
    → (Contains (of_all backs_of t.done (Some (moving t.turn b status cause more whole))) old.link → AllByRecursion (Contains (of_all backs_of t.done (Some (moving t.turn b status cause more whole)))) (elsewhere k.link steps)
    → AllByRecursion (Contains (of_all backs_of t.done (Some (moving t.turn b status cause more whole)))) others)
    → failures k.link steps' ≡ failures k.link steps → AllByRecursion (IsAnswered steps' k.entry k.peer) t.done
    → IsAlike m m' → m'.router ≡ m.router → m'.status ≡ status → m'.cause ≡ cause → pending' ≡ pending ++ more
    → Answers k.entry k.peer (moving t.turn b status cause more whole) → IsTold steps' b
    → (over ≡ true → IsReplyKnown (moving t.turn b status cause more whole) → IsReplyKnown t.turn ⊎ (pending' ≢ [])) → Q (moving t.turn b status cause more whole)
    → Turning steps' k m' trail input pending' waiting over Q
turned {steps} {k} {m} {trail} {input} old b status cause more whole Q {m'} {pending'} t back_is link_is others told_is more_told unfailed all alike router status_is cause_is in_pending answers shown knows q = record {
  done = t.done;
  turn = moving t.turn b status cause more whole;
  rest = t.rest;
  holds = holds_as told_is refl refl refl refl refl refl refl alike.number alike.index
      (holds_others others (more_told (last_link t.done (moving t.turn b status cause more whole) old.link (ap (λ (n : ℕ). n ∷ []) link_is)))
      (holds_replied (moving t.turn b status cause more whole) more (record { index = refl; item = refl; plan = refl; looks = refl; picks = refl; spents = refl }) refl in_pending knows (own_same t.done t.turn (moving t.turn b status cause more whole) (ap (λ (n : ℕ). n ∷ []) link_is ∙ sym (ap links_of back_is))) t.holds));
  sound = record { all = all; one = record { item = t.sound.one.item; answers = answers; shown = shown } };
  tied = record {
    index = t.tied.index ∙ sym alike.index;
    number = t.tied.number ∙ sym alike.number;
    router = t.tied.router ∙ sym router;
    status = sym status_is;
    cause = sym cause_is;
    looks = t.tied.looks;
    picks = t.tied.picks;
    backs = ap (λ (n : ℕ). n ∷ []) link_is ∙ sym (ap links_of back_is) ∙ t.tied.backs;
  };
  kept = t.kept;
  unfailed = unfailed ∙ t.unfailed;
  pinned = alike.pinned ∙ t.pinned;
  rest_is = t.rest_is ∙ ap (λ (n : ℕ). drop n input) (sym alike.size);
  fits = subst (λ (n : ℕ). n ≤ length input) (sym alike.size) t.fits;
  asked = subst (λ (a : Asked). Fits a t.turn.ask) (sym alike.asked) t.asked;
  has = q;
}

-- what is said of the client's end is forgotten
abbrev turning_forgot : {steps : List Step} {k : Client} {m : Current} {trail : Trail} {input pending : List ℕ} {waiting : List Note} {over : Bool} {P : Turn → Type 0}
    → Turning steps k m trail input pending waiting over P → Turning steps k m trail input pending waiting false P
turning_forgot t = record {
  done = t.done;
  turn = t.turn;
  rest = t.rest;
  holds = holds_forgot t.holds;
  sound = t.sound;
  tied = t.tied;
  kept = t.kept;
  unfailed = t.unfailed;
  pinned = t.pinned;
  rest_is = t.rest_is;
  fits = t.fits;
  asked = t.asked;
  has = t.has;
}

-- a call found no memory
pub reached_halted : {steps : List Step} {P : Turn → Type 0} {input pending : List ℕ} (d : Conn) → d.phase ≡ Broken
    → Turning steps d.client d.current (trail_of d) input pending d.notes.items false P → Reached steps d
reached_halted {steps} {P} {input} {pending} d is t = record {
  done = t.done;
  last = Some t.turn;
  rest = t.rest;
  left = pending;
  kept = record {
    next = d.current.index;
    holds = holds_as refl refl refl refl refl (ap (λ (b : Bool). closed_by b d.client.link (Some t.turn)) t.pinned) (ap (ending_note d.client.link) is) (ap (λ (q : Phase). open_over q d.over) is) refl refl t.holds;
    sound = t.sound;
    tied = subst (λ (b : Bool). TiedBy b d.current (trail_of d) (Some t.turn)) (sym t.pinned) t.tied;
  };
  phase = subst (λ (p : Phase). PhaseHolds p steps d t.done (Some t.turn) t.rest pending d.current.index) (sym is) tt;
}

-- a front stays a front under more bytes
take_more : (n : ℕ) (xs ys : List ℕ) → (held : List ℕ) × (take n (xs ++ ys) ≡ take n xs ++ held)
take_more zero xs ys = ([], refl)
take_more (suc n) [] ys = (take (suc n) ys, refl)
take_more (suc n) (x ∷ xs) ys = let r : (held : List ℕ) × (take n (xs ++ ys) ≡ take n xs ++ held) = take_more n xs ys in (r.0, ap (λ (l : List ℕ). x ∷ l) r.1)

drop_more : (n : ℕ) (xs ys : List ℕ) → (held : List ℕ) × (drop n (xs ++ ys) ≡ drop n xs ++ held)
drop_more zero xs ys = (ys, refl)
drop_more (suc n) [] ys = (drop (suc n) ys, refl)
drop_more (suc n) (x ∷ xs) ys = drop_more n xs ys

-- what the laws of replies say: a head stays under more bytes, it is one, and it isn't none
pub record Laws : Type 0 where
  pub stays : (method gave more : List ℕ) (a : HttpReply) (n : ℕ) → IsReplyAt method gave a n → IsReplyAt method (gave ++ more) a n
  pub one : (method gave : List ℕ) (a b : HttpReply) (n m : ℕ) → IsReplyAt method gave a n → IsReplyAt method gave b m → (a ≡ b) × (n ≡ m)
  pub apart : (method gave : List ℕ) (a : HttpReply) (n : ℕ) → IsReplyAt method gave a n → HasNoReplyYet method gave → ⊥

more_reply : Laws → (method g piece : List ℕ) (a : HttpReply) (content : List ℕ) → HasReply method g a content → (held : List ℕ) × HasReply method (g ++ piece) a (content ++ held)
more_reply laws method g piece a content h =
    let d : (held : List ℕ) × (drop h.head (g ++ piece) ≡ drop h.head g ++ held) = drop_more h.head g piece in
    let f : (held : List ℕ) × (take (content_length a.framing) (drop h.head g ++ d.0) ≡ take (content_length a.framing) (drop h.head g) ++ held) = take_more (content_length a.framing) (drop h.head g) d.0 in (
      f.0,
      record {
        head = h.head;
        at = laws.stays method g piece a h.head h.at;
        content_is = ap (λ (l : List ℕ). l ++ f.0) h.content_is ∙ sym (ap (λ (l : List ℕ). take (content_length a.framing) l) d.1 ∙ f.1);
      },
    )

no_truth : {X : Type 0} → false ≡ true → X
no_truth e = absurd (let f : ⊥ = cc in f)

-- the answer stays where the link gave more that wasn't handed on
still : Laws → (o : Option HttpReply) (entry : List ℕ) (peer : Ip) (r : HttpRequest) (row : ℕ) (b : BackLink) (u : Turn) (piece content pending : List ℕ)
    → IsSent entry peer r row (longer b (gave piece)) (moving u (longer b (gave piece)) u.status u.cause [] false)
    → Receives r.method (given b.events) content o → Passing o r u content pending
    → Answers entry peer (moving u (longer b (gave piece)) u.status u.cause [] false)
still laws None entry peer r row b u piece content pending is received h =
    subst (λ (c : Cause). AnswersBy c entry peer (moving u (longer b (gave piece)) u.status u.cause [] false)) (sym h.0)
    (sent, record { cause = h.0; stage = (r, row, longer b (gave piece), is); status = h.1; reply = append-nil u.reply ∙ h.2; unfinished = refl })
still laws (Some a) entry peer r row b u piece content pending is received h =
    let m : (held : List ℕ) × HasReply r.method (given b.events ++ piece) a (content ++ held) = more_reply laws r.method (given b.events) piece a content received in
    subst (λ (c : Cause). AnswersBy c entry peer (moving u (longer b (gave piece)) u.status u.cause [] false)) (sym h.0)
    (r, row, longer b (gave piece), is, record { answer = a; content = content; held = m.0; gave = subst (λ (l : List ℕ). HasReply r.method l a (content ++ m.0)) (sym (given_more b.events (gave piece))) m.1; status = h.1; text = append-nil u.reply ∙ h.2; all = λ (e : false ≡ true). no_truth e; sound = λ (e : false ≡ true). no_truth e })

longer_told : (steps : List Step) (l : ℕ) (e : LinkEvent) (b : BackLink) → b.link ≡ l → IsTold steps b → IsTold (steps ++ happened l e ∷ []) (longer b e)
longer_told steps l e b is shown = record {
  host = shown.host;
  port = shown.port;
  more = shown.more ++ e ∷ [];
  opened = ap (λ (h : List LinkEvent). h ++ e ∷ []) shown.opened;
  events = subst (λ (n : ℕ). history b.link (steps ++ happened n e ∷ []) ≡ b.events ++ e ∷ []) is (history_more b.link steps e ∙ ap (λ (h : List LinkEvent). h ++ e ∷ []) shown.events);
  faults = failures_happened b.link l steps e ∙ shown.faults;
}

-- the link gave bytes that found no memory
pub halted_gave : {steps : List Step} {k : Client} {m : Current} {trail : Trail} {input pending : List ℕ} {waiting : List Note} {over : Bool} (piece : List ℕ) {m' : Current} → Laws
    → IsAlike m m' → m'.router ≡ m.router → m'.status ≡ m.status → m'.cause ≡ m.cause
    → Opened steps k m trail input pending waiting over Exchange → Turning (steps ++ happened m.link (gave piece) ∷ []) k m' trail input pending waiting false (λ t. Unit {0})
halted_gave {steps} {k} {m} {trail} {input} {pending} {waiting} {over} piece {m'} laws alike router status cause o =
    let t : Turning steps k m trail input pending waiting over (IsExchanging k.entry k.peer m pending o.done) = turning o o.stage in
    let x : IsExchanging k.entry k.peer m pending o.done o.stage.turn = o.stage.holds in
    let u : Turn = o.stage.turn in
    let b : BackLink = longer x.link (gave piece) in
    let shown : IsTold steps x.link = told_link steps u.back x.link x.sent.back t.sound.one.shown in
    let message : message_to (u.plan.target x.row) x.r ≡ taken (x.link.events ++ gave piece ∷ []) ++ x.sent.unsent =
    x.sent.message ∙ ap (λ (l : List ℕ). l ++ x.sent.unsent) (sym (taken_more x.link.events (gave piece) ∙ append-nil (taken x.link.events))) in
    let is : IsSent k.entry k.peer x.r x.row b (moving u b u.status u.cause [] false) =
    longer_sent k.entry k.peer x.r x.row x.link u (moving u b u.status u.cause [] false) (gave piece) x.sent.unsent x.sent refl refl refl refl refl refl refl refl message in
    turned x.link b u.status u.cause [] false (λ t. Unit {0}) (turning_forgot t) x.sent.back refl (elsewhere k.link steps ++ m.link ∷ []) (told_elsewhere k.link m.link steps (gave piece) (away t))
    (λ one. more_links o.done (Some (moving u b u.status u.cause [] false)) m.link (elsewhere k.link steps) (subst (Contains (of_all backs_of o.done (Some (moving u b u.status u.cause [] false)))) x.number one)) (failures_happened k.link m.link steps (gave piece))
    (all_shown steps m.link (gave piece) k.entry k.peer o.done x.apart t.sound.all)
    alike router (status ∙ sym t.tied.status) (cause ∙ sym t.tied.cause) (sym (append-nil pending))
    (still laws x.back.reply k.entry k.peer x.r x.row x.link u piece x.content pending is x.exchanged.received x.passing)
    (longer_told steps m.link (gave piece) x.link x.number shown) (λ (c : false ≡ true). no_truth c) tt

-- the status and the cause that this reply makes
abbrev pub HeardBy : Option HttpReply → ℕ → Cause → ℕ → Cause → Type 0
HeardBy None s c status cause = (status ≡ s) × (cause ≡ c)
HeardBy (Some a) s c status cause = (status ≡ a.status) × (cause ≡ causes.Passed)

heard_by : (q : Option HttpReply) (s : ℕ) (c : Cause) {status : ℕ} {cause : Cause} → status ≡ heard_status q s → cause ≡ heard_cause q c → HeardBy q s c status cause
heard_by None s c a b = (a, b)
heard_by (Some y) s c a b = (a, b)

in_use : (s : BackState) (method g content : List ℕ) (e f : Bool) (b : BackView) → IsOpen s → StateHolds s method g content e f b → InUse e f
in_use state.Waiting method g content e f b open_ h = h.0
in_use state.HeadRead method g content e f b open_ h = h.0
in_use state.Done method g content e f b open_ h = absurd open_
in_use (state.Broken c) method g content e f b open_ h = absurd open_

none_after : (xs ys : List ℕ) → xs ≡ [] → xs ++ ys ≡ [] → ys ≡ []
none_after xs ys none is = sym (ap (λ (l : List ℕ). l ++ ys) none) ∙ is

same_reply : (a b : HttpReply) (r : HttpRequest) (close : Bool) (content fresh : List ℕ) → a ≡ b → (reply_text a r.version close ++ content) ++ fresh ≡ reply_text b r.version close ++ (content ++ fresh)
same_reply a b r close content fresh is = append_assoc (reply_text a r.version close) content fresh ∙ ap (λ (y : HttpReply). reply_text y r.version close ++ (content ++ fresh)) is

-- the reply goes on by its head and its content
passing_more : Laws → (o q : Option HttpReply) (r : HttpRequest) (u : Turn) (b : BackLink) (status : ℕ) (cause : Cause) (g piece content fresh pending pending' : List ℕ) (version : ℕ) (close : Bool)
    → Receives r.method g content o → Receives r.method (g ++ piece) (content ++ fresh) q → Passing o r u content pending
    → version ≡ r.version → close ≡ closes u → HeardBy q u.status u.cause status cause
    → pending' ≡ pending ++ (new_head (is_some o) q version close ++ fresh)
    → Passing q r (moved u b status cause (new_head (is_some o) q version close ++ fresh)) (content ++ fresh) pending'
passing_more laws None None r u b status cause g piece content fresh pending pending' version close before after h version_is close_is heard is =
    let none : fresh ≡ [] = none_after content fresh before.1 after.1 in
    (heard.1 ∙ h.0, heard.0 ∙ h.1, ap (λ (l : List ℕ). u.reply ++ l) none ∙ append-nil u.reply ∙ h.2, h.3, is ∙ ap (λ (l : List ℕ). pending ++ l) none ∙ append-nil pending ∙ h.4)
passing_more laws None (Some a) r u b status cause g piece content fresh pending pending' version close before after h version_is close_is heard is =
    (heard.1, heard.0, ap (λ (l : List ℕ). l ++ (reply_text a version close ++ fresh)) h.2 ∙ ap (λ (n : ℕ). reply_text a n close ++ fresh) version_is ∙ ap (λ (c : Bool). reply_text a r.version c ++ fresh) close_is ∙ sym (ap (λ (l : List ℕ). reply_text a r.version (closes u) ++ (l ++ fresh)) before.1), h.3)
passing_more laws (Some a) None r u b status cause g piece content fresh pending pending' version close before after h version_is close_is heard is =
    absurd (laws.apart r.method (g ++ piece) a before.head (laws.stays r.method g piece a before.head before.at) after.0)
passing_more laws (Some a) (Some c) r u b status cause g piece content fresh pending pending' version close before after h version_is close_is heard is =
    let same : a ≡ c = (laws.one r.method (g ++ piece) a c before.head after.head (laws.stays r.method g piece a before.head before.at) after.at).0 in
    (heard.1, heard.0, ap (λ (l : List ℕ). l ++ fresh) h.2 ∙ same_reply a c r (closes u) content fresh same, h.3)

version_fits : (asked : Asked) (ask : Ask) (r : HttpRequest) (version : ℕ) → Fits asked ask → ask ≡ asks r → IsVersion asked version → version ≡ r.version
version_fits Nothing ask r version fits is h = absurd fits
version_fits (Request q) ask r version fits is h = let e : asks q ≡ asks r = sym fits ∙ is in let d : q ≡ r = cc in h r (ap Request d)
version_fits (Refused cause) ask r version fits is h = absurd (let d : refusal (asks r) ≡ Some (refused_status cause, cause) = sym (ap refusal is) ∙ fits in let f : ⊥ = cc in f)

heard_as : (q : Option HttpReply) (s s' : ℕ) (c c' : Cause) (status : ℕ) (cause : Cause) → s ≡ s' → c ≡ c' → HeardBy q s c status cause → HeardBy q s' c' status cause
heard_as q s s' c c' status cause a b h = rw (← a, ← b) h

some_fault : (xs : List (Unit {0})) → xs ++ tt ∷ [] ≢ []
some_fault [] is = cc
some_fault (x ∷ xs) is = cc

-- the link of an exchange that goes on hasn't failed
failing_open : (s : BackState) (faults : List (Unit {0})) → IsOpen s → IsFailing s faults → faults ≡ []
failing_open state.Waiting faults open_ h = h
failing_open state.HeadRead faults open_ h = h
failing_open state.Done faults open_ h = absurd open_
failing_open (state.Broken c) faults open_ h = absurd open_

-- nor has it where nothing but bytes came
failing_none : (s : BackState) (method g content : List ℕ) (e : Bool) (b : BackView) {faults : List (Unit {0})} → faults ≡ [] → StateHolds s method g content e false b → IsFailing s faults
failing_none state.Waiting method g content e b none h = none
failing_none state.HeadRead method g content e b none h = none
failing_none state.Done method g content e b none h = none
failing_none (state.Broken why.Failed) method g content e b none h = no_truth h.0
failing_none (state.Broken why.Ended) method g content e b none h = none
failing_none (state.Broken why.Bad) method g content e b none h = none

failing_ended : (s : BackState) (faults : List (Unit {0})) → IsFailing s faults → IsFailing (broken_by why.Ended s) faults
failing_ended state.Waiting faults h = h
failing_ended state.HeadRead faults h = h
failing_ended state.Done faults h = h
failing_ended (state.Broken c) faults h = h

failing_failed : (s : BackState) (faults : List (Unit {0})) → IsOpen s → IsFailing (broken_by why.Failed s) (faults ++ tt ∷ [])
failing_failed state.Waiting faults open_ = some_fault faults
failing_failed state.HeadRead faults open_ = some_fault faults
failing_failed state.Done faults open_ = absurd open_
failing_failed (state.Broken c) faults open_ = absurd open_

-- a reply that goes on is short of content
open_short : (s : BackState) (method g content : List ℕ) (e f : Bool) (b : BackView) (a : HttpReply) → IsOpen s → StateHolds s method g content e f b → b.reply ≡ Some a → IsShort a content
open_short state.Waiting method g content e f b a open_ h is = absurd (let n : None ≡ Some a = sym h.1.none ∙ is in let f : ⊥ = cc in f)
open_short state.HeadRead method g content e f b a open_ h is = let same : h.1.reply ≡ a = (let s : Some h.1.reply ≡ Some a = sym h.1.reply_is ∙ is in cc) in subst (λ (y : HttpReply). IsShort y content) same h.1.short
open_short state.Done method g content e f b a open_ h is = absurd open_
open_short (state.Broken c) method g content e f b a open_ h is = absurd open_

none_behind : (xs ys : List ℕ) → xs ++ ys ≡ [] → ys ≡ []
none_behind [] ys is = is
none_behind (x ∷ xs) ys is = absurd (let f : ⊥ = cc in f)

-- the piece that makes a reply whole adds bytes to it
relayed_some : Laws → (o q : Option HttpReply) (method g piece content fresh : List ℕ) (version : ℕ) (close : Bool) → Receives method g content o → ((a : HttpReply) → o ≡ Some a → IsShort a content) → Receives method (g ++ piece) (content ++ fresh) q
    → HasWholeReply method (g ++ piece) → new_head (is_some o) q version close ++ fresh ≢ []
relayed_some laws o None method g piece content fresh version close before short after whole = λ none. whole_not_none method (g ++ piece) after.0 whole
relayed_some laws None (Some a) method g piece content fresh version close before short after whole = text_some a version close fresh
relayed_some laws (Some a) (Some c) method g piece content fresh version close before short after whole = λ none.
    let same : a ≡ c = (laws.one method (g ++ piece) a c before.head after.head (laws.stays method g piece a before.head before.at) after.at).0 in
    let more : content ++ fresh ≡ content = ap (λ (l : List ℕ). content ++ l) none ∙ append-nil content in
    whole_not_short method (g ++ piece) c (content ++ fresh) after (subst (IsShort c) (sym more) (subst (λ (y : HttpReply). IsShort y content) same (short a refl))) whole

-- so where all of the reply is known then, either it was, or bytes were added
heard_known : (r : HttpRequest) (u : Turn) (b : BackLink) (status : ℕ) (cause : Cause) (more : List ℕ) {pending' : List ℕ} → u.ask ≡ asks r → IsReplyKnown (moved u b status cause more)
    → (HasWholeReply r.method (given b.events) → pending' ≢ []) → IsReplyKnown u ⊎ (pending' ≢ [])
heard_known r u b status cause more asked (inl whole) some = inl (inl whole)
heard_known r u b status cause more asked (inr (q, c, asked', is, whole)) some =
    let same : c ≡ b = (let s : Some c ≡ Some b = sym is in cc) in
    let request : q ≡ r = (let s : asks q ≡ asks r = sym asked' ∙ asked in cc) in
    inr (some (subst (λ (x : HttpRequest). HasWholeReply x.method (given b.events)) request (subst (λ (y : BackLink). HasWholeReply q.method (given y.events)) same whole)))

-- the link gave bytes
pub opened_heard : {steps : List Step} {k : Client} {m : Current} {trail : Trail} {input pending : List ℕ} {waiting : List Note} {over : Bool} (piece : List ℕ) (old back : BackView) (version : ℕ) (close : Bool) (n : ℕ) (out out' : List ℕ) {m' : Current} {pending' : List ℕ} → Laws
    → IsAlike m m' → m'.router ≡ m.router → m'.link ≡ m.link → m'.back ≡ Some back → m.back ≡ Some old
    → m'.status ≡ heard_status back.reply m.status → m'.cause ≡ heard_cause back.reply m.cause → IsVersion m.asked version → close ≡ is_some (end_by m.index m.asked)
    → IsOpen old.state → Relays old back piece version close out out' → n ≤ length out → drop n out ≡ pending → pending' ≡ drop n out'
    → Opened steps k m trail input pending waiting over Exchange → Opened (steps ++ happened m.link (gave piece) ∷ []) k m' trail input pending' waiting over Exchange
opened_heard {steps} {k} {m} {trail} {input} {pending} {waiting} {over} piece old back version close n out out' {m'} {pending'} laws alike router link_same back_is old_is status_is cause_is version_is close_is open_is relays fits out_is in_pending o =
    let t : Turning steps k m trail input pending waiting over (IsExchanging k.entry k.peer m pending o.done) = turning o o.stage in
    let x : IsExchanging k.entry k.peer m pending o.done o.stage.turn = o.stage.holds in
    let u : Turn = o.stage.turn in
    let same : x.back ≡ old = (let s : Some x.back ≡ Some old = sym x.back_is ∙ old_is in cc) in
    let before : Exchanged (message_to (u.plan.target x.row) x.r) x.r.method (taken x.link.events) (given x.link.events) x.content x.ended x.failed old = subst (λ (y : BackView). Exchanged (message_to (u.plan.target x.row) x.r) x.r.method (taken x.link.events) (given x.link.events) x.content x.ended x.failed y) same x.exchanged in
    let used : InUse x.ended x.failed = in_use old.state x.r.method (given x.link.events) x.content x.ended x.failed old open_is before.state in
    let idle : Exchanged (message_to (u.plan.target x.row) x.r) x.r.method (taken x.link.events) (given x.link.events) x.content false false old = subst (λ (f : Bool). Exchanged (message_to (u.plan.target x.row) x.r) x.r.method (taken x.link.events) (given x.link.events) x.content false f old) used.works (subst (λ (e : Bool). Exchanged (message_to (u.plan.target x.row) x.r) x.r.method (taken x.link.events) (given x.link.events) x.content e x.failed old) used.goes_on before) in
    let y : (fresh : List ℕ) × Exchanged (message_to (u.plan.target x.row) x.r) x.r.method (taken x.link.events) (given x.link.events ++ piece) (x.content ++ fresh) false false back
    × (out' ≡ (out ++ new_head (is_some old.reply) back.reply version close) ++ fresh) = relays (message_to (u.plan.target x.row) x.r) x.r.method (taken x.link.events) (given x.link.events) x.content idle in
    let more : List ℕ = new_head (is_some old.reply) back.reply version close ++ y.0 in
    let after : Exchanged (message_to (u.plan.target x.row) x.r) x.r.method (taken (x.link.events ++ gave piece ∷ [])) (given (x.link.events ++ gave piece ∷ [])) (x.content ++ y.0) false false back =
    rw (taken_more x.link.events (gave piece), given_more x.link.events (gave piece), append-nil (taken x.link.events)) y.1 in
    let pending_is : pending' ≡ pending ++ more =
    in_pending ∙ ap (λ (l : List ℕ). drop n l) (y.2 ∙ append_assoc out (new_head (is_some old.reply) back.reply version close) y.0) ∙ drop-append-le n out more fits ∙ ap (λ (l : List ℕ). l ++ more) out_is in
    let closing : close ≡ closes u = close_is ∙ ap is_some (sym (ends_fit m.index m.asked u.ask t.asked) ∙ ap (λ (i : ℕ). ends_after i u.ask) (sym t.tied.index)) in
    let passing : Passing old.reply x.r u x.content pending = subst (λ (y : BackView). Passing y.reply x.r u x.content pending) same x.passing in
    opened_event (gave piece) m'.status m'.cause more back (x.content ++ y.0) false false alike router refl refl link_same back_is pending_is o after
    (λ (e : false ≡ true). no_truth e) (λ (e : false ≡ true). no_truth e) (failing_none back.state x.r.method _ _ false back (failing_open old.state x.link.faults open_is (subst (λ (y : BackView). IsFailing y.state x.link.faults) same x.failing)) after.state)
    (passing_more laws old.reply back.reply x.r u (longer x.link (gave piece)) m'.status m'.cause (given x.link.events) piece x.content y.0 pending pending' version close before.received y.1.received passing
    (version_fits m.asked u.ask x.r version t.asked x.sent.won.asked version_is) closing
    (heard_as back.reply m.status u.status m.cause u.cause m'.status m'.cause (sym t.tied.status) (sym t.tied.cause) (heard_by back.reply m.status m.cause status_is cause_is)) pending_is)
    (λ d. heard_known x.r u (longer x.link (gave piece)) m'.status m'.cause more x.sent.won.asked d
    (λ w none. relayed_some laws old.reply back.reply x.r.method (given x.link.events) piece x.content y.0 version close before.received (λ a is. open_short old.state x.r.method (given x.link.events) x.content x.ended x.failed old a open_is before.state is) y.1.received
    (subst (HasWholeReply x.r.method) (given_more x.link.events (gave piece)) w)
    (none_behind pending more (sym pending_is ∙ none))))

-- the link gave its end
pub opened_back_end : {steps : List Step} {k : Client} {m : Current} {trail : Trail} {input pending : List ℕ} {waiting : List Note} {over : Bool} (old back : BackView) {m' : Current}
    → IsAlike m m' → m'.router ≡ m.router → m'.status ≡ m.status → m'.cause ≡ m.cause → m'.link ≡ m.link → m'.back ≡ Some back → m.back ≡ Some old → back.reply ≡ old.reply → back.state ≡ broken_by why.Ended old.state
    → ((message method took gave content : List ℕ) (ended failed : Bool) → Exchanged message method took gave content ended failed old → Exchanged message method took gave content true failed back)
    → Opened steps k m trail input pending waiting over Exchange → Opened (steps ++ happened m.link gave_end ∷ []) k m' trail input pending waiting over Exchange
opened_back_end {steps} {k} {m} {trail} {input} {pending} {waiting} {over} old back {m'} alike router status cause link_same back_is old_is reply_same state_is step o =
    let t : Turning steps k m trail input pending waiting over (IsExchanging k.entry k.peer m pending o.done) = turning o o.stage in
    let x : IsExchanging k.entry k.peer m pending o.done o.stage.turn = o.stage.holds in
    let u : Turn = o.stage.turn in
    let same : x.back ≡ old = (let s : Some x.back ≡ Some old = sym x.back_is ∙ old_is in cc) in
    let before : Exchanged (message_to (u.plan.target x.row) x.r) x.r.method (taken x.link.events) (given x.link.events) x.content x.ended x.failed old = subst (λ (y : BackView). Exchanged (message_to (u.plan.target x.row) x.r) x.r.method (taken x.link.events) (given x.link.events) x.content x.ended x.failed y) same x.exchanged in
    let after : Exchanged (message_to (u.plan.target x.row) x.r) x.r.method (taken (x.link.events ++ gave_end ∷ [])) (given (x.link.events ++ gave_end ∷ [])) x.content true x.failed back =
    rw (taken_more x.link.events gave_end, given_more x.link.events gave_end, append-nil (taken x.link.events), append-nil (given x.link.events)) (step (message_to (u.plan.target x.row) x.r) x.r.method (taken x.link.events) (given x.link.events) x.content x.ended x.failed before) in
    let reply_is : back.reply ≡ x.back.reply = reply_same ∙ sym (ap (λ (b : BackView). b.reply) same) in
    opened_event gave_end u.status u.cause [] back x.content true x.failed alike router (status ∙ sym t.tied.status) (cause ∙ sym t.tied.cause) link_same back_is (sym (append-nil pending)) o after
    (λ (q : true ≡ true). ends_end x.link.events) x.fails_is
    (subst (λ (s : BackState). IsFailing s x.link.faults) (sym state_is) (failing_ended old.state x.link.faults (subst (λ (y : BackView). IsFailing y.state x.link.faults) same x.failing)))
    (subst (λ (p : Option HttpReply). Passing p x.r (moved u (longer x.link gave_end) u.status u.cause []) x.content pending) (sym reply_is) (passing_on x.back.reply x.r u (longer x.link gave_end) x.content pending x.passing))
    (λ d. inl (known_still u (moved u (longer x.link gave_end) u.status u.cause []) x.link (longer x.link gave_end) (λ w. w) refl refl x.sent.back (given_more x.link.events gave_end ∙ append-nil (given x.link.events)) d))

-- the link failed
abbrev pub faulty : BackLink → BackLink
faulty b = record b { faults = b.faults ++ tt ∷ [] }

fault_else : (steps : List Step) (l : ℕ) (o : Option BackLink) → IsElse l o → IsLinkTold steps o → IsLinkTold (steps ++ failed l ∷ []) o
fault_else steps l None other h = tt
fault_else steps l (Some b) other h = told_more steps (failed l) b (apart_failed b.link l other) h

all_failed : (steps : List Step) (l : ℕ) (entry : List ℕ) (peer : Ip) (done : List Turn) → AllByRecursion (λ (u : Turn). IsElse l u.back) done
    → AllByRecursion (IsAnswered steps entry peer) done → AllByRecursion (IsAnswered (steps ++ failed l ∷ []) entry peer) done
all_failed steps l entry peer [] other h = tt
all_failed steps l entry peer (t ∷ done) other h = (record { item = h.0.item; answers = h.0.answers; shown = fault_else steps l t.back other.0 h.0.shown }, all_failed steps l entry peer done other.1 h.1)

faulty_told : (steps : List Step) (l : ℕ) (b : BackLink) → b.link ≡ l → IsTold steps b → IsTold (steps ++ failed l ∷ []) (faulty b)
faulty_told steps l b is shown = record {
  host = shown.host;
  port = shown.port;
  more = shown.more;
  opened = shown.opened;
  events = history_failed b.link l steps ∙ shown.events;
  faults = subst (λ (n : ℕ). failures b.link (steps ++ failed n ∷ []) ≡ b.faults ++ tt ∷ []) is (failures_failed b.link steps ∙ ap (λ (h : List (Unit {0})). h ++ tt ∷ []) shown.faults);
}

-- the same of what was handed on
passing_as : (o : Option HttpReply) (r : HttpRequest) (u : Turn) (b : BackLink) (content pending : List ℕ) → Passing o r u content pending
    → Passing o r (moving u b u.status u.cause [] false) content pending
passing_as None r u b content pending h = (h.0, h.1, append-nil u.reply ∙ h.2, refl, h.4)
passing_as (Some a) r u b content pending h = (h.0, h.1, append-nil u.reply ∙ h.2, refl)

pub opened_back_failed : {steps : List Step} {k : Client} {m : Current} {trail : Trail} {input pending : List ℕ} {waiting : List Note} {over : Bool} (old back : BackView) {m' : Current}
    → IsAlike m m' → m'.router ≡ m.router → m'.status ≡ m.status → m'.cause ≡ m.cause → m'.link ≡ m.link → m'.back ≡ Some back → m.back ≡ Some old → back.reply ≡ old.reply → IsOpen old.state → back.state ≡ broken_by why.Failed old.state
    → ((message method took gave content : List ℕ) (ended failed : Bool) → Exchanged message method took gave content ended failed old → Exchanged message method took gave content ended true back)
    → Opened steps k m trail input pending waiting over Exchange → Opened (steps ++ failed m.link ∷ []) k m' trail input pending waiting over Exchange
unfolding turned
opened_back_failed {steps} {k} {m} {trail} {input} {pending} {waiting} {over} old back {m'} alike router status cause link_same back_is old_is reply_same open_is state_is step o =
    let t : Turning steps k m trail input pending waiting over (IsExchanging k.entry k.peer m pending o.done) = turning o o.stage in
    let x : IsExchanging k.entry k.peer m pending o.done o.stage.turn = o.stage.holds in
    let u : Turn = o.stage.turn in
    let b : BackLink = faulty x.link in
    let v : Turn = moving u b u.status u.cause [] false in
    let same : x.back ≡ old = (let s : Some x.back ≡ Some old = sym x.back_is ∙ old_is in cc) in
    let before : Exchanged (message_to (u.plan.target x.row) x.r) x.r.method (taken x.link.events) (given x.link.events) x.content x.ended x.failed old = subst (λ (y : BackView). Exchanged (message_to (u.plan.target x.row) x.r) x.r.method (taken x.link.events) (given x.link.events) x.content x.ended x.failed y) same x.exchanged in
    let after : Exchanged (message_to (u.plan.target x.row) x.r) x.r.method (taken x.link.events) (given x.link.events) x.content x.ended true back = step (message_to (u.plan.target x.row) x.r) x.r.method (taken x.link.events) (given x.link.events) x.content x.ended x.failed before in
    let reply_is : back.reply ≡ x.back.reply = reply_same ∙ sym (ap (λ (b : BackView). b.reply) same) in
    let passing : Passing back.reply x.r v x.content pending = subst (λ (p : Option HttpReply). Passing p x.r v x.content pending) (sym reply_is) (passing_as x.back.reply x.r u b x.content pending x.passing) in
    let is : IsSent k.entry k.peer x.r x.row b v = sent_as k.entry k.peer x.r x.row x.link b u v x.sent refl refl refl refl refl refl refl refl refl in
    let shown : IsTold steps x.link = told_link steps u.back x.link x.sent.back t.sound.one.shown in
    let w : Turning (steps ++ failed m.link ∷ []) k m' trail input pending waiting over (IsExchanging k.entry k.peer m' pending o.done) =
    turned x.link b u.status u.cause [] false (IsExchanging k.entry k.peer m' pending o.done) t x.sent.back refl (elsewhere k.link steps ++ m.link ∷ []) (told_failed_elsewhere k.link m.link steps (away t))
    (λ one. more_links o.done (Some v) m.link (elsewhere k.link steps) (subst (Contains (of_all backs_of o.done (Some v))) x.number one)) (failures_failed_elsewhere k.link m.link steps (away t))
    (all_failed steps m.link k.entry k.peer o.done x.apart t.sound.all)
    alike router (status ∙ sym t.tied.status) (cause ∙ sym t.tied.cause) (sym (append-nil pending))
    (on_its_way back.reply k.entry k.peer x.r x.row b v x.content pending is after.received passing)
    (faulty_told steps m.link x.link x.number shown)
    (λ c d. inl (known_still u v x.link b (λ (w : false ≡ true). no_truth w) refl refl x.sent.back refl d))
    (record {
      back = back;
      back_is = back_is;
      r = x.r;
      row = x.row;
      link = b;
      sent = is;
      number = x.number ∙ sym link_same;
      content = x.content;
      ended = x.ended;
      failed = true;
      exchanged = after;
      ends_is = x.ends_is;
      fails_is = λ (e : true ≡ true). some_fault x.link.faults;
      failing = subst (λ (s : BackState). IsFailing s b.faults) (sym state_is) (failing_failed old.state x.link.faults open_is);
      passing = passing;
      apart = subst (λ (n : ℕ). AllByRecursion (λ (y : Turn). IsElse n y.back) o.done) (sym link_same) x.apart;
    }) in
    opened_turn Exchange w (at_turn w)

state_at : (s : BackState) (b : BackView) (method g content : List ℕ) (e f : Bool) → b.state ≡ s → StateHolds b.state method g content e f b → StateHolds s method g content e f b
state_at s b method g content e f is h = subst (λ (y : BackState). StateHolds y method g content e f b) is h

-- the reply is whole
whole_answers : (o : Option HttpReply) (a : HttpReply) (entry : List ℕ) (peer : Ip) (r : HttpRequest) (row : ℕ) (b : BackLink) (u : Turn) (content pending : List ℕ) → o ≡ Some a → IsWhole a content → b.faults ≡ []
    → IsSent entry peer r row b (moving u b u.status u.cause [] true) → Receives r.method (given b.events) content o → Passing o r u content pending
    → Answers entry peer (moving u b u.status u.cause [] true)
whole_answers None a entry peer r row b u content pending reply_is whole sound is received h = absurd (let f : ⊥ = cc in f)
whole_answers (Some c) a entry peer r row b u content pending reply_is whole sound is received h =
    let same : a ≡ c = cc in
    subst (λ (y : Cause). AnswersBy y entry peer (moving u b u.status u.cause [] true)) (sym h.0)
    (r, row, b, is, record { answer = c; content = content; held = []; gave = subst (λ (l : List ℕ). HasReply r.method (given b.events) c l) (sym (append-nil content)) received; status = h.1; text = append-nil u.reply ∙ h.2; all = λ (e : true ≡ true). subst (λ (y : HttpReply). IsWhole y content) same whole; sound = λ (e : true ≡ true). sound })

pub opened_whole : {steps : List Step} {k : Client} {m : Current} {trail : Trail} {input pending : List ℕ} {waiting : List Note} {over : Bool} → IsOutcome out.Whole m.back → Opened steps k m trail input pending waiting over Exchange → Opened steps k m trail input pending waiting over Reply
opened_whole {steps} {k} {m} {trail} {input} {pending} {waiting} {over} done_is o =
    let t : Turning steps k m trail input pending waiting over (IsExchanging k.entry k.peer m pending o.done) = turning o o.stage in
    let x : IsExchanging k.entry k.peer m pending o.done o.stage.turn = o.stage.holds in
    let u : Turn = o.stage.turn in
    let v : Turn = moving u x.link u.status u.cause [] true in
    let same : x.back ≡ done_is.0 = (let s : Some x.back ≡ Some done_is.0 = sym x.back_is ∙ done_is.1 in cc) in
    let e : Ends x.content x.back = state_at state.Done x.back x.r.method (given x.link.events) x.content x.ended x.failed (ap (λ (y : BackView). y.state) same ∙ done_is.2) x.exchanged.state in
    let is : IsSent k.entry k.peer x.r x.row x.link v = sent_as k.entry k.peer x.r x.row x.link x.link u v x.sent refl refl refl refl refl refl refl refl refl in
    let shown : IsTold steps x.link = told_link steps u.back x.link x.sent.back t.sound.one.shown in
    let w : Turning steps k m trail input pending waiting over (λ (y : Turn). y.whole ≡ true) =
    turned x.link x.link u.status u.cause [] true (λ (y : Turn). y.whole ≡ true) t x.sent.back refl (elsewhere k.link steps) refl (λ one h. h) refl t.sound.all
    (record { asked = refl; size = refl; issue = refl; pinned = refl; index = refl; number = refl }) refl (sym t.tied.status) (sym t.tied.cause) (sym (append-nil pending))
    (whole_answers x.back.reply e.reply k.entry k.peer x.r x.row x.link u x.content pending e.reply_is e.whole (subst (λ (s : BackState). IsFailing s x.link.faults) (ap (λ (y : BackView). y.state) same ∙ done_is.2) x.failing) is x.exchanged.received x.passing) shown
    (λ c d. inl (inr (x.r, x.link, x.sent.won.asked, x.sent.back, (e.reply, x.content, subst (Receives x.r.method (given x.link.events) x.content) e.reply_is x.exchanged.received, e.whole)))) refl in
    opened_turn Reply w (at_turn w)

-- the reply was begun and will not be whole
cut_why : (c : BackCause) (b : BackView) (link : BackLink) (method g content : List ℕ) (e f : Bool) → StateHolds (state.Broken c) method g content e f b → b.reply ≢ None
    → (e ≡ true → ends link.events ≢ []) → (f ≡ true → link.faults ≢ []) → (link.faults ≢ []) ⊎ (ends link.events ≢ [])
cut_why why.Failed b link method g content e f h some es fs = inl (fs h.0)
cut_why why.Ended b link method g content e f h some es fs = inr (es h.0)
cut_why why.Bad b link method g content e f h some es fs = absurd (some h.1)

-- what has come of its content is short, and spelled
cut_short : (c : BackCause) (b : BackView) (o : Option HttpReply) (r : HttpRequest) (u : Turn) (g content pending : List ℕ) (e f : Bool) → b.reply ≡ o → o ≢ None → StateHolds (state.Broken c) r.method g content e f b → Receives r.method g content o → Passing o r u content pending
    → (a : HttpReply) × HasReply r.method g a content × IsShort a content × (u.reply ≡ reply_text a r.version (closes u) ++ content)
cut_short c b None r u g content pending e f is some h got p = absurd (some refl)
cut_short why.Failed b (Some a) r u g content pending e f is some h got p = (a, got, subst (IsCut content) is h.1, p.2)
cut_short why.Ended b (Some a) r u g content pending e f is some h got p = (a, got, subst (IsCut content) is h.1, p.2)
cut_short why.Bad b (Some a) r u g content pending e f is some h got p = absurd (some (sym is ∙ h.1))

cut_begun : (o : Option HttpReply) (r : HttpRequest) (u : Turn) (content pending : List ℕ) → o ≢ None → Passing o r u content pending → (u.cause ≡ causes.Passed) × (u.whole ≡ false)
cut_begun None r u content pending some h = absurd (some refl)
cut_begun (Some a) r u content pending some h = (h.0, h.3)

pub cut_ends : {steps : List Step} {k : Client} {m : Current} {trail : Trail} {input pending : List ℕ} {waiting : List Note} {over : Bool} (events : List LinkEvent) (failed_ stopped_ : Type 0) → IsOutcome out.Cut m.back → (o : Opened steps k m trail input pending waiting over Exchange) → EndHolds (ending.Cut m.link) events o.done o.last o.rest pending failed_ stopped_
cut_ends {steps} {k} {m} {trail} {input} {pending} {waiting} {over} events failed_ stopped_ cut o =
    let x : IsExchanging k.entry k.peer m pending o.done o.stage.turn = o.stage.holds in
    let same : x.back ≡ cut.0 = (let s : Some x.back ≡ Some cut.0 = sym x.back_is ∙ cut.2 in cc) in
    let some : x.back.reply ≢ None = subst (λ (y : BackView). y.reply ≢ None) (sym same) cut.4 in
    let h : StateHolds (state.Broken cut.1) x.r.method (given x.link.events) x.content x.ended x.failed x.back =
    state_at (state.Broken cut.1) x.back x.r.method (given x.link.events) x.content x.ended x.failed (ap (λ (y : BackView). y.state) same ∙ cut.3) x.exchanged.state in
    let short : (a : HttpReply) × HasReply x.r.method (given x.link.events) a x.content × IsShort a x.content × (o.stage.turn.reply ≡ reply_text a x.r.version (closes o.stage.turn) ++ x.content) =
    cut_short cut.1 x.back x.back.reply x.r o.stage.turn (given x.link.events) x.content pending x.ended x.failed refl some h x.exchanged.received x.passing in
    let begun : (o.stage.turn.cause ≡ causes.Passed) × (o.stage.turn.whole ≡ false) = cut_begun x.back.reply x.r o.stage.turn x.content pending some x.passing in (
      subst (IfLast (IsCutBy m.link)) (sym o.stage.last_is) (record { begun = begun.0; unfinished = begun.1; back = x.link; back_is = x.sent.back; number = x.number; why = cut_why cut.1 x.back x.link x.r.method (given x.link.events) x.content x.ended x.failed h some x.ends_is x.fails_is; request = x.r; asked = x.sent.won.asked; answer = short.0; content = x.content; came = short.1; short = short.2; text = short.3 }),
      last_some o.last o.stage.turn o.stage.last_is,
    )
  where
    last_some : (l : Option Turn) (t : Turn) → l ≡ Some t → l ≢ None
    last_some l t is none = cc

-- there will be no reply
lost_answers : (c : BackCause) (b : BackView) (entry : List ℕ) (peer : Ip) (r : HttpRequest) (row : ℕ) (link : BackLink) (u : Turn) (number : ℕ) (text content : List ℕ) (e f : Bool)
    → StateHolds (state.Broken c) r.method (given link.events) content e f b → HasNoReplyYet r.method (given link.events)
    → (e ≡ true → ends link.events ≢ []) → (f ≡ true → link.faults ≢ []) → link.link ≡ number
    → IsFailing (state.Broken c) link.faults
    → IsSent entry peer r row link (moving u link 502 (lost_cause c number) text true) → IsOwnText 502 (closes u) (u.reply ++ text)
    → Answers entry peer (moving u link 502 (lost_cause c number) text true)
lost_answers why.Failed b entry peer r row link u number text content e f h none es fs number_is failing is own =
    ((r, row, link, is, number_is, fs h.0, none), record { status_is = refl; text = own; whole = refl })
lost_answers why.Ended b entry peer r row link u number text content e f h none es fs number_is failing is own =
    ((r, row, link, is, number_is, failing, inr (es h.0, none)), record { status_is = refl; text = own; whole = refl })
lost_answers why.Bad b entry peer r row link u number text content e f h none es fs number_is failing is own =
    ((r, row, link, is, number_is, failing, inl h.0), record { status_is = refl; text = own; whole = refl })

pub opened_no_reply : {steps : List Step} {k : Client} {m : Current} {trail : Trail} {input pending : List ℕ} {waiting : List Note} {over : Bool} (c : BackCause) (close : Bool) (text : List ℕ) {m' : Current} {pending' : List ℕ}
    → IsAlike m m' → m'.router ≡ m.router → m'.status ≡ 502 → m'.cause ≡ lost_cause c m.link → pending' ≡ text
    → IsOutcome (out.Lost c) m.back → close ≡ is_some (end_by m.index m.asked) → IsOwnText 502 close text
    → Opened steps k m trail input pending waiting over Exchange → Opened steps k m' trail input pending' waiting over Reply
opened_no_reply {steps} {k} {m} {trail} {input} {pending} {waiting} {over} c close text {m'} {pending'} alike router status cause in_pending lost close_is own o =
    let t : Turning steps k m trail input pending waiting over (IsExchanging k.entry k.peer m pending o.done) = turning o o.stage in
    let x : IsExchanging k.entry k.peer m pending o.done o.stage.turn = o.stage.holds in
    let u : Turn = o.stage.turn in
    let v : Turn = moving u x.link 502 (lost_cause c m.link) text true in
    let same : x.back ≡ lost.0 = (let s : Some x.back ≡ Some lost.0 = sym x.back_is ∙ lost.1 in cc) in
    let none : x.back.reply ≡ None = ap (λ (y : BackView). y.reply) same ∙ lost.3 in
    let h : StateHolds (state.Broken c) x.r.method (given x.link.events) x.content x.ended x.failed x.back =
    state_at (state.Broken c) x.back x.r.method (given x.link.events) x.content x.ended x.failed (ap (λ (y : BackView). y.state) same ∙ lost.2) x.exchanged.state in
    let received : Receives x.r.method (given x.link.events) x.content None = subst (Receives x.r.method (given x.link.events) x.content) none x.exchanged.received in
    let p : Passing None x.r u x.content pending = subst (λ (y : Option HttpReply). Passing y x.r u x.content pending) none x.passing in
    let is : IsSent k.entry k.peer x.r x.row x.link v = sent_as k.entry k.peer x.r x.row x.link x.link u v x.sent refl refl refl refl refl refl refl refl refl in
    let own_is : IsOwnText 502 (closes u) (u.reply ++ text) =
    subst (IsOwnText 502 (closes u)) (sym (ap (λ (l : List ℕ). l ++ text) p.2)) (own_text_of m trail u 502 close text t.tied t.asked close_is own) in
    let shown : IsTold steps x.link = told_link steps u.back x.link x.sent.back t.sound.one.shown in
    let w : Turning steps k m' trail input pending' waiting over (λ (y : Turn). y.whole ≡ true) =
    turned x.link x.link 502 (lost_cause c m.link) text true (λ (y : Turn). y.whole ≡ true) t x.sent.back refl (elsewhere k.link steps) refl (λ one h. h) refl t.sound.all alike router status cause
    (in_pending ∙ sym (ap (λ (l : List ℕ). l ++ text) p.4))
    (lost_answers c x.back k.entry k.peer x.r x.row x.link u m.link text x.content x.ended x.failed h received.0 x.ends_is x.fails_is x.number (subst (λ (s : BackState). IsFailing s x.link.faults) (ap (λ (y : BackView). y.state) same ∙ lost.2) x.failing) is own_is) shown (λ d e. inr (λ nothing. own_some 502 close text own (sym in_pending ∙ nothing))) refl in
    opened_turn Reply w (at_turn w)
