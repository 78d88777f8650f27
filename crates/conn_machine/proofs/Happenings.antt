-- What happens on a link to the server, and how an exchange ends.
use Rattle.std.proofs.Common.{◌≡◌, ◌≢◌, ◌⊎◌, inl, ℕ, ◌≤◌, List, [], ◌∷◌, ◌++◌, length, take, drop, Option, Some, None, refl, sym, ◌∙◌, ap, subst, Bool, true, false}
use Rattle.std.specs.List.{AllByRecursion}
use Rattle.std.proofs.lemmas.List.{append-nil}
use Rattle.ip_net.specs.declared.ip.Ip.{Ip}
use Rattle.http_wire.specs.declared.message.Request.{Request as HttpRequest}
use Rattle.http_wire.specs.declared.message.Reply.{Reply as HttpReply}
use Rattle.link_world.specs.declared.note.Note.{Note}
use Rattle.link_world.specs.declared.note.Cause.{Cause}
use Rattle.link_world.specs.Log.{LinkEvent, took, given, taken, ends}
use Rattle.back_machine.specs.Replies.{HasReply}
use Rattle.back_machine.specs.Exchanges.{BackView, Exchanged, Receives}
use Rattle.conversation.specs.Plans.{Plan}
use Rattle.conversation.specs.Steps.{Step, happened, history, elsewhere}
use Rattle.conversation.specs.Turns.{sent, Turn, BackLink, message_to, links_of, IsSent, Answers, AnswersBy, IsTold, IsLinkTold}
use Rattle.conversation.specs.Holding.{IsReplyKnown}
use Rattle.conversation.proofs.Tellings.{told_elsewhere, history_more, failures_happened, client_apart}
use Rattle.conversation.proofs.Holdings.{holds_replied, holds_others, own_same, last_link, more_links, given_more, taken_more, ends_more}
use Rattle.conn_machine.specs.Parts.{Trail, Fits, IsElse, IsExchanging, IsFailing, Passing}
use Rattle.conn_machine.specs.Reached.{Opened, pending_to}
use Rattle.conn_machine.specs.declared.parts.Asked.{Asked}
use Rattle.conn_machine.specs.declared.parts.Client.{Client}
use Rattle.conn_machine.specs.declared.parts.Current.{Current}
use Rattle.conn_machine.specs.declared.parts.Stage.TheVariants.{Exchange}
use Rattle.conn_machine.proofs.Opens.{holds_as}
use Rattle.conn_machine.proofs.Exchanges.{all_shown}
use Rattle.conn_machine.proofs.Knowns.{known_still}
use Rattle.conn_machine.proofs.Turnings.{Turning, IsAlike, turning, at_turn, opened_turn}

-- a request on its way has the answer that its cause says
pub on_its_way : (o : Option HttpReply) (entry : List ℕ) (peer : Ip) (r : HttpRequest) (row : ℕ) (b : BackLink) (t : Turn) (content pending : List ℕ)
    → IsSent entry peer r row b t → Receives r.method (given b.events) content o → Passing o r t content pending → Answers entry peer t
on_its_way None entry peer r row b t content pending is received h =
    subst (λ (c : Cause). AnswersBy c entry peer t) (sym h.0) (sent, record { cause = h.0; stage = (r, row, b, is); status = h.1; reply = h.2; unfinished = h.3 })
on_its_way (Some a) entry peer r row b t content pending is received h =
    subst (λ (c : Cause). AnswersBy c entry peer t) (sym h.0)
    (r, row, b, is, record { answer = a; content = content; held = []; gave = subst (λ (l : List ℕ). HasReply r.method (given b.events) a l) (sym (append-nil content)) received; status = h.1; text = h.2; all = λ (e : t.whole ≡ true). absurd (let n : false ≡ true = sym h.3 ∙ e in let f : ⊥ = cc in f); sound = λ (e : t.whole ≡ true). absurd (let n : false ≡ true = sym h.3 ∙ e in let f : ⊥ = cc in f) })

-- the request after one more event on its link
abbrev pub moved : Turn → BackLink → ℕ → Cause → List ℕ → Turn
moved u b status cause more = record u { back = Some b; status = status; cause = cause; reply = u.reply ++ more }

abbrev pub longer : BackLink → LinkEvent → BackLink
longer b e = record b { events = b.events ++ e ∷ [] }

pub told_link : (steps : List Step) (o : Option BackLink) (b : BackLink) → o ≡ Some b → IsLinkTold steps o → IsTold steps b
told_link steps o b is h = subst (λ (x : Option BackLink). IsLinkTold steps x) is h

-- the link is another one than the client's
pub away : {steps : List Step} {k : Client} {m : Current} {trail : Trail} {input pending : List ℕ} {waiting : List Note} {over : Bool} {done : List Turn}
    (t : Turning steps k m trail input pending waiting over (IsExchanging k.entry k.peer m pending done)) → k.link ≢ m.link
away {steps} {k} t same =
    client_apart k.link steps k.entry k.peer t.holds.arrived.0 t.has.link t.holds.arrived.1 (told_link steps t.turn.back t.has.link t.has.sent.back t.sound.one.shown) (t.has.number ∙ sym same)

pub longer_sent : (entry : List ℕ) (peer : Ip) (r : HttpRequest) (row : ℕ) (b : BackLink) (u v : Turn) (e : LinkEvent) (unsent : List ℕ) → IsSent entry peer r row b u
    → v.item ≡ u.item → v.ask ≡ u.ask → v.plan ≡ u.plan → v.router ≡ u.router → v.looks ≡ u.looks → v.picks ≡ u.picks → v.spents ≡ u.spents → v.back ≡ Some (longer b e)
    → message_to (u.plan.target row) r ≡ taken (b.events ++ e ∷ []) ++ unsent
    → IsSent entry peer r row (longer b e) v
longer_sent entry peer r row b u v e unsent is item ask plan router looks_is picks_is spents_is back message = record {
  won = record { asked = ask ∙ is.won.asked; won = rw (plan, item) is.won.won; router = router ∙ is.won.router };
  looked = rw (plan, looks_is) is.looked;
  picked = rw (plan, picks_is) is.picked;
  accepted = spents_is ∙ is.accepted;
  back = back;
  more = is.more ++ e ∷ [];
  dialled = rw plan (ap (λ (h : List LinkEvent). h ++ e ∷ []) is.dialled);
  unsent = unsent;
  message = rw plan message;
}

-- an event on the link to the server
pub opened_event : {steps : List Step} {k : Client} {m : Current} {trail : Trail} {input pending : List ℕ} {waiting : List Note} {over : Bool}
    (e : LinkEvent) (status : ℕ) (cause : Cause) (more : List ℕ) (back : BackView) (content : List ℕ) (over_ fault_ : Bool) {m' : Current} {pending' : List ℕ}
    → IsAlike m m' → m'.router ≡ m.router → m'.status ≡ status → m'.cause ≡ cause → m'.link ≡ m.link → m'.back ≡ Some back → pending' ≡ pending ++ more
    → (o : Opened steps k m trail input pending waiting over Exchange)
    → Exchanged (message_to (o.stage.turn.plan.target o.stage.holds.row) o.stage.holds.r) o.stage.holds.r.method (taken (o.stage.holds.link.events ++ e ∷ [])) (given (o.stage.holds.link.events ++ e ∷ [])) content over_ fault_ back
    → (over_ ≡ true → ends (o.stage.holds.link.events ++ e ∷ []) ≢ []) → (fault_ ≡ true → o.stage.holds.link.faults ≢ []) → IsFailing back.state o.stage.holds.link.faults
    → Passing back.reply o.stage.holds.r (moved o.stage.turn (longer o.stage.holds.link e) status cause more) content pending'
    → (IsReplyKnown (moved o.stage.turn (longer o.stage.holds.link e) status cause more) → IsReplyKnown o.stage.turn ⊎ (pending' ≢ []))
    → Opened (steps ++ happened m.link e ∷ []) k m' trail input pending' waiting over Exchange
opened_event {steps} {k} {m} {trail} {input} {pending} {waiting} {over} e status cause more back content over_ fault_ {m'} {pending'} alike router status_is cause_is link_same back_is in_pending o exchanged ends_is fails_is failing passing knows =
    let t : Turning steps k m trail input pending waiting over (IsExchanging k.entry k.peer m pending o.done) = turning o o.stage in
    let x : IsExchanging k.entry k.peer m pending o.done o.stage.turn = o.stage.holds in
    let u : Turn = o.stage.turn in
    let b : BackLink = longer x.link e in
    let v : Turn = moved u b status cause more in
    let shown : IsTold steps x.link = told_link steps u.back x.link x.sent.back t.sound.one.shown in
    let is : IsSent k.entry k.peer x.r x.row b v = longer_sent k.entry k.peer x.r x.row x.link u v e back.pending x.sent refl refl refl refl refl refl refl refl exchanged.sent in
    let w : Turning (steps ++ happened m.link e ∷ []) k m' trail input pending' waiting over (IsExchanging k.entry k.peer m' pending' o.done) = record {
      done = o.done;
      turn = v;
      rest = t.rest;
      holds = holds_as (told_elsewhere k.link m.link steps e (away t)) refl refl refl refl refl refl refl alike.number alike.index
          (holds_others (elsewhere k.link steps ++ m.link ∷ []) (more_links o.done (Some v) m.link (elsewhere k.link steps) (last_link o.done v m.link (ap (λ (n : ℕ). n ∷ []) x.number)))
          (holds_replied v more (record { index = refl; item = refl; plan = refl; looks = refl; picks = refl; spents = refl }) refl in_pending (λ c. knows) (own_same o.done u v (sym (ap links_of x.sent.back))) t.holds));
      sound = record {
        all = all_shown steps m.link e k.entry k.peer o.done x.apart t.sound.all;
        one = record {
          item = t.sound.one.item;
          answers = on_its_way back.reply k.entry k.peer x.r x.row b v content pending' is exchanged.received passing;
          shown = record {
            host = shown.host;
            port = shown.port;
            more = shown.more ++ e ∷ [];
            opened = ap (λ (h : List LinkEvent). h ++ e ∷ []) shown.opened;
            events = subst (λ (n : ℕ). history x.link.link (steps ++ happened n e ∷ []) ≡ x.link.events ++ e ∷ []) x.number (history_more x.link.link steps e ∙ ap (λ (h : List LinkEvent). h ++ e ∷ []) shown.events);
            faults = failures_happened x.link.link m.link steps e ∙ shown.faults;
          };
        };
      };
      tied = record {
        index = t.tied.index ∙ sym alike.index;
        number = t.tied.number ∙ sym alike.number;
        router = t.tied.router ∙ sym router;
        status = sym status_is;
        cause = sym cause_is;
        looks = t.tied.looks;
        picks = t.tied.picks;
        backs = sym (ap links_of x.sent.back) ∙ t.tied.backs;
      };
      kept = t.kept;
      unfailed = failures_happened k.link m.link steps e ∙ t.unfailed;
      pinned = alike.pinned ∙ t.pinned;
      rest_is = t.rest_is ∙ ap (λ (n : ℕ). drop n input) (sym alike.size);
      fits = subst (λ (n : ℕ). n ≤ length input) (sym alike.size) t.fits;
      asked = subst (λ (a : Asked). Fits a v.ask) (sym alike.asked) t.asked;
      has = record {
        back = back;
        back_is = back_is;
        r = x.r;
        row = x.row;
        link = b;
        sent = is;
        number = x.number ∙ sym link_same;
        content = content;
        ended = over_;
        failed = fault_;
        exchanged = exchanged;
        ends_is = ends_is;
        fails_is = fails_is;
        failing = failing;
        passing = passing;
        apart = subst (λ (n : ℕ). AllByRecursion (λ (y : Turn). IsElse n y.back) o.done) (sym link_same) x.apart;
      };
    } in
    opened_turn Exchange w (at_turn w)

-- the same of what was handed on, after an event that adds nothing to it
pub passing_on : (o : Option HttpReply) (r : HttpRequest) (u : Turn) (b : BackLink) (content pending : List ℕ) → Passing o r u content pending
    → Passing o r (moved u b u.status u.cause []) content pending
passing_on None r u b content pending h = (h.0, h.1, append-nil u.reply ∙ h.2, h.3, h.4)
passing_on (Some a) r u b content pending h = (h.0, h.1, append-nil u.reply ∙ h.2, h.3)

-- the link took some of the request
pub opened_back_took : {steps : List Step} {k : Client} {m : Current} {trail : Trail} {input pending : List ℕ} {waiting : List Note} {over : Bool} (n : ℕ) (old back : BackView) {m' : Current}
    → IsAlike m m' → m'.router ≡ m.router → m'.status ≡ m.status → m'.cause ≡ m.cause → m'.link ≡ m.link → m'.back ≡ Some back → m.back ≡ Some old
    → back ≡ record old { pending = drop n old.pending }
    → ((message method took gave content : List ℕ) (ended failed : Bool) → Exchanged message method took gave content ended failed old → Exchanged message method (took ++ take n old.pending) gave content ended failed back)
    → Opened steps k m trail input pending waiting over Exchange
    → Opened (steps ++ happened m.link (took (take n (pending_to m.back))) ∷ []) k m' trail input pending waiting over Exchange
opened_back_took {steps} {k} {m} {trail} {input} {pending} {waiting} {over} n old back {m'} alike router status cause link_same back_is old_is value step o =
    let x : IsExchanging k.entry k.peer m pending o.done o.stage.turn = o.stage.holds in
    let u : Turn = o.stage.turn in
    let t : Turning steps k m trail input pending waiting over (IsExchanging k.entry k.peer m pending o.done) = turning o o.stage in
    let e : LinkEvent = took (take n old.pending) in
    let same : x.back ≡ old = (let s : Some x.back ≡ Some old = sym x.back_is ∙ old_is in cc) in
    let before : Exchanged (message_to (u.plan.target x.row) x.r) x.r.method (taken x.link.events) (given x.link.events) x.content x.ended x.failed old =
    subst (λ (b : BackView). Exchanged (message_to (u.plan.target x.row) x.r) x.r.method (taken x.link.events) (given x.link.events) x.content x.ended x.failed b) same x.exchanged in
    let after : Exchanged (message_to (u.plan.target x.row) x.r) x.r.method (taken (x.link.events ++ e ∷ [])) (given (x.link.events ++ e ∷ [])) x.content x.ended x.failed back =
    rw (taken_more x.link.events e, given_more x.link.events e, append-nil (given x.link.events)) (step (message_to (u.plan.target x.row) x.r) x.r.method (taken x.link.events) (given x.link.events) x.content x.ended x.failed before) in
    let reply_is : back.reply ≡ x.back.reply = ap (λ (b : BackView). b.reply) value ∙ sym (ap (λ (b : BackView). b.reply) same) in
    subst (λ (p : List ℕ). Opened (steps ++ happened m.link (took (take n p)) ∷ []) k m' trail input pending waiting over Exchange) (sym (ap pending_to old_is))
    (opened_event e u.status u.cause [] back x.content x.ended x.failed alike router (status ∙ sym t.tied.status) (cause ∙ sym t.tied.cause) link_same back_is (sym (append-nil pending)) o after
    (λ (q : x.ended ≡ true). ends_more x.link.events e (x.ends_is q)) x.fails_is
    (subst (λ (b : BackView). IsFailing b.state x.link.faults) (sym value) (subst (λ (b : BackView). IsFailing b.state x.link.faults) same x.failing))
    (subst (λ (p : Option HttpReply). Passing p x.r (moved u (longer x.link e) u.status u.cause []) x.content pending) (sym reply_is) (passing_on x.back.reply x.r u (longer x.link e) x.content pending x.passing))
    (λ d. inl (known_still u (moved u (longer x.link e) u.status u.cause []) x.link (longer x.link e) (λ w. w) refl refl x.sent.back (given_more x.link.events e ∙ append-nil (given x.link.events)) d)))
