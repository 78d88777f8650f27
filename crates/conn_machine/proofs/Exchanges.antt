-- A link to the server: how it is dialled, and what happens on it.
use Rattle.std.proofs.Common.{◌≡◌, ◌≢◌, ℕ, ◌≤◌, List, [], ◌∷◌, ◌++◌, length, drop, Option, Some, None, refl, sym, ◌∙◌, ap, subst, Bool, true, false}
use Rattle.std.specs.List.{flat_map, AllByRecursion}
use Rattle.std.proofs.lemmas.List.{append-nil}
use Rattle.ip_net.specs.declared.ip.Ip.{Ip}
use Rattle.http_wire.specs.declared.message.Request.{Request as HttpRequest}
use Rattle.http_wire.specs.declared.message.Reply.{Reply as HttpReply}
use Rattle.link_world.specs.declared.note.Note.{Note}
use Rattle.link_world.specs.declared.note.Cause.{Cause}
use Rattle.link_world.specs.Log.{LinkEvent, came, dialled, given, taken, only_if}
use Rattle.back_machine.specs.Exchanges.{BackView, Exchanged, StateHolds}
use Rattle.back_machine.specs.declared.state.BackState.{BackState}
use Rattle.back_machine.specs.declared.state.BackState.TheVariants as backs
use Rattle.back_machine.specs.Forwarding.{forwarded}
use Rattle.conversation.specs.Plans.{Target}
use Rattle.conversation.specs.Asks.{asks}
use Rattle.conversation.specs.Steps.{Step, happened, history, elsewhere, IsNew}
use Rattle.conversation.specs.Turns.{picked, sent, Turn, BackLink, message_to, links_of, IsAt, IsSent, IsUndecided, AnswersBy, IsTold, IsLinkTold}
use Rattle.conversation.specs.Served.{backs_of, IsAnswered}
use Rattle.conversation.specs.Holding.{told}
use Rattle.conversation.proofs.Tellings.{told_elsewhere, told_more, history_more, Apart, other_link, failures_happened}
use Rattle.conversation.proofs.Holdings.{all_both, holds_replied, holds_others, own_new, last_link, more_links}
use Rattle.conn_machine.specs.Parts.{Trail, Fits, IsAim, IsElse, IsAimedAt, IsDialling, IsExchanging, IsFailing, Passing, issue_plan}
use Rattle.conn_machine.specs.Reached.{Opened}
use Rattle.conn_machine.specs.declared.parts.Aim.{Aim}
use Rattle.conn_machine.specs.declared.parts.Asked.{Asked}
use Rattle.conn_machine.specs.declared.parts.Asked.TheVariants.{Request}
use Rattle.conn_machine.specs.declared.parts.Client.{Client}
use Rattle.conn_machine.specs.declared.parts.Current.{Current}
use Rattle.conn_machine.specs.declared.parts.Stage.TheVariants.{Dial, Dialled, Exchange}
use Rattle.conn_machine.proofs.Opens.{holds_as}
use Rattle.conn_machine.proofs.Knowns.{unknown_by, nothing_whole}
use Rattle.conn_machine.proofs.Turnings.{Turning, IsAlike, turning, at_turn, opened_turn}

-- a link that is new isn't one that was dialled before
new_apart : (steps : List Step) (link : ℕ) (b : BackLink) → IsNew link steps → IsTold steps b → b.link ≢ link
new_apart steps link b new told same =
    let e : history b.link steps ≡ [] = ap (λ (l : ℕ). history l steps) same ∙ new.quiet in
    let d : dialled told.host told.port ∷ told.more ≡ [] = sym told.opened ∙ sym told.events ∙ e in
    cc

new_else : (steps : List Step) (link : ℕ) (o : Option BackLink) → IsNew link steps → IsLinkTold steps o → IsElse link o
new_else steps link None new told = tt
new_else steps link (Some b) new told = new_apart steps link b new told

all_else : (steps : List Step) (entry : List ℕ) (peer : Ip) (link : ℕ) (done : List Turn) → IsNew link steps → AllByRecursion (IsAnswered steps entry peer) done → AllByRecursion (λ (u : Turn). IsElse link u.back) done
all_else steps entry peer link [] new h = tt
all_else steps entry peer link (t ∷ done) new h = (new_else steps link t.back new h.0.shown, all_else steps entry peer link done new h.1)

new_client : (steps : List Step) (link l : ℕ) (entry : List ℕ) (peer : Ip) (more : List LinkEvent) → history link steps ≡ came entry peer ∷ more → IsNew l steps → link ≢ l
new_client steps link l entry peer more arrived new same =
    let e : history link steps ≡ [] = ap (λ (x : ℕ). history x steps) same ∙ new.quiet in
    let d : came entry peer ∷ more ≡ [] = sym arrived ∙ e in
    cc

apart_on : (l link : ℕ) (e : LinkEvent) → l ≢ link → Apart (happened link e) l
apart_on l link e differs = record { events = ap (λ (b : Bool). only_if b (e ∷ [])) (other_link l link differs); faults = refl }

shown_else : (steps : List Step) (l : ℕ) (e : LinkEvent) (o : Option BackLink) → IsElse l o → IsLinkTold steps o → IsLinkTold (steps ++ happened l e ∷ []) o
shown_else steps l e None other told = tt
shown_else steps l e (Some b) other told = told_more steps (happened l e) b (apart_on b.link l e other) told

pub all_shown : (steps : List Step) (l : ℕ) (e : LinkEvent) (entry : List ℕ) (peer : Ip) (done : List Turn) → AllByRecursion (λ (u : Turn). IsElse l u.back) done
    → AllByRecursion (IsAnswered steps entry peer) done → AllByRecursion (IsAnswered (steps ++ happened l e ∷ []) entry peer) done
all_shown steps l e entry peer [] other h = tt
all_shown steps l e entry peer (t ∷ done) other h = (record { item = h.0.item; answers = h.0.answers; shown = shown_else steps l e t.back other.0 h.0.shown }, all_shown steps l e entry peer done other.1 h.1)

message_is : (aim : Aim) (target : Target) (r : HttpRequest) → IsAim aim target → message_to target r ≡ forwarded r aim.server aim.pass_host
message_is aim target r is = rw (← is.host, ← is.port, ← is.pass_host) refl

else_link : (l : ℕ) (o : Option BackLink) → IsElse l o → AllByRecursion (λ (n : ℕ). n ≢ l) (links_of o)
else_link l None other = tt
else_link l (Some b) other = (other, tt)

-- none of these requests was on the link
all_others : (l : ℕ) (done : List Turn) → AllByRecursion (λ (w : Turn). IsElse l w.back) done → AllByRecursion (λ (n : ℕ). n ≢ l) (flat_map backs_of done)
all_others l [] other = tt
all_others l (t ∷ done) other = all_both (λ (n : ℕ). n ≢ l) (links_of t.back) (flat_map backs_of done) (else_link l t.back other.0) (all_others l done other.1)

-- the link was dialled
pub opened_dialled : {steps : List Step} {k : Client} {m : Current} {trail : Trail} {input pending : List ℕ} {waiting : List Note} {over : Bool} (l : ℕ) (aim : Aim) {m' : Current} {trail' : Trail}
    → IsAlike m m' → m'.router ≡ m.router → m'.status ≡ m.status → m'.cause ≡ m.cause → m'.aim ≡ m.aim → m'.link ≡ l
    → trail'.looks ≡ trail.looks → trail'.picks ≡ trail.picks → trail'.backs ≡ trail.backs ++ l ∷ []
    → m.aim ≡ Some aim → IsNew l steps
    → Opened steps k m trail input pending waiting over Dial
    → Opened (steps ++ happened l (dialled aim.server.host aim.server.port) ∷ []) k m' trail' input pending waiting over Dialled
opened_dialled {steps} {k} {m} {trail} {input} {pending} {waiting} {over} l aim {m'} {trail'} alike router status cause aim_same link_is in_looks in_picks in_backs aim_is new o =
    let t : Turning steps k m trail input pending waiting over (IsAimedAt k.entry k.peer m pending picked) = turning o o.stage in
    let u : Turn = t.turn in
    let x : IsAt picked k.entry k.peer u = t.has.open_at.undecided.stage in
    let same : t.has.aim ≡ aim = (let e : Some t.has.aim ≡ Some aim = sym t.has.aim_is ∙ aim_is in cc) in
    let aims : IsAim aim (u.plan.target x.1) = subst (λ (a : Aim). IsAim a (u.plan.target x.1)) same (t.has.aims x.1 x.2.router) in
    let e : LinkEvent = dialled aim.server.host aim.server.port in
    let b : BackLink = record { link = l; events = e ∷ []; faults = [] } in
    let v : Turn = record u { back = Some b } in
    let away : k.link ≢ l = new_client steps k.link l k.entry k.peer t.holds.arrived.0 t.holds.arrived.1 new in
    let is : IsSent k.entry k.peer x.0 x.1 b v = record {
      won = record { asked = x.2.asked; won = x.2.won; router = x.2.router };
      looked = x.3;
      picked = x.4;
      accepted = x.5;
      back = refl;
      more = [];
      dialled = dialled_to aim (u.plan.target x.1) aims;
      unsent = message_to (u.plan.target x.1) x.0;
      message = refl;
    } in
    let undecided : IsUndecided sent k.entry k.peer v = record {
      cause = t.has.open_at.undecided.cause;
      stage = (x.0, x.1, b, is);
      status = t.has.open_at.undecided.status;
      reply = t.has.open_at.undecided.reply;
      unfinished = t.has.open_at.undecided.unfinished;
    } in
    let apart : AllByRecursion (λ (w : Turn). IsElse l w.back) t.done = all_else steps k.entry k.peer l t.done new t.sound.all in
    let w : Turning (steps ++ happened l e ∷ []) k m' trail' input pending waiting over (IsDialling k.entry k.peer m' pending t.done) = record {
      done = t.done;
      turn = v;
      rest = t.rest;
      holds = holds_as (told_elsewhere k.link l steps e away) refl refl refl refl refl refl refl alike.number alike.index
          (holds_others (elsewhere k.link steps ++ l ∷ []) (more_links t.done (Some v) l (elsewhere k.link steps) (last_link t.done v l refl))
          (holds_replied v [] (record { index = refl; item = refl; plan = refl; looks = refl; picks = refl; spents = refl }) (sym (append-nil u.reply)) (sym (append-nil pending)) (λ c d. absurd (unknown_by v b undecided.unfinished refl (λ r asked. nothing_whole r.method) d)) (own_new t.done u v l (ap links_of x.6) refl (all_others l t.done apart)) t.holds));
      sound = record {
        all = all_shown steps l e k.entry k.peer t.done apart t.sound.all;
        one = record {
          item = t.sound.one.item;
          answers = subst (λ (c : Cause). AnswersBy c k.entry k.peer v) (sym undecided.cause) (sent, undecided);
          shown = record {
            host = aim.server.host;
            port = aim.server.port;
            more = [];
            opened = refl;
            events = history_more l steps e ∙ ap (λ (h : List LinkEvent). h ++ e ∷ []) new.quiet;
            faults = failures_happened l l steps e ∙ new.sound;
          };
        };
      };
      tied = record {
        index = t.tied.index ∙ sym alike.index;
        number = t.tied.number ∙ sym alike.number;
        router = t.tied.router ∙ sym router;
        status = t.tied.status ∙ sym status;
        cause = t.tied.cause ∙ sym cause;
        looks = t.tied.looks ∙ sym in_looks;
        picks = t.tied.picks ∙ sym in_picks;
        backs = sym (in_backs ∙ ap (λ (y : List ℕ). y ++ l ∷ []) (sym t.tied.backs ∙ ap links_of x.6));
      };
      kept = t.kept;
      unfailed = failures_happened k.link l steps e ∙ t.unfailed;
      pinned = alike.pinned ∙ t.pinned;
      rest_is = t.rest_is ∙ ap (λ (n : ℕ). drop n input) (sym alike.size);
      fits = subst (λ (n : ℕ). n ≤ length input) (sym alike.size) t.fits;
      asked = subst (λ (a : Asked). Fits a v.ask) (sym alike.asked) t.asked;
      has = record {
        aimed = record { open_at = record { undecided = undecided; plan = ap issue_plan alike.issue ∙ t.has.open_at.plan; none = t.has.open_at.none }; aim = t.has.aim; aim_is = aim_same ∙ t.has.aim_is; aims = t.has.aims };
        r = x.0;
        row = x.1;
        link = b;
        is_sent = is;
        number = sym link_is;
        untaken = refl;
        ungiven = refl;
        sound = refl;
        apart = subst (λ (n : ℕ). AllByRecursion (λ (y : Turn). IsElse n y.back) t.done) (sym link_is) apart;
      };
    } in
    opened_turn Dialled w (at_turn w)
  where
    dialled_to : (a : Aim) (target : Target) → IsAim a target
        → (let s : List LinkEvent = dialled a.server.host a.server.port ∷ [] in s) ≡ dialled target.host target.port ∷ []
    dialled_to a target is = rw (is.host, is.port) refl

no_reply : (method : List ℕ) (back : BackView) (given_ content : List ℕ) (ended_ failed_ : Bool) → back.state ≡ backs.Waiting → StateHolds back.state method given_ content ended_ failed_ back → back.reply ≡ None
no_reply method back given_ content ended_ failed_ is h = let w : StateHolds backs.Waiting method given_ content ended_ failed_ back = subst (λ (s : BackState). StateHolds s method given_ content ended_ failed_ back) is h in w.1.none

-- the exchange begins
pub opened_exchange : {steps : List Step} {k : Client} {m : Current} {trail : Trail} {input pending : List ℕ} {waiting : List Note} {over : Bool} (aim : Aim) (r : HttpRequest) (back : BackView) {m' : Current}
    → IsAlike m m' → m'.router ≡ m.router → m'.status ≡ m.status → m'.cause ≡ m.cause → m'.link ≡ m.link → m'.back ≡ Some back
    → m.aim ≡ Some aim → m.asked ≡ Request r → back.state ≡ backs.Waiting
    → Exchanged (forwarded r aim.server aim.pass_host) r.method [] [] [] false false back
    → Opened steps k m trail input pending waiting over Dialled
    → Opened steps k m' trail input pending waiting over Exchange
opened_exchange {steps} {k} {m} {trail} {input} {pending} {waiting} {over} aim r back {m'} alike router status cause link_same back_is aim_is asked_is waiting_is begun o =
    let none : back.reply ≡ None = no_reply r.method back [] [] false false waiting_is begun.state in
    let t : Turning steps k m trail input pending waiting over (IsDialling k.entry k.peer m pending o.done) = turning o o.stage in
    let u : Turn = t.turn in
    let d : IsDialling k.entry k.peer m pending o.done u = t.has in
    let same : d.aimed.aim ≡ aim = (let e : Some d.aimed.aim ≡ Some aim = sym d.aimed.aim_is ∙ aim_is in cc) in
    let aims : IsAim aim (u.plan.target d.row) = subst (λ (a : Aim). IsAim a (u.plan.target d.row)) same (d.aimed.aims d.row d.is_sent.won.router) in
    let request_is : d.r ≡ r = (let e : asks d.r ≡ asks r = sym d.is_sent.won.asked ∙ subst (λ (a : Asked). Fits a u.ask) asked_is t.asked in cc) in
    let exchanged : Exchanged (message_to (u.plan.target d.row) d.r) d.r.method (taken d.link.events) (given d.link.events) [] false false back =
    rw (request_is, d.untaken, d.ungiven, message_is aim (u.plan.target d.row) r aims) begun in
    let w : Turning steps k m' trail input pending waiting over (IsExchanging k.entry k.peer m' pending o.done) = record {
      done = t.done;
      turn = u;
      rest = t.rest;
      holds = holds_as refl refl refl refl refl refl refl refl alike.number alike.index t.holds;
      sound = t.sound;
      tied = record {
        index = t.tied.index ∙ sym alike.index;
        number = t.tied.number ∙ sym alike.number;
        router = t.tied.router ∙ sym router;
        status = t.tied.status ∙ sym status;
        cause = t.tied.cause ∙ sym cause;
        looks = t.tied.looks;
        picks = t.tied.picks;
        backs = t.tied.backs;
      };
      kept = t.kept;
      unfailed = t.unfailed;
      pinned = alike.pinned ∙ t.pinned;
      rest_is = t.rest_is ∙ ap (λ (n : ℕ). drop n input) (sym alike.size);
      fits = subst (λ (n : ℕ). n ≤ length input) (sym alike.size) t.fits;
      asked = subst (λ (a : Asked). Fits a u.ask) (sym alike.asked) t.asked;
      has = record {
        back = back;
        back_is = back_is;
        r = d.r;
        row = d.row;
        link = d.link;
        sent = d.is_sent;
        number = d.number ∙ sym link_same;
        content = [];
        ended = false;
        failed = false;
        exchanged = exchanged;
        ends_is = λ (e : false ≡ true). absurd (let f : ⊥ = cc in f);
        fails_is = λ (e : false ≡ true). absurd (let f : ⊥ = cc in f);
        failing = subst (λ (s : BackState). IsFailing s d.link.faults) (sym waiting_is) d.sound;
        passing = subst (λ (p : Option HttpReply). Passing p d.r u [] pending) (sym none) (d.aimed.open_at.undecided.cause, d.aimed.open_at.undecided.status, d.aimed.open_at.undecided.reply, d.aimed.open_at.undecided.unfinished, d.aimed.open_at.none);
        apart = subst (λ (n : ℕ). AllByRecursion (λ (y : Turn). IsElse n y.back) o.done) (sym link_same) d.apart;
      };
    } in
    opened_turn Exchange w (at_turn w)
