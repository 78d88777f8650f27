-- A pinned request: how it gets its router and its reply, and how it leaves.
use Rattle.std.proofs.Common.{◌≡◌, ◌≢◌, inl, inr, ℕ, ◌+◌, ◌≤◌, List, [], ◌∷◌, ◌++◌, length, take, drop, Option, Some, None, refl, sym, ◌∙◌, ap, subst, Bool, true, false, not, if◌then◌else◌, arith}
use Rattle.std.specs.List.{AllByRecursion}
use Rattle.std.specs.Prelude.{is_some, nat_le}
use Rattle.std.proofs.Common.{Vec}
use Rattle.std.specs.declared.alloc.Global.{Global}
use Rattle.std.proofs.lemmas.List.{append-nil}
use Rattle.ip_net.specs.declared.ip.Ip.{Ip}
use Rattle.http_wire.specs.Own.{content_of}
use Rattle.http_wire.specs.Spelling.{reply_text}
use Rattle.http_wire.specs.declared.message.Request.{Request as HttpRequest}
use Rattle.http_wire.specs.declared.message.Reply.{Reply as HttpReply}
use Rattle.link_world.specs.declared.note.Note.{Note}
use Rattle.link_world.specs.declared.note.Look.{Look as LookNote}
use Rattle.link_world.specs.declared.note.NodePick.{NodePick}
use Rattle.link_world.specs.declared.note.Cause.{Cause}
use Rattle.link_world.specs.declared.note.Cause.TheVariants.{Passed, Undecided, Head as HeadCause, HeadTooLarge, NoRouter, Stopped, BodyTooLarge, NoChild, Spent, BackFailed, BackBad, BackLate}
use Rattle.link_world.specs.declared.note.HeadName.TheVariants as name
use Rattle.link_world.specs.declared.note.EndCause.{EndCause}
use Rattle.link_world.specs.declared.note.EndCause.TheVariants as ending
use Rattle.link_world.specs.Log.{LinkEvent, ends}
use Rattle.conversation.specs.Plans.{Plan, IsWinner}
use Rattle.conversation.specs.Steps.{Step, pinned, history, failures, stops}
use Rattle.conversation.specs.Asks.{IsItem, IsHead, judged, Ask, asks, faulty, unserved, broken, large, refusal, name_of}
use Rattle.conversation.specs.Turns.{Stage as TurnStage, unrouted, routed, Turn, note_of, closes, end_of, ends_after, Routes, Answers, AnswersBy, AnswersOwn, IsOwnText, IsUndecided, IsUnrouted}
use Rattle.conversation.specs.Served.{of_last, notes_of, IsKept, EndedWithin, EndHolds, IsAnswered}
use Rattle.conversation.specs.Holding.{told, Holds, Sound, EndedIn}
use Rattle.conversation.proofs.Tellings.{told_pinned, failures_quiet, sound_pinned}
use Rattle.conversation.proofs.Holdings.{all_both, cut_at, holds_pinned, holds_replied, own_same, holds_done, ended_ends, fresh_turn}
use Rattle.conn_machine.specs.Parts.{Trail, Tied, TiedBy, Fits, refused_status, FindsRow, IsRoute, issue_plan, end_by, note_by, AtStage, AtTurn, IsAim, IsOpenAt, IsUnroutedAt, IsAimedAt}
use Rattle.conn_machine.specs.Reached.{Reached, Opened, PhaseHolds, ending_note, closed_by, trail_of, pending_of, open_over}
use Rattle.conn_machine.specs.declared.pins.Routed.{Routed}
use Rattle.conn_machine.specs.declared.pins.Routed.TheVariants as route
use Rattle.conn_machine.specs.declared.parts.Asked.{Asked}
use Rattle.conn_machine.specs.declared.parts.Asked.TheVariants.{Nothing, Request, Refused}
use Rattle.conn_machine.specs.declared.parts.Aim.{Aim}
use Rattle.conn_machine.specs.declared.parts.Client.{Client}
use Rattle.conn_machine.specs.declared.parts.Current.{Current}
use Rattle.conn_machine.specs.declared.parts.Stage.{Stage}
use Rattle.conn_machine.specs.declared.parts.Stage.TheVariants.{Head, Pin, Route, Look, Reply}
use Rattle.conn_machine.specs.declared.parts.Phase.{Phase}
use Rattle.conn_machine.specs.declared.parts.Phase.TheVariants.{Open, Over}
use Rattle.conn_machine.specs.declared.conn.Conn.{Conn}
use Rattle.conn_machine.proofs.Opens.{holds_as, turn_as, reached_open}

-- what an open machine keeps of a pinned request
pub record Turning (steps : List Step) (k : Client) (m : Current) (trail : Trail) (input pending : List ℕ) (waiting : List Note) (over : Bool) (P : Turn → Type 0) : Type 0 where
  pub done : List Turn
  pub turn : Turn
  pub rest : List ℕ
  pub holds : Holds (told k.link steps) k.link k.entry k.peer done (Some turn) rest pending waiting [] [] over m.number m.index
  pub sound : Sound steps k.entry k.peer done (Some turn)
  pub tied : Tied m trail turn
  pub kept : AllByRecursion IsKept done
  pub unfailed : failures k.link steps ≡ []
  pub pinned : m.pinned ≡ true
  pub rest_is : rest ≡ drop m.size input
  pub fits : m.size ≤ length input
  pub asked : Fits m.asked turn.ask
  pub has : P turn

abbrev pub turning : {steps : List Step} {k : Client} {m : Current} {trail : Trail} {input pending : List ℕ} {waiting : List Note} {over : Bool} {at : Stage} {P : Turn → Type 0}
    (o : Opened steps k m trail input pending waiting over at) → AtTurn m input o.last o.rest P → Turning steps k m trail input pending waiting over P
turning {steps} {k} {m} {trail} o h = record {
  done = o.done;
  turn = h.turn;
  rest = o.rest;
  holds = holds_as refl (sym h.last_is) refl refl refl (sym (ap (λ (b : Bool). closed_by b k.link o.last) h.pinned)) refl refl refl refl o.holds;
  sound = subst (λ (l : Option Turn). Sound steps k.entry k.peer o.done l) h.last_is o.sound;
  tied = subst (λ (l : Option Turn). TiedBy true m trail l) h.last_is (subst (λ (b : Bool). TiedBy b m trail o.last) h.pinned o.tied);
  kept = o.kept;
  unfailed = o.unfailed;
  pinned = h.pinned;
  rest_is = h.rest_is;
  fits = h.fits;
  asked = h.asked;
  has = h.holds;
}

abbrev pub at_turn : {steps : List Step} {k : Client} {m : Current} {trail : Trail} {input pending : List ℕ} {waiting : List Note} {over : Bool} {P : Turn → Type 0}
    (t : Turning steps k m trail input pending waiting over P) → AtTurn m input (Some t.turn) t.rest P
at_turn t = record { turn = t.turn; last_is = refl; pinned = t.pinned; rest_is = t.rest_is; fits = t.fits; asked = t.asked; holds = t.has }

pub opened_turn : {steps : List Step} {k : Client} {m : Current} {trail : Trail} {input pending : List ℕ} {waiting : List Note} {over : Bool} {P : Turn → Type 0} (at : Stage)
    (t : Turning steps k m trail input pending waiting over P) → AtStage at k m input pending t.done (Some t.turn) t.rest
    → Opened steps k m trail input pending waiting over at
opened_turn {k} {m} {trail} at t stage = record {
  done = t.done;
  last = Some t.turn;
  rest = t.rest;
  holds = holds_as refl refl refl refl refl (ap (λ (b : Bool). closed_by b k.link (Some t.turn)) t.pinned) refl refl refl refl t.holds;
  sound = t.sound;
  tied = subst (λ (b : Bool). TiedBy b m trail (Some t.turn)) (sym t.pinned) t.tied;
  kept = t.kept;
  unfailed = t.unfailed;
  stage = stage;
}

-- the machine's parts are those of a request that was just pinned
pub record IsFresh (m : Current) (trail : Trail) (p : Plan) (m' : Current) (trail' : Trail) : Type 0 where
  pub asked : m'.asked ≡ m.asked
  pub size : m'.size ≡ m.size
  pub issue : issue_plan m'.issue ≡ Some p
  pub pinned : m'.pinned ≡ true
  pub index : m'.index ≡ m.index
  pub number : m'.number ≡ p.number
  pub router : m'.router ≡ None
  pub status : m'.status ≡ 0
  pub cause : m'.cause ≡ Undecided
  pub looks : trail'.looks ≡ []
  pub picks : trail'.picks ≡ []
  pub backs : trail'.backs ≡ []

fresh_undecided : (index : ℕ) (item : List ℕ) (ask : Ask) (p : Plan) (entry : List ℕ) (peer : Ip) → IsUndecided unrouted entry peer (fresh_turn index item ask p)
fresh_undecided index item ask p entry peer = record {
  cause = refl;
  stage = record { router = refl; looks = refl; picks = refl; spents = refl; back = refl };
  status = refl;
  reply = refl;
  unfinished = refl;
}

pub opened_pinned : {steps : List Step} {k : Client} {m : Current} {trail : Trail} {input pending : List ℕ} {waiting : List Note} {over : Bool} (p : Plan) {m' : Current} {trail' : Trail}
    → IsFresh m trail p m' trail' → m.number ≤ p.number
    → Opened steps k m trail input pending waiting over Pin
    → Opened (steps ++ pinned p ∷ []) k m' trail' input pending waiting over Route
opened_pinned {steps} {k} {m} {trail} {input} {pending} {waiting} {over} p {m'} {trail'} f le o =
    let u : Turn = fresh_turn m.index (take m.size input) o.stage.ask p in
    let closed_is : closed_by m.pinned k.link o.last ≡ [] = ap (λ (b : Bool). closed_by b k.link o.last) o.stage.unpinned ∙ ap (of_last (notes_of k.link)) o.stage.last_is in
    let before : Holds (told k.link steps) k.link k.entry k.peer o.done None o.rest pending waiting [] [] over m.number m.index =
    holds_as refl (sym o.stage.last_is) refl refl refl (sym closed_is) refl refl refl refl o.holds in
    let t : Turning (steps ++ pinned p ∷ []) k m' trail' input pending waiting over (IsUnroutedAt k.entry k.peer m' input pending) = record {
      done = o.done;
      turn = u;
      rest = drop m.size input;
      holds = holds_as (told_pinned k.link steps p) refl refl refl refl refl refl refl f.number f.index
          (holds_pinned (take m.size input) o.stage.ask p (o.stage.rest_is ∙ cut_at m.size input) le before);
      sound = record {
        all = (let s : Sound (steps ++ pinned p ∷ []) k.entry k.peer o.done o.last = sound_pinned steps p k.entry k.peer o.done o.last o.sound in s.all);
        one = record { item = o.stage.item; answers = (unrouted, fresh_undecided m.index (take m.size input) o.stage.ask p k.entry k.peer); shown = tt };
      };
      tied = record {
        index = sym f.index;
        number = sym f.number;
        router = sym f.router;
        status = sym f.status;
        cause = sym f.cause;
        looks = sym f.looks;
        picks = sym f.picks;
        backs = sym f.backs;
      };
      kept = o.kept;
      unfailed = failures_quiet k.link steps (pinned p) refl ∙ o.unfailed;
      pinned = f.pinned;
      rest_is = ap (λ (n : ℕ). drop n input) (sym f.size);
      fits = subst (λ (n : ℕ). n ≤ length input) (sym f.size) o.stage.fits;
      asked = subst (λ (a : Asked). Fits a o.stage.ask) (sym f.asked) o.stage.asked;
      has = record {
        open_at = record { undecided = fresh_undecided m.index (take m.size input) o.stage.ask p k.entry k.peer; plan = f.issue; none = o.stage.none };
        item_is = ap (λ (n : ℕ). take n input) (sym f.size);
      };
    } in
    opened_turn Route t (at_turn t)

-- the same parts, but for what the note says
pub record IsAlike (m m' : Current) : Type 0 where
  pub asked : m'.asked ≡ m.asked
  pub size : m'.size ≡ m.size
  pub issue : m'.issue ≡ m.issue
  pub pinned : m'.pinned ≡ m.pinned
  pub index : m'.index ≡ m.index
  pub number : m'.number ≡ m.number

asked_is : (m : Current) (ask : Ask) (r : HttpRequest) → m.asked ≡ Request r → Fits m.asked ask → ask ≡ asks r
asked_is m ask r is h = subst (λ (a : Asked). Fits a ask) is h

same_plan : (o : Option Plan) (p q : Plan) → o ≡ Some p → o ≡ Some q → p ≡ q
same_plan o p q a b = cc

-- the row that is found by each head that the request's bytes are is the one by its head
routed_by : (entry : List ℕ) (peer : Ip) (bytes : List ℕ) (u : Turn) (r : HttpRequest) (p : Plan) (won : Option ℕ) → IsItem peer u.item u.ask → u.ask ≡ asks r
    → u.item ≡ bytes → p ≡ u.plan → FindsRow p bytes entry peer r won → Routes u.plan u.item entry peer r won
routed_by entry peer bytes u r p won item ask item_is plan found =
    let h : IsItem peer u.item (asks r) = subst (λ (a : Ask). IsItem peer u.item a) ask item in
    (h.0, h.1, subst (λ (q : Plan). IsWinner q entry (judged h.0 r) peer won) plan (found h.0 (subst (λ (l : List ℕ). IsHead l h.0) item_is h.1)))

-- the router in this row won
pub opened_won : {steps : List Step} {k : Client} {m : Current} {trail : Trail} {input pending : List ℕ} {waiting : List Note} {over : Bool} (row : ℕ) (aim : Aim) {m' : Current}
    → IsAlike m m' → m'.router ≡ Some row → m'.status ≡ m.status → m'.cause ≡ m.cause → m'.aim ≡ Some aim
    → IsRoute k.entry k.peer (take m.size input) m.asked (issue_plan m.issue) (route.Won row aim)
    → Opened steps k m trail input pending waiting over Route
    → Opened steps k m' trail input pending waiting over Look
opened_won {steps} {k} {m} {trail} {input} {pending} {waiting} {over} row aim {m'} alike router status cause aim_is won o =
    let t : Turning steps k m trail input pending waiting over (IsOpenAt k.entry k.peer m pending unrouted) = turning o (turn_as o.stage o.stage.holds.open_at) in
    let u : Turn = t.turn in
    let v : Turn = record u { router = Some row } in
    let ask : u.ask ≡ asks won.0 = asked_is m u.ask won.0 won.2 t.asked in
    let plan : won.1 ≡ u.plan = same_plan (issue_plan m.issue) won.1 u.plan won.3 t.has.plan in
    let unrouted_is : IsUnrouted u = t.has.undecided.stage in
    let undecided : IsUndecided routed k.entry k.peer v = record {
      cause = t.has.undecided.cause;
      stage = (won.0, row, record { asked = ask; won = routed_by k.entry k.peer (take m.size input) u won.0 won.1 (Some row) t.sound.one.item ask o.stage.holds.item_is plan won.4; router = refl }, unrouted_is.looks, unrouted_is.picks, unrouted_is.spents, unrouted_is.back);
      status = t.has.undecided.status;
      reply = t.has.undecided.reply;
      unfinished = t.has.undecided.unfinished;
    } in
    let w : Turning steps k m' trail input pending waiting over (IsAimedAt k.entry k.peer m' pending routed) = record {
      done = t.done;
      turn = v;
      rest = t.rest;
      holds = holds_as refl refl refl refl refl refl refl refl alike.number alike.index
          (holds_replied v [] (record { index = refl; item = refl; plan = refl; looks = refl; picks = refl; spents = refl }) (sym (append-nil u.reply)) (sym (append-nil pending)) (λ c d. inl d) (own_same t.done u v refl) t.holds);
      sound = record { all = t.sound.all; one = record { item = t.sound.one.item; answers = subst (λ (c : Cause). AnswersBy c k.entry k.peer v) (sym t.has.undecided.cause) (routed, undecided); shown = t.sound.one.shown } };
      tied = record {
        index = t.tied.index ∙ sym alike.index;
        number = t.tied.number ∙ sym alike.number;
        router = sym router;
        status = t.tied.status ∙ sym status;
        cause = t.tied.cause ∙ sym cause;
        looks = t.tied.looks;
        picks = t.tied.picks;
        backs = t.tied.backs;
      };
      kept = t.kept;
      unfailed = t.unfailed;
      pinned = alike.pinned ∙ t.pinned;
      rest_is = t.rest_is ∙ ap (λ (n : ℕ). drop n input) (sym alike.size);
      fits = subst (λ (n : ℕ). n ≤ length input) (sym alike.size) t.fits;
      asked = subst (λ (a : Asked). Fits a v.ask) (sym alike.asked) t.asked;
      has = record {
        open_at = record { undecided = undecided; plan = ap issue_plan alike.issue ∙ t.has.plan; none = t.has.none };
        aim = aim;
        aim_is = aim_is;
        aims = λ (x : ℕ) (e : Some row ≡ Some x). let same : row ≡ x = cc in subst (λ (y : ℕ). IsAim aim (u.plan.target y)) same (subst (λ (p : Plan). IsAim aim (p.target row)) plan won.5);
      };
    } in
    opened_turn Look w (at_turn w)

-- a request with its whole reply
abbrev pub replied : Turn → ℕ → Cause → List ℕ → Turn
replied t status cause text = record t { status = status; cause = cause; reply = text; whole = true }

pub opened_replied : {steps : List Step} {k : Client} {m : Current} {trail : Trail} {input pending : List ℕ} {waiting : List Note} {over : Bool} {at : TurnStage} (status : ℕ) (cause : Cause) (text : List ℕ) {m' : Current} {pending' : List ℕ}
    → IsAlike m m' → m'.router ≡ m.router → m'.status ≡ status → m'.cause ≡ cause → pending' ≡ text → text ≢ []
    → (t : Turning steps k m trail input pending waiting over (IsOpenAt k.entry k.peer m pending at))
    → Answers k.entry k.peer (replied t.turn status cause text)
    → Opened steps k m' trail input pending' waiting over Reply
opened_replied {steps} {k} {m} {trail} {input} {pending} {waiting} {over} status cause text {m'} {pending'} alike router status_is cause_is in_pending some t answers =
    let u : Turn = t.turn in
    let v : Turn = replied u status cause text in
    let w : Turning steps k m' trail input pending' waiting over (λ (x : Turn). x.whole ≡ true) = record {
      done = t.done;
      turn = v;
      rest = t.rest;
      holds = holds_as refl refl refl refl refl refl refl refl alike.number alike.index
          (holds_replied v text (record { index = refl; item = refl; plan = refl; looks = refl; picks = refl; spents = refl }) (sym (ap (λ (l : List ℕ). l ++ text) t.has.undecided.reply)) (in_pending ∙ sym (ap (λ (l : List ℕ). l ++ text) t.has.none)) (λ c d. inr (λ none. some (sym in_pending ∙ none))) (own_same t.done u v refl) t.holds);
      sound = record { all = t.sound.all; one = record { item = t.sound.one.item; answers = answers; shown = t.sound.one.shown } };
      tied = record {
        index = t.tied.index ∙ sym alike.index;
        number = t.tied.number ∙ sym alike.number;
        router = t.tied.router ∙ sym router;
        status = sym status_is;
        cause = sym cause_is;
        looks = t.tied.looks;
        picks = t.tied.picks;
        backs = t.tied.backs;
      };
      kept = t.kept;
      unfailed = t.unfailed;
      pinned = alike.pinned ∙ t.pinned;
      rest_is = t.rest_is ∙ ap (λ (n : ℕ). drop n input) (sym alike.size);
      fits = subst (λ (n : ℕ). n ≤ length input) (sym alike.size) t.fits;
      asked = subst (λ (a : Asked). Fits a v.ask) (sym alike.asked) t.asked;
      has = refl;
    } in
    opened_turn Reply w (at_turn w)

abbrev first_of : List ℕ → ℕ
first_of [] = 0
first_of (b ∷ bytes) = b

-- each reply has bytes: it begins with an H
pub text_some : (a : HttpReply) (version : ℕ) (close : Bool) (content : List ℕ) → reply_text a version close ++ content ≢ []
text_some a version close content is = let e : 72 ≡ 0 = ap first_of is in let f : ⊥ = omega (arith, e) in f

-- an own reply has bytes
pub own_some : (status : ℕ) (close : Bool) (text : List ℕ) → IsOwnText status close text → text ≢ []
own_some status close text own none = text_some own.0 1 close (content_of status) (sym own.2 ∙ none)

-- the machine ends the connection where the request says so
pub ends_fit : (index : ℕ) (asked : Asked) (ask : Ask) → Fits asked ask → ends_after index ask ≡ end_by index asked
ends_fit index Nothing ask h = absurd h
ends_fit index (Request r) ask h = ap (ends_after index) h
ends_fit index (Refused cause) (asks r) h = absurd (let f : ⊥ = cc in f)
ends_fit index (Refused cause) (faulty f) h = refl
ends_fit index (Refused cause) (unserved r) h = refl
ends_fit index (Refused cause) broken h = refl
ends_fit index (Refused cause) large h = refl

pub own_text_of : (m : Current) (trail : Trail) (t : Turn) (status : ℕ) (close : Bool) (text : List ℕ) → Tied m trail t → Fits m.asked t.ask → close ≡ is_some (end_by m.index m.asked)
    → IsOwnText status close text → IsOwnText status (closes t) text
own_text_of m trail t status close text tied fits is own =
    subst (λ (b : Bool). IsOwnText status b text) (is ∙ ap is_some (sym (ends_fit m.index m.asked t.ask fits) ∙ ap (λ (n : ℕ). ends_after n t.ask) (sym tied.index))) own

cause_in : Option (ℕ × Cause) → Option Cause
cause_in None = None
cause_in (Some p) = Some p.1

abbrev IsHeadCause : Cause → Type 0
IsHeadCause (HeadCause f) = Unit {0}
IsHeadCause HeadTooLarge = Unit {0}
IsHeadCause _ = ⊥

head_cause : (ask : Ask) (s : ℕ) (cause : Cause) → refusal ask ≡ Some (s, cause) → IsHeadCause cause
unfolding cause_in
head_cause (asks r) s cause h = let e : None ≡ Some cause = ap cause_in h in absurd (let f : ⊥ = cc in f)
head_cause (faulty f) s cause h =
    let e : Some (HeadCause (name_of f)) ≡ Some cause = ap cause_in h in
    let d : HeadCause (name_of f) ≡ cause = cc in
    subst IsHeadCause d tt
head_cause (unserved r) s cause h =
    let e : Some (HeadCause name.BadCoding) ≡ Some cause = ap cause_in h in
    let d : HeadCause name.BadCoding ≡ cause = cc in
    subst IsHeadCause d tt
head_cause broken s cause h =
    let e : Some (HeadCause name.BadHead) ≡ Some cause = ap cause_in h in
    let d : HeadCause name.BadHead ≡ cause = cc in
    subst IsHeadCause d tt
head_cause large s cause h =
    let e : Some HeadTooLarge ≡ Some cause = ap cause_in h in
    let d : HeadTooLarge ≡ cause = cc in
    subst IsHeadCause d tt

own_of : (status : ℕ) (t : Turn) (cause : Cause) (text : List ℕ) → IsOwnText status (closes t) text → AnswersOwn status (replied t status cause text)
own_of status t cause text own = record { status_is = refl; text = own; whole = refl }

unrouted_of : (t : Turn) (status : ℕ) (cause : Cause) (text : List ℕ) → IsUnrouted t → IsUnrouted (replied t status cause text)
unrouted_of t status cause text u = record { router = u.router; looks = u.looks; picks = u.picks; spents = u.spents; back = u.back }

-- a request that is refused
pub refused_answers : (entry : List ℕ) (peer : Ip) (t : Turn) (cause : Cause) (text : List ℕ) → Fits (Refused cause) t.ask → IsUnrouted t
    → IsOwnText (refused_status cause) (closes t) text → Answers entry peer (replied t (refused_status cause) cause text)
refused_answers entry peer t (HeadCause f) text fits u own = (fits, own_of (refused_status (HeadCause f)) t (HeadCause f) text own, unrouted_of t (refused_status (HeadCause f)) (HeadCause f) text u)
refused_answers entry peer t HeadTooLarge text fits u own = (fits, own_of 431 t HeadTooLarge text own, unrouted_of t 431 HeadTooLarge text u)
refused_answers entry peer t Passed text fits u own = absurd (head_cause t.ask 400 Passed fits)
refused_answers entry peer t Undecided text fits u own = absurd (head_cause t.ask 400 Undecided fits)
refused_answers entry peer t NoRouter text fits u own = absurd (head_cause t.ask 400 NoRouter fits)
refused_answers entry peer t (Stopped n) text fits u own = absurd (head_cause t.ask 400 (Stopped n) fits)
refused_answers entry peer t BodyTooLarge text fits u own = absurd (head_cause t.ask 400 BodyTooLarge fits)
refused_answers entry peer t NoChild text fits u own = absurd (head_cause t.ask 400 NoChild fits)
refused_answers entry peer t (Spent n) text fits u own = absurd (head_cause t.ask 400 (Spent n) fits)
refused_answers entry peer t (BackFailed l) text fits u own = absurd (head_cause t.ask 400 (BackFailed l) fits)
refused_answers entry peer t (BackBad l) text fits u own = absurd (head_cause t.ask 400 (BackBad l) fits)
refused_answers entry peer t (BackLate l b n) text fits u own = absurd (head_cause t.ask 400 (BackLate l b n) fits)

-- the request is refused
pub opened_refused : {steps : List Step} {k : Client} {m : Current} {trail : Trail} {input pending : List ℕ} {waiting : List Note} {over : Bool} (cause : Cause) (status : ℕ) (close : Bool) (text : List ℕ) {m' : Current} {pending' : List ℕ}
    → IsAlike m m' → m'.router ≡ m.router → m'.status ≡ status → m'.cause ≡ cause → pending' ≡ text
    → status ≡ refused_status cause → close ≡ is_some (end_by m.index m.asked) → IsOwnText status close text
    → IsRoute k.entry k.peer (take m.size input) m.asked (issue_plan m.issue) (route.Refused cause)
    → Opened steps k m trail input pending waiting over Route
    → Opened steps k m' trail input pending' waiting over Reply
opened_refused {steps} {k} {m} {trail} {input} {pending} {waiting} {over} cause status close text alike router status_is cause_is in_pending is close_is own refused o =
    let t : Turning steps k m trail input pending waiting over (IsOpenAt k.entry k.peer m pending unrouted) = turning o (turn_as o.stage o.stage.holds.open_at) in
    let own_is : IsOwnText (refused_status cause) (closes t.turn) text =
    own_text_of m trail t.turn (refused_status cause) close text t.tied t.asked close_is (subst (λ (s : ℕ). IsOwnText s close text) is own) in
    opened_replied (refused_status cause) cause text alike router (status_is ∙ is) cause_is in_pending (own_some status close text own) t
    (refused_answers k.entry k.peer t.turn cause text (subst (λ (a : Asked). Fits a t.turn.ask) refused t.asked) t.has.undecided.stage own_is)

-- no router wins
pub opened_lost : {steps : List Step} {k : Client} {m : Current} {trail : Trail} {input pending : List ℕ} {waiting : List Note} {over : Bool} (close : Bool) (text : List ℕ) {m' : Current} {pending' : List ℕ}
    → IsAlike m m' → m'.router ≡ m.router → m'.status ≡ 404 → m'.cause ≡ NoRouter → pending' ≡ text
    → close ≡ is_some (end_by m.index m.asked) → IsOwnText 404 close text
    → IsRoute k.entry k.peer (take m.size input) m.asked (issue_plan m.issue) route.Lost
    → Opened steps k m trail input pending waiting over Route
    → Opened steps k m' trail input pending' waiting over Reply
opened_lost {steps} {k} {m} {trail} {input} {pending} {waiting} {over} close text alike router status_is cause_is in_pending close_is own lost o =
    let t : Turning steps k m trail input pending waiting over (IsOpenAt k.entry k.peer m pending unrouted) = turning o (turn_as o.stage o.stage.holds.open_at) in
    let u : Turn = t.turn in
    let ask : u.ask ≡ asks lost.0 = asked_is m u.ask lost.0 lost.2 t.asked in
    let plan : lost.1 ≡ u.plan = same_plan (issue_plan m.issue) lost.1 u.plan lost.3 t.has.plan in
    let own_is : IsOwnText 404 (closes u) text = own_text_of m trail u 404 close text t.tied t.asked close_is own in
    opened_replied 404 NoRouter text alike router status_is cause_is in_pending (own_some 404 close text own) t
    ((lost.0, ask, routed_by k.entry k.peer (take m.size input) u lost.0 lost.1 None t.sound.one.item ask o.stage.holds.item_is plan lost.4), own_of 404 u NoRouter text own_is, unrouted_of u 404 NoRouter text t.has.undecided.stage)

-- the note that the machine makes is the request's
pub same_note : (link : ℕ) (m : Current) (trail : Trail) (t : Turn) → Tied m trail t → note_by link m trail.looks trail.picks trail.backs ≡ note_of link t
same_note link m trail t tied = rw (tied.index, tied.number, tied.router, tied.status, tied.cause, tied.looks, tied.picks, tied.backs) refl

abbrev IsClosing : EndCause → Type 0
IsClosing ending.Asked = Unit {0}
IsClosing ending.Refused = Unit {0}
IsClosing ending.Count = Unit {0}
IsClosing _ = ⊥

asked_kind : (a b : Bool) (cause : EndCause) → (if not a then Some ending.Asked else if b then Some ending.Count else None) ≡ Some cause → IsClosing cause
asked_kind false b cause h = let d : ending.Asked ≡ cause = cc in subst IsClosing d tt
asked_kind true true cause h = let d : ending.Count ≡ cause = cc in subst IsClosing d tt
asked_kind true false cause h = absurd (let f : ⊥ = cc in f)

closing_kind : (index : ℕ) (ask : Ask) (cause : EndCause) → ends_after index ask ≡ Some cause → IsClosing cause
closing_kind index (asks r) cause h = asked_kind r.keep (nat_le 1000 index) cause h
closing_kind index (faulty f) cause h = let d : ending.Refused ≡ cause = cc in subst IsClosing d tt
closing_kind index (unserved r) cause h = let d : ending.Refused ≡ cause = cc in subst IsClosing d tt
closing_kind index broken cause h = let d : ending.Refused ≡ cause = cc in subst IsClosing d tt
closing_kind index large cause h = let d : ending.Refused ≡ cause = cc in subst IsClosing d tt

-- the end that a request asks for
end_ends : (cause : EndCause) (history : List LinkEvent) (done : List Turn) (t : Turn) (rest left : List ℕ) (failed stopped : Type 0)
    → IsClosing cause → left ≡ [] → AllByRecursion IsKept done → end_of t ≡ Some cause → EndHolds cause history (done ++ t ∷ []) None rest left failed stopped
end_ends ending.Asked history done t rest left failed stopped c none kept e = (none, refl, (done, t, refl, kept, e))
end_ends ending.Refused history done t rest left failed stopped c none kept e = (none, refl, (done, t, refl, kept, e))
end_ends ending.Count history done t rest left failed stopped c none kept e = (none, refl, (done, t, refl, kept, e))
end_ends ending.Client history done t rest left failed stopped c none kept e = absurd c
end_ends ending.ClientFailed history done t rest left failed stopped c none kept e = absurd c
end_ends ending.Unread history done t rest left failed stopped c none kept e = absurd c
end_ends (ending.Idle b n) history done t rest left failed stopped c none kept e = absurd c
end_ends (ending.Cut l) history done t rest left failed stopped c none kept e = absurd c
end_ends (ending.CutLate b n) history done t rest left failed stopped c none kept e = absurd c
end_ends ending.Stopped history done t rest left failed stopped c none kept e = absurd c
end_ends ending.Memory history done t rest left failed stopped c none kept e = absurd c

-- a machine whose request has left: what is the same, and what is new
pub record HasLeft (c d : Conn) : Type 0 where
  pub client : d.client ≡ c.client
  pub input : d.input.items ≡ drop c.current.size c.input.items
  pub over : d.over ≡ c.over
  pub number : d.current.number ≡ c.current.number
  pub unpinned : d.current.pinned ≡ false
  pub none : pending_of d ≡ []
  pub notes : d.notes.items ≡ c.notes.items ++ note_by c.client.link c.current c.looks.items c.picks.items c.backs.items ∷ []

left_holds : {steps : List Step} {c d : Conn} → HasLeft c d → pending_of c ≡ []
    → (t : Turning steps c.client c.current (trail_of c) c.input.items (pending_of c) c.notes.items c.over (λ (x : Turn). x.whole ≡ true))
    → (next : ℕ) → next ≡ c.current.index + 1
    → Holds (told d.client.link steps) d.client.link d.client.entry d.client.peer (t.done ++ t.turn ∷ []) None d.input.items [] d.notes.items (closed_by d.current.pinned d.client.link None) [] false d.current.number next
left_holds {steps} {c} {d} h none t next next_is =
    let note : note_by c.client.link c.current c.looks.items c.picks.items c.backs.items ≡ note_of c.client.link t.turn = same_note c.client.link c.current (trail_of c) t.turn t.tied in
    let all : Holds (told c.client.link steps) c.client.link c.client.entry c.client.peer (t.done ++ t.turn ∷ []) None d.input.items [] d.notes.items (closed_by d.current.pinned c.client.link None) [] false d.current.number next =
    holds_as refl refl (h.input ∙ sym t.rest_is) (sym none) (h.notes ∙ ap (λ (n : Note). c.notes.items ++ n ∷ []) note) (nothing d.current.pinned) refl refl h.number next_is (holds_done t.has none t.holds) in
    subst (λ (k : Client). Holds (told k.link steps) k.link k.entry k.peer (t.done ++ t.turn ∷ []) None d.input.items [] d.notes.items (closed_by d.current.pinned k.link None) [] false d.current.number next) (sym h.client) all
  where
    nothing : (b : Bool) → closed_by b c.client.link None ≡ []
    nothing true = refl
    nothing false = refl

left_sound : {steps : List Step} {c d : Conn} → HasLeft c d
    → (t : Turning steps c.client c.current (trail_of c) c.input.items (pending_of c) c.notes.items c.over (λ (x : Turn). x.whole ≡ true))
    → Sound steps d.client.entry d.client.peer (t.done ++ t.turn ∷ []) None
left_sound {steps} {c} h t =
    subst (λ (k : Client). Sound steps k.entry k.peer (t.done ++ t.turn ∷ []) None) (sym h.client)
    (record { all = all_both (IsAnswered steps c.client.entry c.client.peer) t.done (t.turn ∷ []) t.sound.all (t.sound.one, tt); one = tt })

unpinned_tied : (b : Bool) (m : Current) (trail : Trail) → b ≡ false → TiedBy b m trail None
unpinned_tied true m trail is = absurd (let f : ⊥ = cc in f)
unpinned_tied false m trail is = tt

-- the connection goes on
pub reached_on : {steps : List Step} {c : Conn} (d : Conn) → d.phase ≡ Open → d.stage ≡ Head → d.current.index ≡ c.current.index + 1
    → HasLeft c d → pending_of c ≡ [] → end_by c.current.index c.current.asked ≡ None → c.over ≡ false
    → Opened steps c.client c.current (trail_of c) c.input.items (pending_of c) c.notes.items c.over Reply → Reached steps d
reached_on {steps} {c} d is at index h none end goes_on o =
    let t : Turning steps c.client c.current (trail_of c) c.input.items (pending_of c) c.notes.items c.over (λ (x : Turn). x.whole ≡ true) = turning o o.stage in
    let kept : IsKept t.turn = ap (λ (n : ℕ). ends_after n t.turn.ask) t.tied.index ∙ ends_fit c.current.index c.current.asked t.turn.ask t.asked ∙ end in
    reached_open d is (record {
      done = t.done ++ t.turn ∷ [];
      last = None;
      rest = d.input.items;
      holds = holds_as refl refl refl h.none refl refl refl (h.over ∙ goes_on) refl refl (left_holds h none t d.current.index index);
      sound = left_sound h t;
      tied = unpinned_tied d.current.pinned d.current (trail_of d) h.unpinned;
      kept = all_both IsKept t.done (t.turn ∷ []) t.kept (kept, tt);
      unfailed = subst (λ (k : Client). failures k.link steps ≡ []) (sym h.client) t.unfailed;
      stage = subst (λ (s : Stage). AtStage s d.client d.current d.input.items (pending_of d) (t.done ++ t.turn ∷ []) None d.input.items) (sym at) (record { last_is = refl; unpinned = h.unpinned; rest_is = refl; none = h.none });
    })

-- the connection ends
left_over : {steps : List Step} {c : Conn} (d : Conn) (cause : EndCause) → d.phase ≡ Over cause → HasLeft c d → pending_of c ≡ []
    → (t : Turning steps c.client c.current (trail_of c) c.input.items (pending_of c) c.notes.items c.over (λ (x : Turn). x.whole ≡ true))
    → EndHolds cause (history d.client.link steps) (t.done ++ t.turn ∷ []) None d.input.items [] (failures d.client.link steps ≢ []) (stops steps ≢ []) → Reached steps d
left_over {steps} {c} d cause is h none t ending_is = record {
  done = t.done ++ t.turn ∷ [];
  last = None;
  rest = d.input.items;
  left = [];
  kept = record {
    next = c.current.index + 1;
    holds = holds_as refl refl refl refl refl refl (ap (ending_note d.client.link) is) (ap (λ (q : Phase). open_over q d.over) is) refl refl (left_holds h none t (c.current.index + 1) refl);
    sound = left_sound h t;
    tied = unpinned_tied d.current.pinned d.current (trail_of d) h.unpinned;
  };
  phase = subst (λ (p : Phase). PhaseHolds p steps d (t.done ++ t.turn ∷ []) None d.input.items [] (c.current.index + 1)) (sym is) ending_is;
}

pub reached_closing : {steps : List Step} {c : Conn} (d : Conn) (cause : EndCause) → d.phase ≡ Over cause
    → HasLeft c d → pending_of c ≡ [] → end_by c.current.index c.current.asked ≡ Some cause
    → Opened steps c.client c.current (trail_of c) c.input.items (pending_of c) c.notes.items c.over Reply → Reached steps d
reached_closing {steps} {c} d cause is h none end o =
    let t : Turning steps c.client c.current (trail_of c) c.input.items (pending_of c) c.notes.items c.over (λ (x : Turn). x.whole ≡ true) = turning o o.stage in
    let e : end_of t.turn ≡ Some cause = ap (λ (n : ℕ). ends_after n t.turn.ask) t.tied.index ∙ ends_fit c.current.index c.current.asked t.turn.ask t.asked ∙ end in
    left_over d cause is h none t
    (end_ends cause (history d.client.link steps) t.done t.turn d.input.items [] (failures d.client.link steps ≢ []) (stops steps ≢ []) (closing_kind t.turn.index t.turn.ask cause e) refl t.kept e)

pub reached_left : {steps : List Step} {c : Conn} (d : Conn) → d.phase ≡ Over ending.Client → c.over ≡ true
    → HasLeft c d → pending_of c ≡ [] → end_by c.current.index c.current.asked ≡ None
    → Opened steps c.client c.current (trail_of c) c.input.items (pending_of c) c.notes.items c.over Reply → Reached steps d
reached_left {steps} {c} d is over h none end o =
    let t : Turning steps c.client c.current (trail_of c) c.input.items (pending_of c) c.notes.items c.over (λ (x : Turn). x.whole ≡ true) = turning o o.stage in
    let kept : IsKept t.turn = ap (λ (n : ℕ). ends_after n t.turn.ask) t.tied.index ∙ ends_fit c.current.index c.current.asked t.turn.ask t.asked ∙ end in
    let x : EndedIn (history c.client.link steps) t.done (Some t.turn) = t.holds.closes over in
    let within : EndedWithin (history d.client.link steps) (t.done ++ t.turn ∷ []) = record {
      front = t.done;
      turn = t.turn;
      done_is = refl;
      before = x.before;
      after = x.after;
      parts = ap (λ (k : Client). history k.link steps) h.client ∙ x.parts;
      covers = x.covers;
      short = x.untaken (inl t.has);
    } in
    left_over d ending.Client is h none t
    (subst (λ (k : Client). ends (history k.link steps) ≢ []) (sym h.client) (ended_ends x), refl, refl, all_both IsKept t.done (t.turn ∷ []) t.kept (kept, tt), inr within)

-- the note of equal lists
pub note_same : (link : ℕ) (m : Current) (a a' : Vec LookNote Global) (b b' : Vec NodePick Global) (d d' : Vec ℕ Global) → a ≡ a' → b ≡ b' → d ≡ d'
    → note_by link m a.items b.items d.items ≡ note_by link m a'.items b'.items d'.items
note_same link m a a' b b' d d' e f g = rw (e, f, g) refl

-- what was found of the router, at equal parts
pub route_at : (text entry : List ℕ) (peer : Ip) (bytes item : List ℕ) (m : Current) (f g : Routed) → text ≡ entry → bytes ≡ item → f ≡ g → IsRoute text peer bytes m.asked (issue_plan m.issue) f → IsRoute entry peer item m.asked (issue_plan m.issue) g
route_at text entry peer bytes item m f g a b e h =
    subst (λ (x : Routed). IsRoute entry peer item m.asked (issue_plan m.issue) x) e
    (subst (λ (l : List ℕ). IsRoute entry peer l m.asked (issue_plan m.issue) f) b (subst (λ (l : List ℕ). IsRoute l peer bytes m.asked (issue_plan m.issue) f) a h))
