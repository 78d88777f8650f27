-- What an open machine keeps, and what each event on the client's link leaves of it.
use Rattle.std.proofs.Common.{◌≡◌, ◌≢◌, zero, suc, ℕ, ◌+◌, ◌≤◌, List, [], ◌∷◌, ◌++◌, length, take, drop, Option, Some, None, refl, sym, ◌∙◌, ap, subst, arith, Bool, true}
use Rattle.std.proofs.lemmas.List.{length-append, take-append-le, drop-append-le}
use Rattle.ip_net.specs.declared.ip.Ip.{Ip}
use Rattle.link_world.specs.declared.note.Note.{Note}
use Rattle.link_world.specs.declared.note.EndCause.{EndCause}
use Rattle.link_world.specs.declared.note.EndCause.TheVariants.{ClientFailed}
use Rattle.link_world.specs.Log.{gave, gave_end, took, taken}
use Rattle.conversation.specs.Steps.{Step, happened, failed, stopped, history, failures, stops}
use Rattle.conversation.specs.Asks.{IsItem}
use Rattle.conversation.specs.Turns.{Stage as TurnStage, Turn}
use Rattle.conversation.specs.Served.{IfLast, EndHolds}
use Rattle.conversation.specs.Holding.{Told, Holds, IsReplyKnown, IsUntaken}
use Rattle.conversation.proofs.Tellings.{told_happened, told_failed, told_stopped, failures_happened, failures_more, failures_quiet, sound_happened, sound_failed, sound_stopped}
use Rattle.conversation.proofs.Holdings.{holds_gave, holds_over, holds_forgot, holds_took}
use Rattle.http_wire.specs.declared.message.Request.{Request as HttpRequest}
use Rattle.http_wire.specs.declared.message.Reply.{Reply as HttpReply}
use Rattle.conn_machine.specs.Parts.{Trail, AtStage, AtTurn, IsOpenAt, IsUnroutedAt, IsAimedAt, Passing}
use Rattle.conn_machine.specs.Reached.{Reached, Kept, Opened, PhaseHolds, ending_note, trail_of, pending_of, open_over, Waits}
use Rattle.conn_machine.specs.declared.parts.Client.{Client}
use Rattle.conn_machine.specs.declared.parts.Current.{Current}
use Rattle.conn_machine.specs.declared.parts.Stage.{Stage}
use Rattle.conn_machine.specs.declared.parts.Stage.TheVariants.{Head, Pin, Route, Look, Down, Walk, Spent, Dial, Dialled, Exchange, Reply}
use Rattle.conn_machine.specs.declared.parts.Phase.{Phase}
use Rattle.conn_machine.specs.declared.parts.Phase.TheVariants.{Open, Broken, Over}
use Rattle.conn_machine.specs.declared.conn.Conn.{Conn}

-- the same at equal parts
pub holds_as : {t u : Told} {link : ℕ} {entry : List ℕ} {peer : Ip} {done : List Turn} {last last' : Option Turn} {rest rest' left left' : List ℕ} {waiting waiting' closed closed' ending ending' : List Note} {over over' : Bool} {number number' next next' : ℕ}
    → u ≡ t → last' ≡ last → rest' ≡ rest → left' ≡ left → waiting' ≡ waiting → closed' ≡ closed → ending' ≡ ending → over' ≡ over → number' ≡ number → next' ≡ next
    → Holds t link entry peer done last rest left waiting closed ending over number next
    → Holds u link entry peer done last' rest' left' waiting' closed' ending' over' number' next'
holds_as a b c d e f g h i j r = rw (a, b, c, d, e, f, g, h, i, j) r

-- what an open machine stores
pub opened : {steps : List Step} {c : Conn} → c.phase ≡ Open → Reached steps c
    → Opened steps c.client c.current (trail_of c) c.input.items (pending_of c) c.notes.items c.over c.stage
opened {steps} {c} is r =
    let p : PhaseHolds Open steps c r.done r.last r.rest r.left r.kept.next =
    subst (λ (p : Phase). PhaseHolds p steps c r.done r.last r.rest r.left r.kept.next) is r.phase in
    record {
      done = r.done;
      last = r.last;
      rest = r.rest;
      holds = holds_as refl refl refl (sym p.1) refl refl (sym (ap (ending_note c.client.link) is)) (sym (ap (λ (q : Phase). open_over q c.over) is)) refl (sym p.0) r.kept.holds;
      sound = r.kept.sound;
      tied = r.kept.tied;
      kept = p.2;
      unfailed = p.4;
      stage = p.3;
    }

pub reached_open : {steps : List Step} (d : Conn) → d.phase ≡ Open
    → Opened steps d.client d.current (trail_of d) d.input.items (pending_of d) d.notes.items d.over d.stage → Reached steps d
reached_open {steps} d is o =
    let k : Kept steps d.client d.current (trail_of d) d.notes.items (ending_note d.client.link d.phase) (open_over d.phase d.over) o.done o.last o.rest (pending_of d) = record {
      next = d.current.index;
      holds = holds_as refl refl refl refl refl refl (ap (ending_note d.client.link) is) (ap (λ (q : Phase). open_over q d.over) is) refl refl o.holds;
      sound = o.sound;
      tied = o.tied;
    } in
    record {
      done = o.done;
      last = o.last;
      rest = o.rest;
      left = pending_of d;
      kept = k;
      phase = subst (λ (p : Phase). PhaseHolds p steps d o.done o.last o.rest (pending_of d) d.current.index) (sym is) (refl, refl, o.kept, o.stage, o.unfailed);
    }

-- a machine whose bytes may be lost
pub reached_broken : {steps : List Step} (d : Conn) {input pending : List ℕ} {at : Stage} → d.phase ≡ Broken
    → Opened steps d.client d.current (trail_of d) input pending d.notes.items d.over at → Reached steps d
reached_broken {steps} d {pending} is o = record {
  done = o.done;
  last = o.last;
  rest = o.rest;
  left = pending;
  kept = record {
    next = d.current.index;
    holds = holds_as refl refl refl refl refl refl (ap (ending_note d.client.link) is) (ap (λ (q : Phase). open_over q d.over) is) refl refl (holds_forgot o.holds);
    sound = o.sound;
    tied = o.tied;
  };
  phase = subst (λ (p : Phase). PhaseHolds p steps d o.done o.last o.rest pending d.current.index) (sym is) tt;
}

-- a machine that ends
pub reached_over : {steps : List Step} (d : Conn) (cause : EndCause) {input pending : List ℕ} {at : Stage} → d.phase ≡ Over cause
    → (o : Opened steps d.client d.current (trail_of d) input pending d.notes.items d.over at)
    → EndHolds cause (history d.client.link steps) o.done o.last o.rest pending (failures d.client.link steps ≢ []) (stops steps ≢ []) → Reached steps d
reached_over {steps} d cause {pending} is o ending = record {
  done = o.done;
  last = o.last;
  rest = o.rest;
  left = pending;
  kept = record {
    next = d.current.index;
    holds = holds_as refl refl refl refl refl refl (ap (ending_note d.client.link) is) (ap (λ (q : Phase). open_over q d.over) is) refl refl (holds_forgot o.holds);
    sound = o.sound;
    tied = o.tied;
  };
  phase = subst (λ (p : Phase). PhaseHolds p steps d o.done o.last o.rest pending d.current.index) (sym is) ending;
}

-- the same request at another fact
abbrev pub turn_as : {m : Current} {input : List ℕ} {last : Option Turn} {rest : List ℕ} {P Q : Turn → Type 0} (h : AtTurn m input last rest P) → Q h.turn → AtTurn m input last rest Q
turn_as h q = record { turn = h.turn; last_is = h.last_is; pinned = h.pinned; rest_is = h.rest_is; fits = h.fits; asked = h.asked; holds = q }

unrouted_gave : {entry : List ℕ} {peer : Ip} {m : Current} {input pending : List ℕ} {last : Option Turn} {rest : List ℕ} (piece : List ℕ) {input' : List ℕ} → input' ≡ input ++ piece
    → AtTurn m input last rest (IsUnroutedAt entry peer m input pending) → AtTurn m input last rest (IsUnroutedAt entry peer m input' pending)
unrouted_gave {m} {input} piece is h = turn_as h (record {
  open_at = h.holds.open_at;
  item_is = h.holds.item_is ∙ sym (ap (λ (l : List ℕ). take m.size l) is ∙ take-append-le m.size input piece h.fits);
})

turn_gave : {m : Current} {input : List ℕ} {last : Option Turn} {rest : List ℕ} {P : Turn → Type 0} (piece : List ℕ) {input' : List ℕ} → input' ≡ input ++ piece
    → AtTurn m input last rest P → AtTurn m input' last (rest ++ piece) P
turn_gave {m} {input} {rest} piece {input'} is h = record {
  turn = h.turn;
  last_is = h.last_is;
  pinned = h.pinned;
  rest_is = ap (λ (l : List ℕ). l ++ piece) h.rest_is ∙ sym (ap (λ (l : List ℕ). drop m.size l) is ∙ drop-append-le m.size input piece h.fits);
  fits = (let e : length input' ≡ length (input ++ piece) = ap (length {A = ℕ}) is in let l : length (input ++ piece) ≡ length input + length piece = length-append input piece in let f : m.size ≤ length input = h.fits in omega arith);
  asked = h.asked;
  holds = h.holds;
}

stage_gave : (at : Stage) (k : Client) (m : Current) (input pending : List ℕ) (done : List Turn) (last : Option Turn) (rest piece input' : List ℕ) → input' ≡ input ++ piece
    → AtStage at k m input pending done last rest → AtStage at k m input' pending done last (rest ++ piece)
stage_gave Head k m input pending done last rest piece input' is h = record {
  last_is = h.last_is;
  unpinned = h.unpinned;
  rest_is = ap (λ (l : List ℕ). l ++ piece) h.rest_is ∙ sym is;
  none = h.none;
}
stage_gave Pin k m input pending done last rest piece input' is h = record {
  last_is = h.last_is;
  unpinned = h.unpinned;
  rest_is = ap (λ (l : List ℕ). l ++ piece) h.rest_is ∙ sym is;
  none = h.none;
  fits = (let e : length input' ≡ length (input ++ piece) = ap (length {A = ℕ}) is in let l : length (input ++ piece) ≡ length input + length piece = length-append input piece in let f : m.size ≤ length input = h.fits in omega arith);
  ask = h.ask;
  item = subst (λ (l : List ℕ). IsItem k.peer l h.ask) (sym (ap (λ (l : List ℕ). take m.size l) is ∙ take-append-le m.size input piece h.fits)) h.item;
  asked = h.asked;
}
stage_gave Route k m input pending done last rest piece input' is h = turn_gave piece is (unrouted_gave piece is h)
stage_gave Look k m input pending done last rest piece input' is h = turn_gave piece is h
stage_gave Walk k m input pending done last rest piece input' is h = turn_gave piece is h
stage_gave Dial k m input pending done last rest piece input' is h = turn_gave piece is h
stage_gave Exchange k m input pending done last rest piece input' is h = turn_gave piece is h
stage_gave Down k m input pending done last rest piece input' is h = turn_gave piece is h
stage_gave Spent k m input pending done last rest piece input' is h = turn_gave piece is h
stage_gave Dialled k m input pending done last rest piece input' is h = turn_gave piece is h
stage_gave Reply k m input pending done last rest piece input' is h = turn_gave piece is h

pub opened_gave : {steps : List Step} {k : Client} {m : Current} {trail : Trail} {input pending : List ℕ} {waiting : List Note} {over : Bool} {at : Stage} (piece : List ℕ) {input' : List ℕ}
    → input' ≡ input ++ piece → Opened steps k m trail input pending waiting over at
    → Opened (steps ++ happened k.link (gave piece) ∷ []) k m trail input' pending waiting over at
opened_gave {steps} {k} {m} {input} {pending} {at} piece {input'} is o = record {
  done = o.done;
  last = o.last;
  rest = o.rest ++ piece;
  holds = holds_as (told_happened k.link steps (gave piece)) refl refl refl refl refl refl refl refl refl (holds_gave piece refl o.holds);
  sound = sound_happened k.link steps (gave piece) k.entry k.peer o.done o.last o.holds.arrived o.sound;
  tied = o.tied;
  kept = o.kept;
  unfailed = failures_happened k.link k.link steps (gave piece) ∙ o.unfailed;
  stage = stage_gave at k m input pending o.done o.last o.rest piece input' is o.stage;
}

pub opened_over : {steps : List Step} {k : Client} {m : Current} {trail : Trail} {input pending : List ℕ} {waiting : List Note} {over : Bool} {at : Stage}
    → (o : Opened steps k m trail input pending waiting over at) → IfLast (λ u. IsReplyKnown u → IsUntaken (taken (history k.link steps)) o.done u) o.last
    → Opened (steps ++ happened k.link gave_end ∷ []) k m trail input pending waiting true at
opened_over {steps} {k} o untaken = record {
  done = o.done;
  last = o.last;
  rest = o.rest;
  holds = holds_as (told_happened k.link steps gave_end) refl refl refl refl refl refl refl refl refl (holds_over o.holds untaken);
  sound = sound_happened k.link steps gave_end k.entry k.peer o.done o.last o.holds.arrived o.sound;
  tied = o.tied;
  kept = o.kept;
  unfailed = failures_happened k.link k.link steps gave_end ∙ o.unfailed;
  stage = o.stage;
}

nothing_left : (n : ℕ) → drop n (let e : List ℕ = [] in e) ≡ []
nothing_left n = elim n as (λ k. drop k (let e : List ℕ = [] in e) ≡ []) [ zero ↦ refl | suc k ↦ refl ]

drop_none : (n : ℕ) (xs ys : List ℕ) → xs ≡ [] → ys ≡ drop n xs → ys ≡ []
drop_none n xs ys none is = is ∙ ap (λ (l : List ℕ). drop n l) none ∙ nothing_left n

pub drop_add : (a n : ℕ) (xs : List ℕ) → drop (a + n) xs ≡ drop n (drop a xs)
drop_add zero n xs = let e : zero + n ≡ n = omega arith in ap (λ (k : ℕ). drop k xs) e
drop_add (suc a) n [] = nothing_left (suc a + n) ∙ sym (nothing_left n)
drop_add (suc a) n (x ∷ xs) = let e : suc a + n ≡ suc (a + n) = omega arith in ap (λ (k : ℕ). drop k (x ∷ xs)) e ∙ drop_add a n xs

unrouted_took : {m : Current} {entry : List ℕ} {peer : Ip} {input pending : List ℕ} {last : Option Turn} {rest : List ℕ} (n : ℕ) {pending' : List ℕ} → pending' ≡ drop n pending
    → AtTurn m input last rest (IsUnroutedAt entry peer m input pending) → AtTurn m input last rest (IsUnroutedAt entry peer m input pending')
unrouted_took {pending} n {pending'} is h = turn_as h (record {
  open_at = record { undecided = h.holds.open_at.undecided; plan = h.holds.open_at.plan; none = drop_none n pending pending' h.holds.open_at.none is };
  item_is = h.holds.item_is;
})

aimed_took : {m : Current} {entry : List ℕ} {peer : Ip} {input pending : List ℕ} {last : Option Turn} {rest : List ℕ} {at : TurnStage} (n : ℕ) {pending' : List ℕ} → pending' ≡ drop n pending
    → AtTurn m input last rest (IsAimedAt entry peer m pending at) → AtTurn m input last rest (IsAimedAt entry peer m pending' at)
aimed_took {pending} n {pending'} is h = turn_as h (record {
  open_at = record { undecided = h.holds.open_at.undecided; plan = h.holds.open_at.plan; none = drop_none n pending pending' h.holds.open_at.none is };
  aim = h.holds.aim;
  aim_is = h.holds.aim_is;
  aims = h.holds.aims;
})

passing_took : (o : Option HttpReply) (r : HttpRequest) (t : Turn) (content : List ℕ) (n : ℕ) (pending pending' : List ℕ) → pending' ≡ drop n pending → Passing o r t content pending → Passing o r t content pending'
passing_took None r t content n pending pending' is h = (h.0, h.1, h.2, h.3, drop_none n pending pending' h.4 is)
passing_took (Some a) r t content n pending pending' is h = h

stage_took : (at : Stage) (k : Client) (m : Current) (input pending : List ℕ) (done : List Turn) (last : Option Turn) (rest : List ℕ) (n : ℕ) (pending' : List ℕ) → pending' ≡ drop n pending
    → AtStage at k m input pending done last rest → AtStage at k m input pending' done last rest
stage_took Head k m input pending done last rest n pending' is h = record { last_is = h.last_is; unpinned = h.unpinned; rest_is = h.rest_is; none = drop_none n pending pending' h.none is }
stage_took Pin k m input pending done last rest n pending' is h = record {
  last_is = h.last_is;
  unpinned = h.unpinned;
  rest_is = h.rest_is;
  none = drop_none n pending pending' h.none is;
  fits = h.fits;
  ask = h.ask;
  item = h.item;
  asked = h.asked;
}
stage_took Route k m input pending done last rest n pending' is h = unrouted_took n is h
stage_took Look k m input pending done last rest n pending' is h = aimed_took n is h
stage_took Walk k m input pending done last rest n pending' is h = aimed_took n is h
stage_took Dial k m input pending done last rest n pending' is h = aimed_took n is h
stage_took Dialled k m input pending done last rest n pending' is h = turn_as h (record {
  aimed = record {
    open_at = record { undecided = h.holds.aimed.open_at.undecided; plan = h.holds.aimed.open_at.plan; none = drop_none n pending pending' h.holds.aimed.open_at.none is };
    aim = h.holds.aimed.aim;
    aim_is = h.holds.aimed.aim_is;
    aims = h.holds.aimed.aims;
  };
  r = h.holds.r;
  row = h.holds.row;
  link = h.holds.link;
  is_sent = h.holds.is_sent;
  number = h.holds.number;
  untaken = h.holds.untaken;
  ungiven = h.holds.ungiven;
  sound = h.holds.sound;
  apart = h.holds.apart;
})
stage_took Exchange k m input pending done last rest n pending' is h = turn_as h (record {
  back = h.holds.back;
  back_is = h.holds.back_is;
  r = h.holds.r;
  row = h.holds.row;
  link = h.holds.link;
  sent = h.holds.sent;
  number = h.holds.number;
  content = h.holds.content;
  ended = h.holds.ended;
  failed = h.holds.failed;
  exchanged = h.holds.exchanged;
  ends_is = h.holds.ends_is;
  fails_is = h.holds.fails_is;
  failing = h.holds.failing;
  passing = passing_took h.holds.back.reply h.holds.r h.turn h.holds.content n pending pending' is h.holds.passing;
  apart = h.holds.apart;
})
stage_took Down k m input pending done last rest n pending' is h = aimed_took n is h
stage_took Spent k m input pending done last rest n pending' is h = aimed_took n is h
stage_took Reply k m input pending done last rest n pending' is h = h

pub opened_took : {steps : List Step} {k : Client} {m : Current} {trail : Trail} {input pending : List ℕ} {waiting : List Note} {over : Bool} {at : Stage} (n : ℕ) {pending' : List ℕ}
    → pending' ≡ drop n pending → Opened steps k m trail input pending waiting over at
    → Opened (steps ++ happened k.link (took (take n pending)) ∷ []) k m trail input pending' waiting over at
opened_took {steps} {k} {m} {input} {pending} {at} n {pending'} is o = record {
  done = o.done;
  last = o.last;
  rest = o.rest;
  holds = holds_as (told_happened k.link steps (took (take n pending))) refl refl refl refl refl refl refl refl refl (holds_took n is o.holds);
  sound = sound_happened k.link steps (took (take n pending)) k.entry k.peer o.done o.last o.holds.arrived o.sound;
  tied = o.tied;
  kept = o.kept;
  unfailed = failures_happened k.link k.link steps (took (take n pending)) ∙ o.unfailed;
  stage = stage_took at k m input pending o.done o.last o.rest n pending' is o.stage;
}

-- the client's link failed
pub reached_failed : {steps : List Step} (d : Conn) {input pending : List ℕ} {at : Stage} → d.phase ≡ Over ClientFailed
    → Opened steps d.client d.current (trail_of d) input pending d.notes.items d.over at → Reached (steps ++ failed d.client.link ∷ []) d
reached_failed {steps} d {pending} is o = record {
  done = o.done;
  last = o.last;
  rest = o.rest;
  left = pending;
  kept = record {
    next = d.current.index;
    holds = holds_as (told_failed d.client.link steps) refl refl refl refl refl (ap (ending_note d.client.link) is) (ap (λ (q : Phase). open_over q d.over) is) refl refl (holds_forgot o.holds);
    sound = sound_failed d.client.link steps d.client.entry d.client.peer o.done o.last o.holds.arrived o.sound;
    tied = o.tied;
  };
  phase = subst (λ (p : Phase). PhaseHolds p (steps ++ failed d.client.link ∷ []) d o.done o.last o.rest pending d.current.index) (sym is) (failures_more d.client.link steps);
}

-- a stop came
pub opened_stopped : {steps : List Step} {k : Client} {m : Current} {trail : Trail} {input pending : List ℕ} {waiting : List Note} {over : Bool} {at : Stage}
    → Opened steps k m trail input pending waiting over at → Opened (steps ++ stopped ∷ []) k m trail input pending waiting over at
opened_stopped {steps} {k} o = record {
  done = o.done;
  last = o.last;
  rest = o.rest;
  holds = holds_as (told_stopped k.link steps) refl refl refl refl refl refl refl refl refl o.holds;
  sound = sound_stopped steps k.entry k.peer o.done o.last o.sound;
  tied = o.tied;
  kept = o.kept;
  unfailed = failures_quiet k.link steps stopped refl ∙ o.unfailed;
  stage = o.stage;
}

-- what an open machine stores at this stage
pub opened_at : {steps : List Step} {at : Stage} {c : Conn} → Waits at c → Reached steps c
    → Opened steps c.client c.current (trail_of c) c.input.items (pending_of c) c.notes.items c.over at
opened_at {steps} {c} w r =
    subst (λ (s : Stage). Opened steps c.client c.current (trail_of c) c.input.items (pending_of c) c.notes.items c.over s) w.stage (opened w.phase r)

pub reached_at : {steps : List Step} {at : Stage} (d : Conn) → d.phase ≡ Open → d.stage ≡ at
    → Opened steps d.client d.current (trail_of d) d.input.items (pending_of d) d.notes.items d.over at → Reached steps d
reached_at {steps} d is at_is o =
    reached_open d is (subst (λ (s : Stage). Opened steps d.client d.current (trail_of d) d.input.items (pending_of d) d.notes.items d.over s) (sym at_is) o)
