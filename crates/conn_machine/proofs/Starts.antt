-- How a connection begins, finds its next request, and ends without one.
use Rattle.std.proofs.Common.{◌≡◌, inl, ℕ, ◌<◌, ◌≤◌, List, [], ◌∷◌, length, take, drop, min, None, refl, sym, ◌∙◌, ap, subst, arith, Bool, true, false}
use Rattle.std.proofs.Common.{Vec}
use Rattle.std.specs.declared.alloc.Global.{Global}
use Rattle.std.proofs.lemmas.List.{length-take, take-append-le, take-append-drop, take_all}
use Rattle.ip_net.specs.declared.ip.Ip.{Ip}
use Rattle.link_world.specs.declared.note.Note.{Note}
use Rattle.link_world.specs.declared.note.Look.{Look}
use Rattle.link_world.specs.declared.note.NodePick.{NodePick}
use Rattle.link_world.specs.declared.note.EndCause.TheVariants.{Client as ByClient, Memory}
use Rattle.link_world.specs.Log.{came}
use Rattle.conversation.specs.Steps.{Step, happened}
use Rattle.conversation.specs.Asks.{IsItem}
use Rattle.conversation.specs.Served.{IsHeadPart}
use Rattle.conversation.proofs.Tellings.{told_happened, failures_happened}
use Rattle.conversation.proofs.Holdings.{holds_came, holds_forgot, ended_ends}
use Rattle.conn_machine.specs.Parts.{Trail, TiedBy, Fits, IsFound, AtStage}
use Rattle.conn_machine.specs.Reached.{Reached, Opened, PhaseHolds, ending_note, closed_by, trail_of, pending_of}
use Rattle.conn_machine.specs.declared.parts.Asked.{Asked}
use Rattle.conn_machine.specs.declared.parts.Client.{Client}
use Rattle.conn_machine.specs.declared.parts.Current.{Current}
use Rattle.conn_machine.specs.declared.parts.Stage.TheVariants.{Head, Pin}
use Rattle.conn_machine.specs.declared.parts.Phase.{Phase}
use Rattle.conn_machine.specs.declared.parts.Phase.TheVariants.{Open, Broken, Over, Told}
use Rattle.conn_machine.specs.declared.heads.Found.{Found}
use Rattle.conn_machine.specs.declared.heads.Found.TheVariants as found
use Rattle.conn_machine.specs.declared.conn.Conn.{Conn}
use Rattle.conn_machine.proofs.Opens.{holds_as, reached_over}

-- a client came
pub opened_came : (k : Client) (m : Current) (trail : Trail) → m.pinned ≡ false → m.number ≡ 0 → m.index ≡ 1
    → Opened (happened k.link (came k.entry k.peer) ∷ []) k m trail [] [] [] false Head
opened_came k m trail unpinned number index = record {
  done = [];
  last = None;
  rest = [];
  holds = holds_as (told_happened k.link [] (came k.entry k.peer)) refl refl refl refl (closes m.pinned) refl refl number index (holds_came k.link k.entry k.peer);
  sound = record { all = tt; one = tt };
  tied = subst (λ (b : Bool). TiedBy b m trail None) (sym unpinned) tt;
  kept = tt;
  unfailed = failures_happened k.link k.link [] (came k.entry k.peer);
  stage = record { last_is = refl; unpinned = unpinned; rest_is = refl; none = refl };
}
  where
    closes : (b : Bool) → closed_by b k.link None ≡ []
    closes true = refl
    closes false = refl

pub opened_new : (k : Client) (m : Current) (trail : Trail) (entry input pending : List ℕ) (waiting : List Note) → entry ≡ k.entry → input ≡ [] → pending ≡ [] → waiting ≡ []
    → m.pinned ≡ false → m.number ≡ 0 → m.index ≡ 1 → Opened (happened k.link (came entry k.peer) ∷ []) k m trail input pending waiting false Head
opened_new k m trail entry input pending waiting e i p w unpinned number index = rw (e, i, p, w) (opened_came k m trail unpinned number index)

pub short_take : (input : List ℕ) → length (take 16384 input) < 16384 → take 16384 input ≡ input
short_take input short =
    let e : length (take 16384 input) ≡ min 16384 (length input) = length-take 16384 input in
    let le : length input ≤ 16384 = omega arith in
    take_all 16384 input le

-- the client ended before a request was whole
pub reached_client : {steps : List Step} (d : Conn) → d.phase ≡ Over ByClient → d.over ≡ true
    → IsFound d.client.peer (take 16384 d.input.items) found.Part
    → Opened steps d.client d.current (trail_of d) d.input.items (pending_of d) d.notes.items d.over Head → Reached steps d
reached_client {steps} d is over part o =
    reached_over d ByClient is o
    (ended_ends (o.holds.closes over), o.stage.none, o.stage.last_is, o.kept, inl (subst IsHeadPart (whole ∙ sym o.stage.rest_is) (record { unfinished = part.unfinished; continues = part.continues; room = part.room })))
  where
    whole : take 16384 d.input.items ≡ d.input.items
    whole = short_take d.input.items part.room

front_take : (n : ℕ) (input : List ℕ) → n ≤ length (take 16384 input) → take n (take 16384 input) ≡ take n input
front_take n input le = sym (take-append-le n (take 16384 input) (drop 16384 input) le) ∙ ap (λ (l : List ℕ). take n l) (take-append-drop 16384 input)

front_le : (n : ℕ) (input : List ℕ) → n ≤ length (take 16384 input) → n ≤ length input
front_le n input le = let e : length (take 16384 input) ≡ min 16384 (length input) = length-take 16384 input in omega arith

pub found_at : (peer : Ip) (buf slice input : List ℕ) (f g : Found) → buf ≡ take 16384 slice → slice ≡ input → f ≡ g → IsFound peer buf f → IsFound peer (take 16384 input) g
found_at peer buf slice input f g a b e h =
    subst (λ (x : Found). IsFound peer (take 16384 input) x) e (subst (λ (l : List ℕ). IsFound peer l f) (a ∙ ap (λ (l : List ℕ). take 16384 l) b) h)

-- a request is whole or refused
pub opened_found : {steps : List Step} {k : Client} {m : Current} {trail : Trail} {input pending : List ℕ} {waiting : List Note} {over : Bool} (asked : Asked) (n : ℕ) {m' : Current}
    → m'.asked ≡ asked → m'.size ≡ n → m'.pinned ≡ m.pinned → m'.number ≡ m.number → m'.index ≡ m.index
    → IsFound k.peer (take 16384 input) (found.Head asked n)
    → Opened steps k m trail input pending waiting over Head
    → Opened steps k m' trail input pending waiting over Pin
opened_found {k} {m} {trail} {input} asked n {m'} asked_is size pinned number index f o = record {
  done = o.done;
  last = o.last;
  rest = o.rest;
  holds = holds_as refl refl refl refl refl (ap (λ (b : Bool). closed_by b k.link o.last) pinned) refl refl number index o.holds;
  sound = o.sound;
  tied = subst (λ (b : Bool). TiedBy b m' trail o.last) (sym (pinned ∙ o.stage.unpinned)) tt;
  kept = o.kept;
  unfailed = o.unfailed;
  stage = record {
    last_is = o.stage.last_is;
    unpinned = pinned ∙ o.stage.unpinned;
    rest_is = o.stage.rest_is;
    none = o.stage.none;
    fits = subst (λ (l : ℕ). l ≤ length input) (sym size) (front_le n input f.0);
    ask = f.1;
    item = subst (λ (l : List ℕ). IsItem k.peer l f.1) (sym (ap (λ (l : ℕ). take l input) size ∙ sym (front_take n input f.0))) f.2;
    asked = subst (λ (a : Asked). Fits a f.1) (sym asked_is) f.3;
  };
}

-- a call found no memory
pub reached_given_up : {steps : List Step} {c : Conn} → ending_note c.client.link c.phase ≡ [] → Reached steps c → Reached steps (record c { phase = Over Memory })
reached_given_up {steps} {c} none r = record {
  done = r.done;
  last = r.last;
  rest = r.rest;
  left = r.left;
  kept = record { next = r.kept.next; holds = holds_as refl refl refl refl refl refl (sym none) refl refl refl (holds_forgot r.kept.holds); sound = r.kept.sound; tied = r.kept.tied };
  phase = tt;
}

-- room was made
pub reached_reserved : {steps : List Step} {c : Conn} (input : Vec ℕ Global) (looks : Vec Look Global) (picks : Vec NodePick Global) (backs : Vec ℕ Global) (notes : Vec Note Global)
    → input.items ≡ c.input.items → looks.items ≡ c.looks.items → picks.items ≡ c.picks.items → backs.items ≡ c.backs.items → notes.items ≡ c.notes.items
    → Reached steps c → Reached steps (record c { input = input; looks = looks; picks = picks; backs = backs; notes = notes })
reached_reserved {steps} {c} input looks picks backs notes i l p b n r = record {
  done = r.done;
  last = r.last;
  rest = r.rest;
  left = r.left;
  kept = record {
    next = r.kept.next;
    holds = holds_as refl refl refl refl n refl refl refl refl refl r.kept.holds;
    sound = r.kept.sound;
    tied = subst (λ (t : Trail). TiedBy c.current.pinned c.current t r.last) (trail c.looks.items looks.items c.picks.items picks.items c.backs.items backs.items (sym l) (sym p) (sym b)) r.kept.tied;
  };
  phase = by c.phase r.phase;
}
  where
    trail : (a a' : List Look) (x x' : List NodePick) (y y' : List ℕ) → a ≡ a' → x ≡ x' → y ≡ y'
        → (let t : Trail = record { looks = a; picks = x; backs = y } in t) ≡ record { looks = a'; picks = x'; backs = y' }
    trail a a' x x' y y' e f g = cc

    by : (q : Phase) → PhaseHolds q steps c r.done r.last r.rest r.left r.kept.next
        → PhaseHolds q steps (record c { input = input; looks = looks; picks = picks; backs = backs; notes = notes }) r.done r.last r.rest r.left r.kept.next
    by Open h = (h.0, h.1, h.2, subst (λ (x : List ℕ). AtStage c.stage c.client c.current x (pending_of c) r.done r.last r.rest) (sym i) h.3, h.4)
    by Broken h = tt
    by (Over cause) h = h
    by (Told cause) h = h

-- room was given back
pub reached_rested : {steps : List Step} {c : Conn} (input out : Vec ℕ Global) (looks : Vec Look Global) (picks : Vec NodePick Global) (backs : Vec ℕ Global) (notes : Vec Note Global)
    → input.items ≡ c.input.items → out.items ≡ c.out.items → looks.items ≡ c.looks.items → picks.items ≡ c.picks.items → backs.items ≡ c.backs.items → notes.items ≡ c.notes.items
    → Reached steps c → Reached steps (record c { input = input; out = out; looks = looks; picks = picks; backs = backs; notes = notes })
reached_rested {steps} {c} input out looks picks backs notes i o l p b n r =
    let d : Conn = record c { input = input; looks = looks; picks = picks; backs = backs; notes = notes } in
    sent_on d out o (reached_reserved {c = c} input looks picks backs notes i l p b n r)
  where
    sent_on : (d : Conn) (out : Vec ℕ Global) → out.items ≡ d.out.items → Reached steps d → Reached steps (record d { out = out })
    sent_on d out o r = record {
      done = r.done;
      last = r.last;
      rest = r.rest;
      left = r.left;
      kept = record { next = r.kept.next; holds = r.kept.holds; sound = r.kept.sound; tied = r.kept.tied };
      phase = by d.phase r.phase;
    }
      where
        same : drop d.sent out.items ≡ drop d.sent d.out.items
        same = ap (λ (l : List ℕ). drop d.sent l) o

        by : (q : Phase) → PhaseHolds q steps d r.done r.last r.rest r.left r.kept.next → PhaseHolds q steps (record d { out = out }) r.done r.last r.rest r.left r.kept.next
        by Open h = (h.0, h.1 ∙ sym same, h.2, subst (λ (x : List ℕ). AtStage d.stage d.client d.current d.input.items x r.done r.last r.rest) (sym same) h.3, h.4)
        by Broken h = tt
        by (Over cause) h = h
        by (Told cause) h = h
