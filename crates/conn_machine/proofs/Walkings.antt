-- What a look, a pick and a refused draw leave of a pinned request.
use Rattle.std.proofs.Common.{◌≡◌, ℕ, List, [], ◌∷◌, ◌++◌, map, Some, refl, sym, ◌∙◌, ap, subst, arith, Bool, true, false, not, ◌==◌}
use Rattle.std.specs.List.{flat_map}
use Rattle.std.specs.Prelude.{is_some, ◌%◌}
use Rattle.std.proofs.lemmas.List.{append-nil, append_assoc}
use Rattle.std.proofs.lemmas.Bool.Decides.{nat_tests}
use Rattle.ip_net.specs.declared.ip.Ip.{Ip}
use Rattle.link_world.specs.declared.note.Note.{Note}
use Rattle.link_world.specs.declared.note.Look.{Look as LookNote}
use Rattle.link_world.specs.declared.note.NodePick.{NodePick}
use Rattle.link_world.specs.declared.note.Cause.{Cause}
use Rattle.link_world.specs.declared.note.Cause.TheVariants.{NoChild, Spent as SpentCause}
use Rattle.conversation.specs.Plans.{Plan}
use Rattle.conversation.specs.Steps.{Step, Choice, of_plan, of_look, of_pick, of_refused, looked, drew, spent}
use Rattle.conversation.proofs.Holdings.{ended_last}
use Rattle.conversation.specs.Turns.{Stage as TurnStage, routed, down, up, refused, picked, Turn, closes, is_up, node_of, IsAt, IsUndecided, IsOwnText, AnswersBy, AnswersOwn}
use Rattle.conversation.specs.Served.{of_all, looks_of, picks_of, spents_of, chosen_by, choices_of}
use Rattle.conversation.specs.Holding.{Told, Holds, Sound}
use Rattle.conversation.proofs.Tellings.{told_looked, told_drew, told_spent, failures_quiet, sound_looked, sound_drew, sound_spent}
use Rattle.conn_machine.specs.Parts.{Trail, IsAim, IsOpenAt, IsAimedAt, end_by}
use Rattle.conn_machine.specs.Reached.{Opened}
use Rattle.conn_machine.specs.declared.parts.Aim.{Aim}
use Rattle.conn_machine.specs.declared.parts.Client.{Client}
use Rattle.conn_machine.specs.declared.parts.Current.{Current}
use Rattle.conn_machine.specs.declared.parts.Stage.TheVariants.{Look, Down, Walk, Spent, Dial, Reply}
use Rattle.conn_machine.proofs.Opens.{holds_as}
use Rattle.conn_machine.proofs.Turnings.{Turning, IsAlike, turning, at_turn, opened_turn, opened_replied, own_text_of, own_some, replied}

abbrev looks_chosen : List LookNote → List Choice
looks_chosen = map (λ (l : LookNote). of_look l)

abbrev picks_chosen : List NodePick → List Choice
picks_chosen = map (λ (k : NodePick). of_pick k)

-- what is chosen for a request is the last of its choices
look_last : (p : Plan) (l : LookNote) (ls : List LookNote) (ks : List NodePick) (ns : List ℕ) → ls ≡ [] → ks ≡ [] → ns ≡ [] → chosen_by p ls ks ns ++ of_look l ∷ [] ≡ chosen_by p (l ∷ []) ks ns
look_last p l ls ks ns a b c = rw (a, b, c) refl

pick_last : (p : Plan) (k : NodePick) (ls : List LookNote) (ks : List NodePick) (ns : List ℕ) → ks ≡ [] → ns ≡ [] → chosen_by p ls ks ns ++ of_pick k ∷ [] ≡ chosen_by p ls (k ∷ []) ns
pick_last p k ls ks ns b c =
    rw (b, c) (ap (λ (x : List Choice). of_plan p ∷ x)
    (ap (λ (x : List Choice). x ++ of_pick k ∷ []) (append-nil (looks_chosen ls ++ []) ∙ append-nil (looks_chosen ls)) ∙ sym (append-nil (looks_chosen ls ++ of_pick k ∷ []))))

refused_last : (p : Plan) (n : ℕ) (ls : List LookNote) (ks : List NodePick) (ns : List ℕ) → ns ≡ [] → chosen_by p ls ks ns ++ of_refused n ∷ [] ≡ chosen_by p ls ks (n ∷ [])
refused_last p n ls ks ns c =
    rw c (ap (λ (x : List Choice). of_plan p ∷ (x ++ of_refused n ∷ [])) (append-nil (looks_chosen ls ++ picks_chosen ks)))

chooses : (done : List Turn) (u v : Turn) (one : Choice) → choices_of u ++ one ∷ [] ≡ choices_of v → (all : List Choice) → all ≡ of_all choices_of done (Some u) → all ++ one ∷ [] ≡ of_all choices_of done (Some v)
chooses done u v one is all whole =
    ap (λ (x : List Choice). x ++ one ∷ []) whole ∙ append_assoc (flat_map choices_of done) (choices_of u) (one ∷ []) ∙ ap (λ (x : List Choice). flat_map choices_of done ++ x) is

holds_looked : {t : Told} {link : ℕ} {entry : List ℕ} {peer : Ip} {done : List Turn} {u : Turn} {rest left : List ℕ} {waiting closed ending : List Note} {over : Bool} {number next : ℕ} (l : LookNote)
    → u.looks ≡ [] → u.picks ≡ [] → u.spents ≡ [] → Holds t link entry peer done (Some u) rest left waiting closed ending over number next
    → Holds (record t { looks = t.looks ++ l ∷ []; choices = t.choices ++ of_look l ∷ [] }) link entry peer done (Some (record u { looks = l ∷ [] })) rest left waiting closed ending over number next
holds_looked {t} {done} {u} l none no_picks no_spents r = record {
  arrived = r.arrived;
  reads = r.reads;
  spells = r.spells;
  covers = r.covers;
  noted = r.noted;
  pinned = r.pinned;
  looked = ap (λ (x : List LookNote). x ++ l ∷ []) (r.looked ∙ ap (λ (x : List LookNote). flat_map looks_of done ++ x) none ∙ append-nil (flat_map looks_of done));
  picked = r.picked;
  refused = r.refused;
  chosen = chooses done u (record u { looks = l ∷ [] }) (of_look l) (look_last u.plan l u.looks u.picks u.spents none no_picks no_spents) t.choices r.chosen;
  own = r.own;
  links = r.links;
  rising = r.rising;
  numbered = r.numbered;
  numbered_last = r.numbered_last;
  whole = r.whole;
  closes = λ c. ended_last (r.closes c) (r.closes c).untaken;
}

holds_drew : {t : Told} {link : ℕ} {entry : List ℕ} {peer : Ip} {done : List Turn} {u : Turn} {rest left : List ℕ} {waiting closed ending : List Note} {over : Bool} {number next : ℕ} (p : NodePick)
    → u.picks ≡ [] → u.spents ≡ [] → Holds t link entry peer done (Some u) rest left waiting closed ending over number next
    → Holds (record t { picks = t.picks ++ p ∷ []; choices = t.choices ++ of_pick p ∷ [] }) link entry peer done (Some (record u { picks = p ∷ [] })) rest left waiting closed ending over number next
holds_drew {t} {done} {u} p none no_spents r = record {
  arrived = r.arrived;
  reads = r.reads;
  spells = r.spells;
  covers = r.covers;
  noted = r.noted;
  pinned = r.pinned;
  looked = r.looked;
  picked = ap (λ (x : List NodePick). x ++ p ∷ []) (r.picked ∙ ap (λ (x : List NodePick). flat_map picks_of done ++ x) none ∙ append-nil (flat_map picks_of done));
  refused = r.refused;
  chosen = chooses done u (record u { picks = p ∷ [] }) (of_pick p) (pick_last u.plan p u.looks u.picks u.spents none no_spents) t.choices r.chosen;
  own = r.own;
  links = r.links;
  rising = r.rising;
  numbered = r.numbered;
  numbered_last = r.numbered_last;
  whole = r.whole;
  closes = λ c. ended_last (r.closes c) (r.closes c).untaken;
}

holds_spent : {t : Told} {link : ℕ} {entry : List ℕ} {peer : Ip} {done : List Turn} {u : Turn} {rest left : List ℕ} {waiting closed ending : List Note} {over : Bool} {number next : ℕ} (n : ℕ)
    → u.spents ≡ [] → Holds t link entry peer done (Some u) rest left waiting closed ending over number next
    → Holds (record t { spents = t.spents ++ n ∷ []; choices = t.choices ++ of_refused n ∷ [] }) link entry peer done (Some (record u { spents = n ∷ [] })) rest left waiting closed ending over number next
holds_spent {t} {done} {u} n none r = record {
  arrived = r.arrived;
  reads = r.reads;
  spells = r.spells;
  covers = r.covers;
  noted = r.noted;
  pinned = r.pinned;
  looked = r.looked;
  picked = r.picked;
  refused = ap (λ (x : List ℕ). x ++ n ∷ []) (r.refused ∙ ap (λ (x : List ℕ). flat_map spents_of done ++ x) none ∙ append-nil (flat_map spents_of done));
  chosen = chooses done u (record u { spents = n ∷ [] }) (of_refused n) (refused_last u.plan n u.looks u.picks u.spents none) t.choices r.chosen;
  own = r.own;
  links = r.links;
  rising = r.rising;
  numbered = r.numbered;
  numbered_last = r.numbered_last;
  whole = r.whole;
  closes = λ c. ended_last (r.closes c) (r.closes c).untaken;
}

-- the node that the machine wants is the target's
wanted : (m : Current) (t : Turn) (aim : Aim) (row node : ℕ) → ((a : Aim) → m.aim ≡ Some a → node ≡ a.node) → m.aim ≡ Some aim → ((r : ℕ) → t.router ≡ Some r → IsAim aim (t.plan.target r)) → t.router ≡ Some row → node ≡ node_of t row
wanted m t aim row node wants is aims router = wants aim is ∙ (let a : IsAim aim (t.plan.target row) = aims row router in a.node)

abbrev looked_stage : Bool → TurnStage
looked_stage true = up
looked_stage false = down

looked_at : (b : Bool) (entry : List ℕ) (peer : Ip) (u : Turn) (l : LookNote) (x : IsAt routed entry peer u) → l.node ≡ node_of u x.1 → is_up l ≡ b
    → IsAt (looked_stage b) entry peer (record u { looks = l ∷ [] })
looked_at true entry peer u l x node is =
    (x.0, x.1, record { asked = x.2.asked; won = x.2.won; router = x.2.router }, (l, refl, node, is), x.4, x.5, x.6)
looked_at false entry peer u l x node is =
    (x.0, x.1, record { asked = x.2.asked; won = x.2.won; router = x.2.router }, (l, refl, node, is), x.4, x.5, x.6)

looked_turn : {steps : List Step} {k : Client} {m : Current} {trail : Trail} {input pending : List ℕ} {waiting : List Note} {over : Bool} (b : Bool) (l : LookNote) {trail' : Trail}
    → trail'.looks ≡ trail.looks ++ l ∷ [] → trail'.picks ≡ trail.picks → trail'.backs ≡ trail.backs
    → ((a : Aim) → m.aim ≡ Some a → l.node ≡ a.node) → is_up l ≡ b
    → Turning steps k m trail input pending waiting over (IsAimedAt k.entry k.peer m pending routed)
    → Turning (steps ++ looked l ∷ []) k m trail' input pending waiting over (IsAimedAt k.entry k.peer m pending (looked_stage b))
looked_turn {steps} {k} {m} {trail} {pending} b l {trail'} in_looks in_picks in_backs wants is t =
    let u : Turn = t.turn in
    let x : IsAt routed k.entry k.peer u = t.has.open_at.undecided.stage in
    let v : Turn = record u { looks = l ∷ [] } in
    let undecided : IsUndecided (looked_stage b) k.entry k.peer v = record {
      cause = t.has.open_at.undecided.cause;
      stage = looked_at b k.entry k.peer u l x (wanted m u t.has.aim x.1 l.node wants t.has.aim_is t.has.aims x.2.router) is;
      status = t.has.open_at.undecided.status;
      reply = t.has.open_at.undecided.reply;
      unfinished = t.has.open_at.undecided.unfinished;
    } in
    let s : Sound (steps ++ looked l ∷ []) k.entry k.peer t.done (Some u) = sound_looked steps l k.entry k.peer t.done (Some u) t.sound in
    record {
      done = t.done;
      turn = v;
      rest = t.rest;
      holds = holds_as (told_looked k.link steps l) refl refl refl refl refl refl refl refl refl (holds_looked l x.3 x.4 x.5 t.holds);
      sound = record { all = s.all; one = record { item = s.one.item; answers = subst (λ (c : Cause). AnswersBy c k.entry k.peer v) (sym undecided.cause) (looked_stage b, undecided); shown = s.one.shown } };
      tied = record {
        index = t.tied.index;
        number = t.tied.number;
        router = t.tied.router;
        status = t.tied.status;
        cause = t.tied.cause;
        looks = sym (in_looks ∙ ap (λ (y : List LookNote). y ++ l ∷ []) (sym t.tied.looks ∙ x.3));
        picks = t.tied.picks ∙ sym in_picks;
        backs = t.tied.backs ∙ sym in_backs;
      };
      kept = t.kept;
      unfailed = failures_quiet k.link steps (looked l) refl ∙ t.unfailed;
      pinned = t.pinned;
      rest_is = t.rest_is;
      fits = t.fits;
      asked = t.asked;
      has = record { open_at = record { undecided = undecided; plan = t.has.open_at.plan; none = t.has.open_at.none }; aim = t.has.aim; aim_is = t.has.aim_is; aims = t.has.aims };
    }

even_down : (n : ℕ) → n ≡ 0 → not (n == 0) ≡ false
even_down n is = ap (λ (x : ℕ). not (x == 0)) is

odd_up : (n : ℕ) → (n ≡ 0 → ⊥) → not (n == 0) ≡ true
odd_up n some = let e : (n == 0) ≡ false = grind (arith, nat_tests) in ap not e

pub opened_down : {steps : List Step} {k : Client} {m : Current} {trail : Trail} {input pending : List ℕ} {waiting : List Note} {over : Bool} (l : LookNote) {trail' : Trail}
    → trail'.looks ≡ trail.looks ++ l ∷ [] → trail'.picks ≡ trail.picks → trail'.backs ≡ trail.backs
    → ((a : Aim) → m.aim ≡ Some a → l.node ≡ a.node) → l.mask % 2 ≡ 0
    → Opened steps k m trail input pending waiting over Look
    → Opened (steps ++ looked l ∷ []) k m trail' input pending waiting over Down
opened_down {steps} {k} {m} {trail} {input} {pending} {waiting} {over} l {trail'} a b c wants is o =
    let w : Turning (steps ++ looked l ∷ []) k m trail' input pending waiting over (IsAimedAt k.entry k.peer m pending down) =
    looked_turn false l a b c wants (even_down (l.mask % 2) is) (turning o o.stage) in
    opened_turn Down w (at_turn w)

pub opened_up : {steps : List Step} {k : Client} {m : Current} {trail : Trail} {input pending : List ℕ} {waiting : List Note} {over : Bool} (l : LookNote) {trail' : Trail}
    → trail'.looks ≡ trail.looks ++ l ∷ [] → trail'.picks ≡ trail.picks → trail'.backs ≡ trail.backs
    → ((a : Aim) → m.aim ≡ Some a → l.node ≡ a.node) → (l.mask % 2 ≡ 0 → ⊥)
    → Opened steps k m trail input pending waiting over Look
    → Opened (steps ++ looked l ∷ []) k m trail' input pending waiting over Walk
opened_up {steps} {k} {m} {trail} {input} {pending} {waiting} {over} l {trail'} a b c wants is o =
    let w : Turning (steps ++ looked l ∷ []) k m trail' input pending waiting over (IsAimedAt k.entry k.peer m pending up) =
    looked_turn true l a b c wants (odd_up (l.mask % 2) is) (turning o o.stage) in
    opened_turn Walk w (at_turn w)

pub opened_drew : {steps : List Step} {k : Client} {m : Current} {trail : Trail} {input pending : List ℕ} {waiting : List Note} {over : Bool} (p : NodePick) {trail' : Trail}
    → trail'.looks ≡ trail.looks → trail'.picks ≡ trail.picks ++ p ∷ [] → trail'.backs ≡ trail.backs
    → ((a : Aim) → m.aim ≡ Some a → p.node ≡ a.node) → p.pick.child ≡ 0
    → Opened steps k m trail input pending waiting over Walk
    → Opened (steps ++ drew p ∷ []) k m trail' input pending waiting over Dial
opened_drew {steps} {k} {m} {trail} {input} {pending} {waiting} {over} p {trail'} in_looks in_picks in_backs wants child o =
    let t : Turning steps k m trail input pending waiting over (IsAimedAt k.entry k.peer m pending up) = turning o o.stage in
    let u : Turn = t.turn in
    let x : IsAt up k.entry k.peer u = t.has.open_at.undecided.stage in
    let v : Turn = record u { picks = p ∷ [] } in
    let node : p.node ≡ node_of u x.1 = wanted m u t.has.aim x.1 p.node wants t.has.aim_is t.has.aims x.2.router in
    let undecided : IsUndecided picked k.entry k.peer v = record {
      cause = t.has.open_at.undecided.cause;
      stage = (x.0, x.1, record { asked = x.2.asked; won = x.2.won; router = x.2.router }, x.3, (p, refl, node, child), x.5, x.6);
      status = t.has.open_at.undecided.status;
      reply = t.has.open_at.undecided.reply;
      unfinished = t.has.open_at.undecided.unfinished;
    } in
    let s : Sound (steps ++ drew p ∷ []) k.entry k.peer t.done (Some u) = sound_drew steps p k.entry k.peer t.done (Some u) t.sound in
    let w : Turning (steps ++ drew p ∷ []) k m trail' input pending waiting over (IsAimedAt k.entry k.peer m pending picked) = record {
      done = t.done;
      turn = v;
      rest = t.rest;
      holds = holds_as (told_drew k.link steps p) refl refl refl refl refl refl refl refl refl (holds_drew p x.4 x.5 t.holds);
      sound = record { all = s.all; one = record { item = s.one.item; answers = subst (λ (c : Cause). AnswersBy c k.entry k.peer v) (sym undecided.cause) (picked, undecided); shown = s.one.shown } };
      tied = record {
        index = t.tied.index;
        number = t.tied.number;
        router = t.tied.router;
        status = t.tied.status;
        cause = t.tied.cause;
        looks = t.tied.looks ∙ sym in_looks;
        picks = sym (in_picks ∙ ap (λ (y : List NodePick). y ++ p ∷ []) (sym t.tied.picks ∙ x.4));
        backs = t.tied.backs ∙ sym in_backs;
      };
      kept = t.kept;
      unfailed = failures_quiet k.link steps (drew p) refl ∙ t.unfailed;
      pinned = t.pinned;
      rest_is = t.rest_is;
      fits = t.fits;
      asked = t.asked;
      has = record { open_at = record { undecided = undecided; plan = t.has.open_at.plan; none = t.has.open_at.none }; aim = t.has.aim; aim_is = t.has.aim_is; aims = t.has.aims };
    } in
    opened_turn Dial w (at_turn w)

pub opened_spent : {steps : List Step} {k : Client} {m : Current} {trail : Trail} {input pending : List ℕ} {waiting : List Note} {over : Bool} (n : ℕ)
    → ((a : Aim) → m.aim ≡ Some a → n ≡ a.node)
    → Opened steps k m trail input pending waiting over Walk
    → Opened (steps ++ spent n ∷ []) k m trail input pending waiting over Spent
opened_spent {steps} {k} {m} {trail} {input} {pending} {waiting} {over} n wants o =
    let t : Turning steps k m trail input pending waiting over (IsAimedAt k.entry k.peer m pending up) = turning o o.stage in
    let u : Turn = t.turn in
    let x : IsAt up k.entry k.peer u = t.has.open_at.undecided.stage in
    let v : Turn = record u { spents = n ∷ [] } in
    let node : n ≡ node_of u x.1 = wanted m u t.has.aim x.1 n wants t.has.aim_is t.has.aims x.2.router in
    let undecided : IsUndecided refused k.entry k.peer v = record {
      cause = t.has.open_at.undecided.cause;
      stage = (x.0, x.1, record { asked = x.2.asked; won = x.2.won; router = x.2.router }, x.3, x.4, ap (λ (y : ℕ). y ∷ []) node, x.6);
      status = t.has.open_at.undecided.status;
      reply = t.has.open_at.undecided.reply;
      unfinished = t.has.open_at.undecided.unfinished;
    } in
    let s : Sound (steps ++ spent n ∷ []) k.entry k.peer t.done (Some u) = sound_spent steps n k.entry k.peer t.done (Some u) t.sound in
    let w : Turning (steps ++ spent n ∷ []) k m trail input pending waiting over (IsAimedAt k.entry k.peer m pending refused) = record {
      done = t.done;
      turn = v;
      rest = t.rest;
      holds = holds_as (told_spent k.link steps n) refl refl refl refl refl refl refl refl refl (holds_spent n x.5 t.holds);
      sound = record { all = s.all; one = record { item = s.one.item; answers = subst (λ (c : Cause). AnswersBy c k.entry k.peer v) (sym undecided.cause) (refused, undecided); shown = s.one.shown } };
      tied = record {
        index = t.tied.index;
        number = t.tied.number;
        router = t.tied.router;
        status = t.tied.status;
        cause = t.tied.cause;
        looks = t.tied.looks;
        picks = t.tied.picks;
        backs = t.tied.backs;
      };
      kept = t.kept;
      unfailed = failures_quiet k.link steps (spent n) refl ∙ t.unfailed;
      pinned = t.pinned;
      rest_is = t.rest_is;
      fits = t.fits;
      asked = t.asked;
      has = record { open_at = record { undecided = undecided; plan = t.has.open_at.plan; none = t.has.open_at.none }; aim = t.has.aim; aim_is = t.has.aim_is; aims = t.has.aims };
    } in
    opened_turn Spent w (at_turn w)

abbrev open_of : {steps : List Step} {k : Client} {m : Current} {trail : Trail} {input pending : List ℕ} {waiting : List Note} {over : Bool} {at : TurnStage}
    → Turning steps k m trail input pending waiting over (IsAimedAt k.entry k.peer m pending at)
    → Turning steps k m trail input pending waiting over (IsOpenAt k.entry k.peer m pending at)
open_of t = record {
  done = t.done;
  turn = t.turn;
  rest = t.rest;
  holds = t.holds;
  sound = t.sound;
  tied = t.tied;
  kept = t.kept;
  unfailed = t.unfailed;
  pinned = t.pinned;
  rest_is = t.rest_is;
  fits = t.fits;
  asked = t.asked;
  has = t.has.open_at;
}

own_503 : (t : Turn) (cause : Cause) (text : List ℕ) → IsOwnText 503 (closes t) text → AnswersOwn 503 (replied t 503 cause text)
own_503 t cause text own = record { status_is = refl; text = own; whole = refl }

-- the server is down
pub opened_no_child : {steps : List Step} {k : Client} {m : Current} {trail : Trail} {input pending : List ℕ} {waiting : List Note} {over : Bool} (close : Bool) (text : List ℕ) {m' : Current} {pending' : List ℕ}
    → IsAlike m m' → m'.router ≡ m.router → m'.status ≡ 503 → m'.cause ≡ NoChild → pending' ≡ text
    → close ≡ is_some (end_by m.index m.asked) → IsOwnText 503 close text
    → Opened steps k m trail input pending waiting over Down
    → Opened steps k m' trail input pending' waiting over Reply
opened_no_child {steps} {k} {m} {trail} {input} {pending} {waiting} {over} close text alike router status cause in_pending close_is own o =
    let t : Turning steps k m trail input pending waiting over (IsAimedAt k.entry k.peer m pending down) = turning o o.stage in
    let x : IsAt down k.entry k.peer t.turn = t.has.open_at.undecided.stage in
    opened_replied 503 NoChild text alike router status cause in_pending (own_some 503 close text own) (open_of t)
    ((x.0, x.1, record { asked = x.2.asked; won = x.2.won; router = x.2.router }, x.3, x.4, x.5, x.6), own_503 t.turn NoChild text (own_text_of m trail t.turn 503 close text t.tied t.asked close_is own))

-- the draw was refused
pub opened_refusal : {steps : List Step} {k : Client} {m : Current} {trail : Trail} {input pending : List ℕ} {waiting : List Note} {over : Bool} (node : ℕ) (close : Bool) (text : List ℕ) {m' : Current} {pending' : List ℕ}
    → IsAlike m m' → m'.router ≡ m.router → m'.status ≡ 503 → m'.cause ≡ SpentCause node → pending' ≡ text
    → ((a : Aim) → m.aim ≡ Some a → node ≡ a.node)
    → close ≡ is_some (end_by m.index m.asked) → IsOwnText 503 close text
    → Opened steps k m trail input pending waiting over Spent
    → Opened steps k m' trail input pending' waiting over Reply
opened_refusal {steps} {k} {m} {trail} {input} {pending} {waiting} {over} node close text alike router status cause in_pending wants close_is own o =
    let t : Turning steps k m trail input pending waiting over (IsAimedAt k.entry k.peer m pending refused) = turning o o.stage in
    let x : IsAt refused k.entry k.peer t.turn = t.has.open_at.undecided.stage in
    let e : node ≡ node_of t.turn x.1 = wanted m t.turn t.has.aim x.1 node wants t.has.aim_is t.has.aims x.2.router in
    opened_replied 503 (SpentCause node) text alike router status cause in_pending (own_some 503 close text own) (open_of t)
    ((x.0, x.1, record { asked = x.2.asked; won = x.2.won; router = x.2.router }, x.3, x.4, x.5 ∙ ap (λ (y : ℕ). y ∷ []) (sym e), e, x.6), own_503 t.turn (SpentCause node) text (own_text_of m trail t.turn 503 close text t.tied t.asked close_is own))
