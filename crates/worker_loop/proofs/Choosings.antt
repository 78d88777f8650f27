-- What the notes of a connection say of its looks, its picks and its refused draws, and under which number.
use Rattle.std.proofs.Common.{◌≡◌, ℕ, List, [], ◌∷◌, ◌++◌, map, Option, Some, None, refl, sym, ◌∙◌, ap, true, false, Bool}
use Rattle.std.specs.Prelude.{◌==◌}
use Rattle.std.specs.List.{flat_map, AllByRecursion}
use Rattle.std.proofs.lemmas.List.{append-nil, append_assoc}
use Rattle.std.proofs.lemmas.List.Concat.{flat_map-append}
use Rattle.link_world.specs.declared.note.Note.{Note}
use Rattle.link_world.specs.declared.note.Look.{Look}
use Rattle.link_world.specs.declared.note.NodePick.{NodePick}
use Rattle.link_world.specs.Log.{only_if, notes}
use Rattle.conversation.specs.Plans.{Plan}
use Rattle.conversation.specs.Steps.{Step, Choice, of_plan, of_look, of_pick, of_refused, happened, failed, pinned, looked, drew, spent, ticked, stopped, history, choices}
use Rattle.conversation.specs.Turns.{Turn}
use Rattle.conversation.specs.Served.{of_all, of_last, notes_of, choices_of}
use Rattle.conn_machine.specs.Parts.{Trail, TiedBy}
use Rattle.conn_machine.specs.Reached.{Reached, ending_note, closed_by, trail_of}
use Rattle.conn_machine.specs.declared.parts.Current.{Current}
use Rattle.conn_machine.specs.declared.parts.Phase.{Phase}
use Rattle.conn_machine.specs.declared.parts.Phase.TheVariants.{Open, Broken, Over, Told}
use Rattle.conn_machine.specs.declared.conn.Conn.{Conn}
use Rattle.conn_service.specs.Choices.{looks_under, picks_under, spents_under}
use Rattle.worker_loop.specs.Chosen.{looks_in, picks_in, list_if, open_looks, open_picks}

-- a kind of choices: which of them are of the kind, and which a request has
pub record Kind (A : Type 0) : Type 0 where
  pub part : Choice → List A
  pub own : Turn → List A
  pub unpinned : (p : Plan) → part (of_plan p) ≡ []
  pub all : (t : Turn) → flat_map part (choices_of t) ≡ own t

-- the number after a choice
abbrev number_after : ℕ → Choice → ℕ
number_after n (of_plan p) = p.number
number_after n (of_look l) = n
number_after n (of_pick k) = n
number_after n (of_refused m) = n

abbrev last_after : ℕ → List Choice → ℕ
last_after n [] = n
last_after n (c ∷ cs) = last_after (number_after n c) cs

-- those of these choices that were made under number n
abbrev under : {A : Type 0} → (Choice → List A) → ℕ → ℕ → List Choice → List A
under f n number [] = []
under f n number (c ∷ cs) = only_if (n == number) (f c) ++ under f n (number_after number c) cs

only_none : {A : Type 0} (b : Bool) → only_if {A = A} b [] ≡ []
only_none true = refl
only_none false = refl

only_both : {A : Type 0} (b : Bool) (xs ys : List A) → only_if b (xs ++ ys) ≡ only_if b xs ++ only_if b ys
only_both true xs ys = refl
only_both false xs ys = refl

under-append : {A : Type 0} (f : Choice → List A) (n m : ℕ) (a b : List Choice) → under f n m (a ++ b) ≡ under f n m a ++ under f n (last_after m a) b
under-append f n m [] b = refl
under-append f n m (c ∷ a) b =
    ap (λ xs. only_if (n == m) (f c) ++ xs) (under-append f n (number_after m c) a b)
    ∙ sym (append_assoc (only_if (n == m) (f c)) (under f n (number_after m c) a) (under f n (last_after (number_after m c) a) b))

-- no configuration is among them
abbrev IsPlain : Choice → Type 0
IsPlain (of_plan p) = ⊥
IsPlain (of_look l) = Unit {0}
IsPlain (of_pick k) = Unit {0}
IsPlain (of_refused m) = Unit {0}

under_plain : {A : Type 0} (f : Choice → List A) (n m : ℕ) (cs : List Choice) → AllByRecursion IsPlain cs → under f n m cs ≡ only_if (n == m) (flat_map f cs)
under_plain f n m [] h = sym (only_none (n == m))
under_plain f n m (of_plan p ∷ cs) h = absurd h.0
under_plain f n m (of_look l ∷ cs) h = ap (λ xs. only_if (n == m) (f (of_look l)) ++ xs) (under_plain f n m cs h.1) ∙ sym (only_both (n == m) (f (of_look l)) (flat_map f cs))
under_plain f n m (of_pick k ∷ cs) h = ap (λ xs. only_if (n == m) (f (of_pick k)) ++ xs) (under_plain f n m cs h.1) ∙ sym (only_both (n == m) (f (of_pick k)) (flat_map f cs))
under_plain f n m (of_refused k ∷ cs) h = ap (λ xs. only_if (n == m) (f (of_refused k)) ++ xs) (under_plain f n m cs h.1) ∙ sym (only_both (n == m) (f (of_refused k)) (flat_map f cs))

last_plain : (m : ℕ) (cs : List Choice) → AllByRecursion IsPlain cs → last_after m cs ≡ m
last_plain m [] h = refl
last_plain m (of_plan p ∷ cs) h = absurd h.0
last_plain m (of_look l ∷ cs) h = last_plain m cs h.1
last_plain m (of_pick k ∷ cs) h = last_plain m cs h.1
last_plain m (of_refused k ∷ cs) h = last_plain m cs h.1

-- the choices of a request but for its configuration
abbrev looks_chosen : List Look → List Choice
looks_chosen = map (λ (l : Look). of_look l)

abbrev picks_chosen : List NodePick → List Choice
picks_chosen = map (λ (k : NodePick). of_pick k)

abbrev refused_chosen : List ℕ → List Choice
refused_chosen = map (λ (n : ℕ). of_refused n)

abbrev after_plan : Turn → List Choice
after_plan t = looks_chosen t.looks ++ picks_chosen t.picks ++ refused_chosen t.spents

all_both : (xs ys : List Choice) → AllByRecursion IsPlain xs → AllByRecursion IsPlain ys → AllByRecursion IsPlain (xs ++ ys)
all_both [] ys h k = k
all_both (x ∷ xs) ys h k = (h.0, all_both xs ys h.1 k)

plain_looks : (ls : List Look) → AllByRecursion IsPlain (looks_chosen ls)
plain_looks [] = tt
plain_looks (l ∷ ls) = (tt, plain_looks ls)

plain_picks : (ks : List NodePick) → AllByRecursion IsPlain (picks_chosen ks)
plain_picks [] = tt
plain_picks (k ∷ ks) = (tt, plain_picks ks)

plain_refused : (ns : List ℕ) → AllByRecursion IsPlain (refused_chosen ns)
plain_refused [] = tt
plain_refused (n ∷ ns) = (tt, plain_refused ns)

plain_turn : (t : Turn) → AllByRecursion IsPlain (after_plan t)
plain_turn t =
    all_both (looks_chosen t.looks ++ picks_chosen t.picks) (refused_chosen t.spents)
    (all_both (looks_chosen t.looks) (picks_chosen t.picks) (plain_looks t.looks) (plain_picks t.picks)) (plain_refused t.spents)

-- what a request has of the kind, where it has the number n
abbrev pub own_under : {A : Type 0} → Kind A → ℕ → Turn → List A
own_under kind n t = only_if (n == t.plan.number) (kind.own t)

under_turn : {A : Type 0} (kind : Kind A) (n m : ℕ) (t : Turn) → under kind.part n m (choices_of t) ≡ own_under kind n t
under_turn {A} kind n m t =
    ap (λ xs. only_if (n == m) xs ++ under kind.part n t.plan.number (after_plan t)) (kind.unpinned t.plan)
    ∙ ap (λ xs. xs ++ under kind.part n t.plan.number (after_plan t)) (only_none (n == m))
    ∙ under_plain kind.part n t.plan.number (after_plan t) (plain_turn t)
    ∙ ap (only_if (n == t.plan.number)) (ap (λ xs. xs ++ flat_map kind.part (after_plan t)) (sym (kind.unpinned t.plan)) ∙ kind.all t)

under_done : {A : Type 0} (kind : Kind A) (n m : ℕ) (done : List Turn) → under kind.part n m (flat_map choices_of done) ≡ flat_map (own_under kind n) done
under_done kind n m [] = refl
under_done kind n m (t ∷ done) =
    under-append kind.part n m (choices_of t) (flat_map choices_of done)
    ∙ ap (λ xs. xs ++ under kind.part n (last_after m (choices_of t)) (flat_map choices_of done)) (under_turn kind n m t)
    ∙ ap (λ xs. own_under kind n t ++ xs) (under_done kind n (last_after m (choices_of t)) done)

under_last : {A : Type 0} (kind : Kind A) (n m : ℕ) (last : Option Turn) → under kind.part n m (of_last choices_of last) ≡ of_last (own_under kind n) last
under_last kind n m None = refl
under_last kind n m (Some t) = under_turn kind n m t

-- the choices of the kind are those of the requests, each under its number
under_all : {A : Type 0} (kind : Kind A) (n m : ℕ) (done : List Turn) (last : Option Turn) → under kind.part n m (of_all choices_of done last) ≡ of_all (own_under kind n) done last
under_all kind n m done last =
    under-append kind.part n m (flat_map choices_of done) (of_last choices_of last)
    ∙ ap (λ xs. xs ++ under kind.part n (last_after m (flat_map choices_of done)) (of_last choices_of last)) (under_done kind n m done)
    ∙ ap (λ xs. flat_map (own_under kind n) done ++ xs) (under_last kind n (last_after m (flat_map choices_of done)) last)

-- the three kinds
abbrev look_of : Choice → List Look
look_of (of_plan p) = []
look_of (of_look l) = l ∷ []
look_of (of_pick k) = []
look_of (of_refused m) = []

abbrev pick_of : Choice → List NodePick
pick_of (of_plan p) = []
pick_of (of_look l) = []
pick_of (of_pick k) = k ∷ []
pick_of (of_refused m) = []

abbrev refused_of : Choice → List ℕ
refused_of (of_plan p) = []
refused_of (of_look l) = []
refused_of (of_pick k) = []
refused_of (of_refused m) = m ∷ []

pub three : {A : Type 0} (f : Choice → List A) (ls : List Look) (ks : List NodePick) (ns : List ℕ)
    → flat_map f (looks_chosen ls ++ picks_chosen ks ++ refused_chosen ns) ≡ (flat_map f (looks_chosen ls) ++ flat_map f (picks_chosen ks)) ++ flat_map f (refused_chosen ns)
three f ls ks ns =
    flat_map-append f (looks_chosen ls ++ picks_chosen ks) (refused_chosen ns)
    ∙ ap (λ xs. xs ++ flat_map f (refused_chosen ns)) (flat_map-append f (looks_chosen ls) (picks_chosen ks))

pub none_of : {A B : Type 0} (f : Choice → List A) (g : B → Choice) → ((x : B) → f (g x) ≡ []) → (xs : List B) → flat_map f (map g xs) ≡ []
none_of f g none [] = refl
none_of f g none (x ∷ xs) = ap (λ ys. ys ++ flat_map f (map g xs)) (none x) ∙ none_of f g none xs

pub each_of : {A : Type 0} (f : Choice → List A) (g : A → Choice) → ((x : A) → f (g x) ≡ x ∷ []) → (xs : List A) → flat_map f (map g xs) ≡ xs
each_of f g one [] = refl
each_of f g one (x ∷ xs) = ap (λ ys. ys ++ flat_map f (map g xs)) (one x) ∙ ap (λ ys. x ∷ ys) (each_of f g one xs)

first_of : {A : Type 0} (a b c xs : List A) → a ≡ xs → b ≡ [] → c ≡ [] → (a ++ b) ++ c ≡ xs
first_of a b c xs p q r = rw (p, q, r) (append-nil (xs ++ []) ∙ append-nil xs)

second_of : {A : Type 0} (a b c xs : List A) → a ≡ [] → b ≡ xs → c ≡ [] → (a ++ b) ++ c ≡ xs
second_of a b c xs p q r = rw (p, q, r) (append-nil xs)

pub third_of : {A : Type 0} (a b c xs : List A) → a ≡ [] → b ≡ [] → c ≡ xs → (a ++ b) ++ c ≡ xs
third_of a b c xs p q r = rw (p, q, r) refl

abbrev looks_kind : Kind Look
looks_kind = record {
  part = look_of;
  own = λ t. t.looks;
  unpinned = λ p. refl;
  all = λ t. three look_of t.looks t.picks t.spents
      ∙ first_of (flat_map look_of (looks_chosen t.looks)) (flat_map look_of (picks_chosen t.picks)) (flat_map look_of (refused_chosen t.spents)) t.looks
      (each_of look_of (λ (l : Look). of_look l) (λ x. refl) t.looks) (none_of look_of (λ (k : NodePick). of_pick k) (λ x. refl) t.picks) (none_of look_of (λ (n : ℕ). of_refused n) (λ x. refl) t.spents);
}

abbrev picks_kind : Kind NodePick
picks_kind = record {
  part = pick_of;
  own = λ t. t.picks;
  unpinned = λ p. refl;
  all = λ t. three pick_of t.looks t.picks t.spents
      ∙ second_of (flat_map pick_of (looks_chosen t.looks)) (flat_map pick_of (picks_chosen t.picks)) (flat_map pick_of (refused_chosen t.spents)) t.picks
      (none_of pick_of (λ (l : Look). of_look l) (λ x. refl) t.looks) (each_of pick_of (λ (k : NodePick). of_pick k) (λ x. refl) t.picks) (none_of pick_of (λ (n : ℕ). of_refused n) (λ x. refl) t.spents);
}

abbrev pub refused_kind : Kind ℕ
refused_kind = record {
  part = refused_of;
  own = λ t. t.spents;
  unpinned = λ p. refl;
  all = λ t. three refused_of t.looks t.picks t.spents
      ∙ third_of (flat_map refused_of (looks_chosen t.looks)) (flat_map refused_of (picks_chosen t.picks)) (flat_map refused_of (refused_chosen t.spents)) t.spents
      (none_of refused_of (λ (l : Look). of_look l) (λ x. refl) t.looks) (none_of refused_of (λ (k : NodePick). of_pick k) (λ x. refl) t.picks) (each_of refused_of (λ (n : ℕ). of_refused n) (λ x. refl) t.spents);
}

-- the steps tell the same
looks_steps : (n m : ℕ) (steps : List Step) → looks_under n m steps ≡ under look_of n m (choices steps)
looks_steps n m [] = refl
looks_steps n m (happened l e ∷ steps) = ap (λ xs. xs ++ looks_under n m steps) (only_none (n == m)) ∙ looks_steps n m steps
looks_steps n m (failed l ∷ steps) = ap (λ xs. xs ++ looks_under n m steps) (only_none (n == m)) ∙ looks_steps n m steps
looks_steps n m (pinned p ∷ steps) = ap (λ xs. only_if (n == m) [] ++ xs) (looks_steps n p.number steps)
looks_steps n m (looked l ∷ steps) = ap (λ xs. only_if (n == m) (l ∷ []) ++ xs) (looks_steps n m steps)
looks_steps n m (drew k ∷ steps) = ap (λ xs. only_if (n == m) ([]) ++ xs) (looks_steps n m steps)
looks_steps n m (spent i ∷ steps) = ap (λ xs. only_if (n == m) ([]) ++ xs) (looks_steps n m steps)
looks_steps n m (ticked i ∷ steps) = ap (λ xs. xs ++ looks_under n m steps) (only_none (n == m)) ∙ looks_steps n m steps
looks_steps n m (stopped ∷ steps) = ap (λ xs. xs ++ looks_under n m steps) (only_none (n == m)) ∙ looks_steps n m steps

picks_steps : (n m : ℕ) (steps : List Step) → picks_under n m steps ≡ under pick_of n m (choices steps)
picks_steps n m [] = refl
picks_steps n m (happened l e ∷ steps) = ap (λ xs. xs ++ picks_under n m steps) (only_none (n == m)) ∙ picks_steps n m steps
picks_steps n m (failed l ∷ steps) = ap (λ xs. xs ++ picks_under n m steps) (only_none (n == m)) ∙ picks_steps n m steps
picks_steps n m (pinned p ∷ steps) = ap (λ xs. only_if (n == m) [] ++ xs) (picks_steps n p.number steps)
picks_steps n m (looked l ∷ steps) = ap (λ xs. only_if (n == m) ([]) ++ xs) (picks_steps n m steps)
picks_steps n m (drew k ∷ steps) = ap (λ xs. only_if (n == m) (k ∷ []) ++ xs) (picks_steps n m steps)
picks_steps n m (spent i ∷ steps) = ap (λ xs. only_if (n == m) ([]) ++ xs) (picks_steps n m steps)
picks_steps n m (ticked i ∷ steps) = ap (λ xs. xs ++ picks_under n m steps) (only_none (n == m)) ∙ picks_steps n m steps
picks_steps n m (stopped ∷ steps) = ap (λ xs. xs ++ picks_under n m steps) (only_none (n == m)) ∙ picks_steps n m steps

pub spents_steps : (n m : ℕ) (steps : List Step) → spents_under n m steps ≡ under refused_of n m (choices steps)
spents_steps n m [] = refl
spents_steps n m (happened l e ∷ steps) = ap (λ xs. xs ++ spents_under n m steps) (only_none (n == m)) ∙ spents_steps n m steps
spents_steps n m (failed l ∷ steps) = ap (λ xs. xs ++ spents_under n m steps) (only_none (n == m)) ∙ spents_steps n m steps
spents_steps n m (pinned p ∷ steps) = ap (λ xs. only_if (n == m) [] ++ xs) (spents_steps n p.number steps)
spents_steps n m (looked l ∷ steps) = ap (λ xs. only_if (n == m) ([]) ++ xs) (spents_steps n m steps)
spents_steps n m (drew k ∷ steps) = ap (λ xs. only_if (n == m) ([]) ++ xs) (spents_steps n m steps)
spents_steps n m (spent i ∷ steps) = ap (λ xs. only_if (n == m) (i ∷ []) ++ xs) (spents_steps n m steps)
spents_steps n m (ticked i ∷ steps) = ap (λ xs. xs ++ spents_under n m steps) (only_none (n == m)) ∙ spents_steps n m steps
spents_steps n m (stopped ∷ steps) = ap (λ xs. xs ++ spents_under n m steps) (only_none (n == m)) ∙ spents_steps n m steps

-- what the notes of requests say
done_noted : {A : Type 0} (said : Note → List A) (own : Turn → List A) (link : ℕ) → ((t : Turn) → flat_map said (notes_of link t) ≡ own t) → (done : List Turn) → flat_map said (flat_map (notes_of link) done) ≡ flat_map own done
done_noted said own link each [] = refl
done_noted said own link each (t ∷ done) =
    flat_map-append said (notes_of link t) (flat_map (notes_of link) done)
    ∙ ap (λ xs. xs ++ flat_map said (flat_map (notes_of link) done)) (each t)
    ∙ ap (λ xs. own t ++ xs) (done_noted said own link each done)

closed_noted : {A : Type 0} (said : Note → List A) (own : Turn → List A) (kept : List A) (link : ℕ) (b : Bool) (m : Current) (trail : Trail) (last : Option Turn)
    → ((t : Turn) → flat_map said (notes_of link t) ≡ own t) → ((t : Turn) → TiedBy true m trail (Some t) → kept ≡ own t)
    → TiedBy b m trail last → flat_map said (closed_by b link last) ++ list_if b kept ≡ of_last own last
closed_noted said own kept link true m trail None each ties tied = absurd tied
closed_noted said own kept link true m trail (Some t) each ties tied = ties t tied
closed_noted said own kept link false m trail None each ties tied = refl
closed_noted said own kept link false m trail (Some t) each ties tied = append-nil (flat_map said (notes_of link t)) ∙ each t

-- what the told notes of a connection say, and what it keeps of its request that has no note yet, is all of the kind
kind_noted : {A : Type 0} (kind : Kind A) (n : ℕ) (said : Note → List A) (kept : List A) {steps : List Step} {c : Conn}
    → ((t : Turn) → flat_map said (notes_of c.client.link t) ≡ own_under kind n t) → ((t : Turn) → TiedBy true c.current (trail_of c) (Some t) → kept ≡ own_under kind n t)
    → flat_map said (ending_note c.client.link c.phase) ≡ [] → Reached steps c → c.notes.items ≡ []
    → flat_map said (notes (history c.client.link steps)) ++ list_if c.current.pinned kept ≡ under kind.part n 0 (choices steps)
kind_noted {A} kind n said kept {steps} {c} each ties none r empty =
    let k = r.kept in
    let link = c.client.link in
    let front : List Note = flat_map (notes_of link) r.done in
    let closed : List Note = closed_by c.current.pinned link r.last in
    let told : notes (history link steps) ≡ (front ++ closed) ++ ending_note link c.phase =
    sym (append-nil (notes (history link steps))) ∙ ap (λ (ns : List Note). notes (history link steps) ++ ns) (sym empty) ∙ k.holds.noted in
    let said_all : flat_map said (notes (history link steps)) ≡ flat_map said front ++ flat_map said closed =
    ap (flat_map said) told ∙ flat_map-append said (front ++ closed) (ending_note link c.phase) ∙ ap (λ xs. flat_map said (front ++ closed) ++ xs) none
    ∙ append-nil (flat_map said (front ++ closed)) ∙ flat_map-append said front closed in
    ap (λ xs. xs ++ list_if c.current.pinned kept) said_all
    ∙ append_assoc (flat_map said front) (flat_map said closed) (list_if c.current.pinned kept)
    ∙ ap (λ xs. flat_map said front ++ xs) (closed_noted said (own_under kind n) kept link c.current.pinned c.current (trail_of c) r.last each ties k.tied)
    ∙ ap (λ xs. xs ++ of_last (own_under kind n) r.last) (done_noted said (own_under kind n) link each r.done)
    ∙ sym (under_all kind n 0 r.done r.last)
    ∙ ap (under kind.part n 0) (sym k.holds.chosen)

ending_looks : (n link : ℕ) (p : Phase) → flat_map (looks_in n) (ending_note link p) ≡ []
ending_looks n link Open = refl
ending_looks n link Broken = refl
ending_looks n link (Over cause) = refl
ending_looks n link (Told cause) = refl

ending_picks : (n link : ℕ) (p : Phase) → flat_map (picks_in n) (ending_note link p) ≡ []
ending_picks n link Open = refl
ending_picks n link Broken = refl
ending_picks n link (Over cause) = refl
ending_picks n link (Told cause) = refl

-- the looks under a number
pub looks_told : (n : ℕ) {steps : List Step} {c : Conn} → Reached steps c → c.notes.items ≡ [] → flat_map (looks_in n) (notes (history c.client.link steps)) ++ open_looks n c ≡ looks_under n 0 steps
looks_told n {steps} {c} r empty =
    kind_noted looks_kind n (looks_in n) (only_if (n == c.current.number) c.looks.items)
    (λ t. append-nil (only_if (n == t.plan.number) t.looks)) (λ t tied. sym (ap (λ (k : ℕ). only_if (n == k) t.looks) tied.number ∙ ap (λ (xs : List Look). only_if (n == c.current.number) xs) tied.looks)) (ending_looks n c.client.link c.phase) r empty
    ∙ sym (looks_steps n 0 steps)

pub picks_told : (n : ℕ) {steps : List Step} {c : Conn} → Reached steps c → c.notes.items ≡ [] → flat_map (picks_in n) (notes (history c.client.link steps)) ++ open_picks n c ≡ picks_under n 0 steps
picks_told n {steps} {c} r empty =
    kind_noted picks_kind n (picks_in n) (only_if (n == c.current.number) c.picks.items)
    (λ t. append-nil (only_if (n == t.plan.number) t.picks)) (λ t tied. sym (ap (λ (k : ℕ). only_if (n == k) t.picks) tied.number ∙ ap (λ (xs : List NodePick). only_if (n == c.current.number) xs) tied.picks)) (ending_picks n c.client.link c.phase) r empty
    ∙ sym (picks_steps n 0 steps)

-- the refused draws under a number are those of the requests with the number
pub refused_told : (n : ℕ) {steps : List Step} {c : Conn} (r : Reached steps c) → spents_under n 0 steps ≡ of_all (own_under refused_kind n) r.done r.last
refused_told n {steps} r = spents_steps n 0 steps ∙ ap (under refused_of n 0) r.kept.holds.chosen ∙ under_all refused_kind n 0 r.done r.last
