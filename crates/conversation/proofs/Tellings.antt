-- What one more step tells.
use Rattle.std.proofs.Common.{◌≡◌, ◌≢◌, ℕ, List, [], ◌∷◌, ◌++◌, Option, Some, None, true, false, not, ◌==◌, refl, sym, ◌∙◌, ap, arith}
use Rattle.std.specs.List.{flat_map, AllByRecursion}
use Rattle.std.proofs.lemmas.Bool.Decides.{nat_tests}
use Rattle.std.proofs.lemmas.List.{append-nil}
use Rattle.std.proofs.lemmas.List.Concat.{flat_map-append}
use Rattle.ip_net.specs.declared.ip.Ip.{Ip}
use Rattle.link_world.specs.declared.note.Look.{Look}
use Rattle.link_world.specs.declared.note.NodePick.{NodePick}
use Rattle.link_world.specs.Log.{LinkEvent, came, dialled, only_if}
use Rattle.conversation.specs.Plans.{Plan}
use Rattle.conversation.specs.Steps.{Step, Choice, of_plan, of_look, of_pick, of_refused, happened, failed, pinned, looked, drew, spent, ticked, stopped, history, failures, elsewhere, pins, looks, picks, spents, stops, choices, history_by, failures_by, elsewhere_by, pins_by, looks_by, picks_by, spents_by, stops_by, choices_by}
use Rattle.conversation.specs.Turns.{Turn, BackLink, IsTold, IsLinkTold, IsShown}
use Rattle.conversation.specs.Served.{IfLast, IsAnswered}
use Rattle.conversation.specs.Holding.{Told, told, Sound}

pub same_link : (link : ℕ) → (link == link) ≡ true
same_link link = grind (arith, nat_tests)

pub other_link : (l link : ℕ) → l ≢ link → (l == link) ≡ false
other_link l link differs = grind (arith, nat_tests)

snoc : {A : Type 0} (f : Step → List A) (steps : List Step) (s : Step) → flat_map f (steps ++ s ∷ []) ≡ flat_map f steps ++ f s
snoc f steps s = flat_map-append f steps (s ∷ []) ∙ ap (λ l. flat_map f steps ++ l) (append-nil (f s))

quiet : {A : Type 0} (f : Step → List A) (steps : List Step) (s : Step) → f s ≡ [] → flat_map f (steps ++ s ∷ []) ≡ flat_map f steps
quiet f steps s none = snoc f steps s ∙ ap (λ l. flat_map f steps ++ l) none ∙ append-nil (flat_map f steps)

pub history_more : (link : ℕ) (steps : List Step) (e : LinkEvent) → history link (steps ++ happened link e ∷ []) ≡ history link steps ++ e ∷ []
history_more link steps e = snoc (history_by link) steps (happened link e) ∙ ap (λ b. history link steps ++ only_if b (e ∷ [])) (same_link link)

history_quiet : (link : ℕ) (steps : List Step) (s : Step) → history_by link s ≡ [] → history link (steps ++ s ∷ []) ≡ history link steps
history_quiet link steps s none = quiet (history_by link) steps s none

pub failures_quiet : (link : ℕ) (steps : List Step) (s : Step) → failures_by link s ≡ [] → failures link (steps ++ s ∷ []) ≡ failures link steps
failures_quiet link steps s none = quiet (failures_by link) steps s none

seven : (a b : List LinkEvent) (v w : List ℕ) (p q : List Plan) (l m : List Look) (k j : List NodePick) (x y : List ℕ) (c o : List Choice)
    → a ≡ b → v ≡ w → p ≡ q → l ≡ m → k ≡ j → x ≡ y → c ≡ o
    → (let u : Told = record { events = a; others = v; pins = p; looks = l; picks = k; spents = x; choices = c } in u)
    ≡ record { events = b; others = w; pins = q; looks = m; picks = j; spents = y; choices = o }
seven a b v w p q l m k j x y c o d e f g h i n = cc

-- a step on the link isn't elsewhere
elsewhere_same : (link : ℕ) (steps : List Step) (s : Step) → elsewhere_by link s ≡ only_if (not (link == link)) (link ∷ []) → elsewhere link (steps ++ s ∷ []) ≡ elsewhere link steps
elsewhere_same link steps s is = quiet (elsewhere_by link) steps s (is ∙ ap (λ b. only_if (not b) (link ∷ [])) (same_link link))

elsewhere_other : (link l : ℕ) (steps : List Step) (s : Step) → link ≢ l → elsewhere_by link s ≡ only_if (not (link == l)) (l ∷ []) → elsewhere link (steps ++ s ∷ []) ≡ elsewhere link steps ++ l ∷ []
elsewhere_other link l steps s differs is = snoc (elsewhere_by link) steps s ∙ ap (λ xs. elsewhere link steps ++ xs) (is ∙ ap (λ b. only_if (not b) (l ∷ [])) (other_link link l differs))

-- an event on the client's link
pub told_happened : (link : ℕ) (steps : List Step) (e : LinkEvent)
    → told link (steps ++ happened link e ∷ []) ≡ record (told link steps) { events = history link steps ++ e ∷ [] }
told_happened link steps e =
    seven _ _ _ _ _ _ _ _ _ _ _ _ _ _ (history_more link steps e) (elsewhere_same link steps (happened link e) refl) (quiet pins_by steps (happened link e) refl) (quiet looks_by steps (happened link e) refl)
    (quiet picks_by steps (happened link e) refl) (quiet spents_by steps (happened link e) refl) (quiet choices_by steps (happened link e) refl)

-- a step that tells nothing of these
told_quiet : (link : ℕ) (steps : List Step) (s : Step) → history_by link s ≡ [] → elsewhere link (steps ++ s ∷ []) ≡ elsewhere link steps → pins_by s ≡ [] → looks_by s ≡ [] → picks_by s ≡ [] → spents_by s ≡ [] → choices_by s ≡ []
    → told link (steps ++ s ∷ []) ≡ told link steps
told_quiet link steps s h o p l k x c =
    seven _ _ _ _ _ _ _ _ _ _ _ _ _ _ (history_quiet link steps s h) o (quiet pins_by steps s p) (quiet looks_by steps s l) (quiet picks_by steps s k) (quiet spents_by steps s x) (quiet choices_by steps s c)

-- a step on another link
told_other : (link l : ℕ) (steps : List Step) (s : Step) → link ≢ l → history_by link s ≡ [] → elsewhere_by link s ≡ only_if (not (link == l)) (l ∷ []) → pins_by s ≡ [] → looks_by s ≡ [] → picks_by s ≡ [] → spents_by s ≡ [] → choices_by s ≡ []
    → told link (steps ++ s ∷ []) ≡ record (told link steps) { others = elsewhere link steps ++ l ∷ [] }
told_other link l steps s differs h o p k x y c =
    seven _ _ _ _ _ _ _ _ _ _ _ _ _ _ (history_quiet link steps s h) (elsewhere_other link l steps s differs o) (quiet pins_by steps s p) (quiet looks_by steps s k) (quiet picks_by steps s x) (quiet spents_by steps s y) (quiet choices_by steps s c)

pub told_elsewhere : (link l : ℕ) (steps : List Step) (e : LinkEvent) → link ≢ l
    → told link (steps ++ happened l e ∷ []) ≡ record (told link steps) { others = elsewhere link steps ++ l ∷ [] }
told_elsewhere link l steps e differs =
    told_other link l steps (happened l e) differs (ap (λ b. only_if b (e ∷ [])) (other_link link l differs)) refl refl refl refl refl refl

-- the link failed, and another one
pub told_failed : (link : ℕ) (steps : List Step) → told link (steps ++ failed link ∷ []) ≡ told link steps
told_failed link steps = told_quiet link steps (failed link) refl (elsewhere_same link steps (failed link) refl) refl refl refl refl refl

pub told_failed_elsewhere : (link l : ℕ) (steps : List Step) → link ≢ l → told link (steps ++ failed l ∷ []) ≡ record (told link steps) { others = elsewhere link steps ++ l ∷ [] }
told_failed_elsewhere link l steps differs = told_other link l steps (failed l) differs refl refl refl refl refl refl refl

pub told_stopped : (link : ℕ) (steps : List Step) → told link (steps ++ stopped ∷ []) ≡ told link steps
told_stopped link steps = told_quiet link steps stopped refl (quiet (elsewhere_by link) steps stopped refl) refl refl refl refl refl

pub told_ticked : (link : ℕ) (steps : List Step) (now : ℕ) → told link (steps ++ ticked now ∷ []) ≡ told link steps
told_ticked link steps now = told_quiet link steps (ticked now) refl (quiet (elsewhere_by link) steps (ticked now) refl) refl refl refl refl refl

pub told_pinned : (link : ℕ) (steps : List Step) (p : Plan)
    → told link (steps ++ pinned p ∷ []) ≡ record (told link steps) { pins = pins steps ++ p ∷ []; choices = choices steps ++ of_plan p ∷ [] }
told_pinned link steps p =
    seven _ _ _ _ _ _ _ _ _ _ _ _ _ _ (history_quiet link steps (pinned p) refl) (quiet (elsewhere_by link) steps (pinned p) refl) (snoc pins_by steps (pinned p)) (quiet looks_by steps (pinned p) refl)
    (quiet picks_by steps (pinned p) refl) (quiet spents_by steps (pinned p) refl) (snoc choices_by steps (pinned p))

pub told_looked : (link : ℕ) (steps : List Step) (l : Look)
    → told link (steps ++ looked l ∷ []) ≡ record (told link steps) { looks = looks steps ++ l ∷ []; choices = choices steps ++ of_look l ∷ [] }
told_looked link steps l =
    seven _ _ _ _ _ _ _ _ _ _ _ _ _ _ (history_quiet link steps (looked l) refl) (quiet (elsewhere_by link) steps (looked l) refl) (quiet pins_by steps (looked l) refl) (snoc looks_by steps (looked l))
    (quiet picks_by steps (looked l) refl) (quiet spents_by steps (looked l) refl) (snoc choices_by steps (looked l))

pub told_drew : (link : ℕ) (steps : List Step) (p : NodePick)
    → told link (steps ++ drew p ∷ []) ≡ record (told link steps) { picks = picks steps ++ p ∷ []; choices = choices steps ++ of_pick p ∷ [] }
told_drew link steps p =
    seven _ _ _ _ _ _ _ _ _ _ _ _ _ _ (history_quiet link steps (drew p) refl) (quiet (elsewhere_by link) steps (drew p) refl) (quiet pins_by steps (drew p) refl) (quiet looks_by steps (drew p) refl)
    (snoc picks_by steps (drew p)) (quiet spents_by steps (drew p) refl) (snoc choices_by steps (drew p))

pub told_spent : (link : ℕ) (steps : List Step) (n : ℕ)
    → told link (steps ++ spent n ∷ []) ≡ record (told link steps) { spents = spents steps ++ n ∷ []; choices = choices steps ++ of_refused n ∷ [] }
told_spent link steps n =
    seven _ _ _ _ _ _ _ _ _ _ _ _ _ _ (history_quiet link steps (spent n) refl) (quiet (elsewhere_by link) steps (spent n) refl) (quiet pins_by steps (spent n) refl) (quiet looks_by steps (spent n) refl)
    (quiet picks_by steps (spent n) refl) (snoc spents_by steps (spent n)) (snoc choices_by steps (spent n))

pub failures_failed : (link : ℕ) (steps : List Step) → failures link (steps ++ failed link ∷ []) ≡ failures link steps ++ tt ∷ []
failures_failed link steps = snoc (failures_by link) steps (failed link) ∙ ap (λ b. failures link steps ++ only_if b (tt ∷ [])) (same_link link)

pub failures_failed_elsewhere : (link l : ℕ) (steps : List Step) → link ≢ l → failures link (steps ++ failed l ∷ []) ≡ failures link steps
failures_failed_elsewhere link l steps differs = failures_quiet link steps (failed l) (ap (λ b. only_if b (tt ∷ [])) (other_link link l differs))

pub history_failed : (link l : ℕ) (steps : List Step) → history link (steps ++ failed l ∷ []) ≡ history link steps
history_failed link l steps = history_quiet link steps (failed l) refl

pub failures_more : (link : ℕ) (steps : List Step) → failures link (steps ++ failed link ∷ []) ≢ []
failures_more link steps none = some (failures link steps) (sym same ∙ none)
  where
    some : (xs : List (Unit {0})) → xs ++ tt ∷ [] ≢ []
    some [] is = cc
    some (x ∷ xs) is = cc

    same : failures link (steps ++ failed link ∷ []) ≡ failures link steps ++ tt ∷ []
    same = failures_failed link steps

pub stops_more : (steps : List Step) → stops (steps ++ stopped ∷ []) ≢ []
stops_more steps none = some (stops steps) (sym (snoc stops_by steps stopped) ∙ none)
  where
    some : (xs : List (Unit {0})) → xs ++ tt ∷ [] ≢ []
    some [] is = cc
    some (x ∷ xs) is = cc

pub failures_happened : (link l : ℕ) (steps : List Step) (e : LinkEvent) → failures link (steps ++ happened l e ∷ []) ≡ failures link steps
failures_happened link l steps e = failures_quiet link steps (happened l e) refl

pub stops_happened : (l : ℕ) (steps : List Step) (e : LinkEvent) → stops (steps ++ happened l e ∷ []) ≡ stops steps
stops_happened l steps e = quiet stops_by steps (happened l e) refl

-- a step that isn't of the link
pub record Apart (s : Step) (link : ℕ) : Type 0 where
  pub events : history_by link s ≡ []
  pub faults : failures_by link s ≡ []

pub told_more : (steps : List Step) (s : Step) (b : BackLink) → Apart s b.link → IsTold steps b → IsTold (steps ++ s ∷ []) b
told_more steps s b apart r = record {
  host = r.host;
  port = r.port;
  more = r.more;
  opened = r.opened;
  events = history_quiet b.link steps s apart.events ∙ r.events;
  faults = failures_quiet b.link steps s apart.faults ∙ r.faults;
}

shown_more : (steps : List Step) (s : Step) (t : Turn) → ((b : BackLink) → IsTold steps b → Apart s b.link) → IsShown steps t → IsShown (steps ++ s ∷ []) t
shown_more steps s t apart r = by t.back r
  where
    by : (o : Option BackLink) → IsLinkTold steps o → IsLinkTold (steps ++ s ∷ []) o
    by None r = tt
    by (Some b) r = told_more steps s b (apart b r) r

pub answered_more : (steps : List Step) (s : Step) (entry : List ℕ) (peer : Ip) (t : Turn) → ((b : BackLink) → IsTold steps b → Apart s b.link)
    → IsAnswered steps entry peer t → IsAnswered (steps ++ s ∷ []) entry peer t
answered_more steps s entry peer t apart r = record { item = r.item; answers = r.answers; shown = shown_more steps s t apart r.shown }

pub all_more : (steps : List Step) (s : Step) (entry : List ℕ) (peer : Ip) (done : List Turn) → ((b : BackLink) → IsTold steps b → Apart s b.link)
    → AllByRecursion (IsAnswered steps entry peer) done → AllByRecursion (IsAnswered (steps ++ s ∷ []) entry peer) done
all_more steps s entry peer [] apart r = tt
all_more steps s entry peer (t ∷ done) apart r = (answered_more steps s entry peer t apart r.0, all_more steps s entry peer done apart r.1)

one_more : (steps : List Step) (s : Step) (entry : List ℕ) (peer : Ip) (last : Option Turn) → ((b : BackLink) → IsTold steps b → Apart s b.link)
    → IfLast (IsAnswered steps entry peer) last → IfLast (IsAnswered (steps ++ s ∷ []) entry peer) last
one_more steps s entry peer None apart r = tt
one_more steps s entry peer (Some t) apart r = answered_more steps s entry peer t apart r

-- answers stay where a step isn't of their links
pub sound_more : (steps : List Step) (s : Step) (entry : List ℕ) (peer : Ip) (done : List Turn) (last : Option Turn)
    → ((b : BackLink) → IsTold steps b → Apart s b.link)
    → Sound steps entry peer done last → Sound (steps ++ s ∷ []) entry peer done last
sound_more steps s entry peer done last apart r = record {
  all = all_more steps s entry peer done apart r.all;
  one = one_more steps s entry peer last apart r.one;
}

-- a client's link isn't one that was dialled
pub client_apart : (link : ℕ) (steps : List Step) (entry : List ℕ) (peer : Ip) (more : List LinkEvent) (b : BackLink)
    → history link steps ≡ came entry peer ∷ more → IsTold steps b → b.link ≢ link
client_apart link steps entry peer more b arrived r same =
    let e : history b.link steps ≡ came entry peer ∷ more = ap (λ l. history l steps) same ∙ arrived in
    let d : dialled r.host r.port ∷ r.more ≡ came entry peer ∷ more = sym r.opened ∙ sym r.events ∙ e in
    cc

apart_happened : (l link : ℕ) (e : LinkEvent) → l ≢ link → Apart (happened link e) l
apart_happened l link e differs = record { events = ap (λ b. only_if b (e ∷ [])) (other_link l link differs); faults = refl }

pub apart_failed : (l link : ℕ) → l ≢ link → Apart (failed link) l
apart_failed l link differs = record { events = refl; faults = ap (λ b. only_if b (tt ∷ [])) (other_link l link differs) }

pub sound_happened : (link : ℕ) (steps : List Step) (e : LinkEvent) (entry : List ℕ) (peer : Ip) (done : List Turn) (last : Option Turn)
    → (more : List LinkEvent) × (history link steps ≡ came entry peer ∷ more)
    → Sound steps entry peer done last → Sound (steps ++ happened link e ∷ []) entry peer done last
sound_happened link steps e entry peer done last arrived r =
    sound_more steps (happened link e) entry peer done last (λ b told. apart_happened b.link link e (client_apart link steps entry peer arrived.0 b arrived.1 told)) r

pub sound_failed : (link : ℕ) (steps : List Step) (entry : List ℕ) (peer : Ip) (done : List Turn) (last : Option Turn)
    → (more : List LinkEvent) × (history link steps ≡ came entry peer ∷ more)
    → Sound steps entry peer done last → Sound (steps ++ failed link ∷ []) entry peer done last
sound_failed link steps entry peer done last arrived r =
    sound_more steps (failed link) entry peer done last (λ b told. apart_failed b.link link (client_apart link steps entry peer arrived.0 b arrived.1 told)) r

pub sound_pinned : (steps : List Step) (p : Plan) (entry : List ℕ) (peer : Ip) (done : List Turn) (last : Option Turn)
    → Sound steps entry peer done last → Sound (steps ++ pinned p ∷ []) entry peer done last
sound_pinned steps p entry peer done last r = sound_more steps (pinned p) entry peer done last (λ b told. record { events = refl; faults = refl }) r

pub sound_looked : (steps : List Step) (l : Look) (entry : List ℕ) (peer : Ip) (done : List Turn) (last : Option Turn)
    → Sound steps entry peer done last → Sound (steps ++ looked l ∷ []) entry peer done last
sound_looked steps l entry peer done last r = sound_more steps (looked l) entry peer done last (λ b told. record { events = refl; faults = refl }) r

pub sound_drew : (steps : List Step) (p : NodePick) (entry : List ℕ) (peer : Ip) (done : List Turn) (last : Option Turn)
    → Sound steps entry peer done last → Sound (steps ++ drew p ∷ []) entry peer done last
sound_drew steps p entry peer done last r = sound_more steps (drew p) entry peer done last (λ b told. record { events = refl; faults = refl }) r

pub sound_spent : (steps : List Step) (n : ℕ) (entry : List ℕ) (peer : Ip) (done : List Turn) (last : Option Turn)
    → Sound steps entry peer done last → Sound (steps ++ spent n ∷ []) entry peer done last
sound_spent steps n entry peer done last r = sound_more steps (spent n) entry peer done last (λ b told. record { events = refl; faults = refl }) r

pub sound_stopped : (steps : List Step) (entry : List ℕ) (peer : Ip) (done : List Turn) (last : Option Turn)
    → Sound steps entry peer done last → Sound (steps ++ stopped ∷ []) entry peer done last
sound_stopped steps entry peer done last r = sound_more steps stopped entry peer done last (λ b told. record { events = refl; faults = refl }) r
