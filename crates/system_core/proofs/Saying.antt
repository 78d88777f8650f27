-- What happens on a link, as the step that it tells.
use Rattle.std.proofs.Common.{◌≡◌, ◌≢◌, ℕ, zero, suc, ◌+◌, ◌<◌, ◌≤◌, Bool, true, false, ◌==◌, List, [], ◌∷◌, ◌++◌, length, map, take, Option, Some, None, refl, sym, ◌∙◌, ap, subst, arith, slice_get, append-nil}
use Rattle.std.proofs.lemmas.Bool.Decides.{nat_tests}
use Rattle.std.specs.List.{AllByRecursion, Contains}
use Rattle.link_world.specs.declared.note.Note.{Note}
use Rattle.link_world.specs.Log.{LinkEvent, gave, gave_end, took, noted, only_if, taken, note_by}
use Rattle.conversation.specs.Steps.{Step, happened, failed, history_by, failures_by, pins_by}
use Rattle.conversation.proofs.Tellings.{other_link}
use Rattle.conn_machine.specs.declared.conn.Conn.{Conn}
use Rattle.conn_machine.specs.declared.event.BackEvent.{BackEvent}
use Rattle.conn_machine.specs.declared.event.BackEvent.TheVariants as back
use Rattle.conn_machine.specs.Events.{IsEnabled, IsAsked, back_shape_of, shape_of, step_of}
use Rattle.conn_machine.specs.Reached.{pending_of, back_pending_of}
use Rattle.system_core.specs.Records.{Telling, tells, Records, steps_of, note_of_step, noting}
use Rattle.system_core.specs.Views.{IsConnOf, owner_of, picked_of}
use Rattle.system_core.specs.Happens.{Says}
use Rattle.system_core.specs.Answers.{MayHappen, shape_on}
use Rattle.system_core.specs.Drives.{MayFollow, DrivenAt}
use Rattle.system_core.specs.Takes.{told_on, pending_on, taken_now, IsTakable, TookOn}
use Rattle.system_core.specs.Shows.{Shows, RanOn}
use Rattle.system_core.specs.declared.links.Link.{Link}
use Rattle.system_core.specs.declared.system.System.{System}
use Rattle.system_core.proofs.Places.{get_within, map_set, some_same}
use Rattle.system_core.proofs.LinkLemmas.{links_took}
use Rattle.system_core.proofs.Telling.{IsPlain, Aside, shows_told, owner_at, links_count}

pub eq_true : (a b : ℕ) → (a == b) ≡ true → a ≡ b
eq_true a b e = grind (arith, nat_tests)

took_length : (n : ℕ) (xs : List ℕ) → n ≤ length xs → length (take n xs) ≡ n
took_length zero xs h = refl
took_length (suc n) [] h = absurd (omega (arith, h))
took_length (suc n) (x ∷ xs) h = ap suc (took_length n xs (omega (arith, h)))

-- no more is taken than is pending
pub takable : (c : Conn) (link : ℕ) (e : BackEvent) (b : Bool) → IsEnabled (shape_on b link (back_shape_of e)) c → IsTakable (pending_on b c) e
takable c link (back.Bytes piece) b may = tt
takable c link back.End b may = tt
takable c link back.Failed b may = tt
takable c link (back.Took n) true may = may.2
takable c link (back.Took n) false may = may.2.1

says_step : (c : Conn) (link : ℕ) (e : BackEvent) (b : Bool) → (link == c.client.link) ≡ b → IsEnabled (shape_on b link (back_shape_of e)) c → Says link e (step_of c (told_on b link e))
says_step c link (back.Bytes piece) true own may = ap (λ (l : ℕ). happened l (gave piece.now)) (sym (eq_true link c.client.link own))
says_step c link back.End true own may = ap (λ (l : ℕ). happened l gave_end) (sym (eq_true link c.client.link own))
says_step c link back.Failed true own may = ap (λ (l : ℕ). failed l) (sym (eq_true link c.client.link own))
says_step c link (back.Took n) true own may = (take n (pending_of c), took_length n (pending_of c) may.2, ap (λ (l : ℕ). happened l (took (take n (pending_of c)))) (sym (eq_true link c.client.link own)))
says_step c link (back.Bytes piece) false own may = refl
says_step c link back.End false own may = refl
says_step c link back.Failed false own may = refl
says_step c link (back.Took n) false own may = (take n (back_pending_of c), took_length n (back_pending_of c) may.2.1, refl)

plain_happened : (r : Records) (owners : List ℕ) (link : ℕ) (e : LinkEvent) → link < length owners → note_by e ≡ [] → IsPlain r owners (happened link e)
plain_happened r owners link e within none = record {
  silent = none;
  pins_are = tt;
  quiet = λ l past. ap (λ b. only_if b (e ∷ [])) (other_link l link (λ same. let f : ⊥ = omega (arith, same, past, within) in f));
  sound = λ l past. refl;
}

plain_failed : (r : Records) (owners : List ℕ) (link : ℕ) → link < length owners → IsPlain r owners (failed link)
plain_failed r owners link within = record {
  silent = refl;
  pins_are = tt;
  quiet = λ l past. refl;
  sound = λ l past. ap (λ b. only_if b (tt ∷ [])) (other_link l link (λ same. let f : ⊥ = omega (arith, same, past, within) in f));
}

plain_says : (r : Records) (owners : List ℕ) (link : ℕ) (e : BackEvent) (step : Step) → link < length owners → Says link e step → IsPlain r owners step
plain_says r owners link (back.Bytes piece) step within says = subst (IsPlain r owners) (sym says) (plain_happened r owners link (gave piece.now) within refl)
plain_says r owners link back.End step within says = subst (IsPlain r owners) (sym says) (plain_happened r owners link gave_end within refl)
plain_says r owners link back.Failed step within says = subst (IsPlain r owners) (sym says) (plain_failed r owners link within)
plain_says r owners link (back.Took n) step within says = subst (IsPlain r owners) (sym says.2) (plain_happened r owners link (took says.0) within refl)

follows_says : (link : ℕ) (e : BackEvent) (step : Step) (steps : List Step) → Says link e step → MayFollow step steps
follows_says link (back.Bytes piece) step steps says = subst (λ (s : Step). MayFollow s steps) (sym says) tt
follows_says link back.End step steps says = subst (λ (s : Step). MayFollow s steps) (sym says) tt
follows_says link back.Failed step steps says = subst (λ (s : Step). MayFollow s steps) (sym says) tt
follows_says link (back.Took n) step steps says = subst (λ (s : Step). MayFollow s steps) (sym says.2) tt

only_none : (b : Bool) → (let xs : List ℕ = [] in only_if b xs ≡ xs)
only_none true = refl
only_none false = refl

quiet_one : (b : Bool) (e : LinkEvent) → taken (e ∷ []) ≡ [] → taken (only_if b (e ∷ [])) ≡ []
quiet_one true e h = h
quiet_one false e h = refl

took_one : (b : Bool) (bytes : List ℕ) → taken (only_if b (took bytes ∷ [])) ≡ only_if b bytes
took_one true bytes = append-nil bytes
took_one false bytes = refl

takes_step : (c : Conn) (link : ℕ) (e : BackEvent) (b : Bool) → (link == c.client.link) ≡ b → (l : ℕ)
    → taken (history_by l (step_of c (told_on b link e))) ≡ only_if (l == link) (taken_now (pending_on b c) e)
takes_step c link (back.Bytes piece) true own l = quiet_one (l == c.client.link) (gave piece.now) refl ∙ sym (only_none (l == link))
takes_step c link back.End true own l = quiet_one (l == c.client.link) gave_end refl ∙ sym (only_none (l == link))
takes_step c link back.Failed true own l = sym (only_none (l == link))
takes_step c link (back.Took n) true own l =
    took_one (l == c.client.link) (take n (pending_of c)) ∙ ap (λ (x : ℕ). only_if (l == x) (take n (pending_of c))) (sym (eq_true link c.client.link own))
takes_step c link (back.Bytes piece) false own l = quiet_one (l == link) (gave piece.now) refl ∙ sym (only_none (l == link))
takes_step c link back.End false own l = quiet_one (l == link) gave_end refl ∙ sym (only_none (l == link))
takes_step c link back.Failed false own l = sym (only_none (l == link))
takes_step c link (back.Took n) false own l = took_one (l == link) (take n (back_pending_of c))

-- what happens on a link, once its connection was driven and what it takes is kept
pub ran_on : (old new : System) (i link : ℕ) (c : Conn) (e : BackEvent) → IsConnOf old link i c → MayHappen link (back_shape_of e) c → Aside old new
    → new.pops.items ≡ old.pops.items → TookOn link (taken_now (pending_on (link == c.client.link) c) e) old.links.items new.links.items
    → DrivenAt i c (step_of c (told_on (link == c.client.link) link e)) old.clients.conns.items new.clients.conns.items old.notes.items new.notes.items
    → RanOn link e old new
ran_on old new i link c e is may aside pops t d = λ r shown.
    let own : Bool = link == c.client.link in
    let step : Step = step_of c (told_on (link == c.client.link) link e) in
    let says : Says link e (step_of c (told_on (link == c.client.link) link e)) = says_step c link e (link == c.client.link) refl may in
    let within : link < length r.owners = omega (arith, get_within old.links.items link is.kept is.is_link, links_count r old shown) in
    let before : t.before ≡ is.kept = some_same (slice_get old.links.items link) t.before is.kept t.is_before is.is_link in
    let owned : t.before.owner ≡ i = ap (λ (k : Link). k.owner) before ∙ sym is.is_place in
    let told = shows_told r old new i c (step_of c (told_on (link == c.client.link) link e)) r.owners r.picks shown is.is_conn aside d
    (ap (map owner_of) t.links_are ∙ map_set owner_of old.links.items link t.before t.after t.is_before t.owner ∙ shown.owners)
    (ap (map picked_of) pops ∙ shown.picks) (omega arith)
    (plain_says r r.owners link e step within says) (follows_says link e step (steps_of i r.told) says)
    (links_took link i c.client.link (taken_now (pending_on (link == c.client.link) c) e) old.links.items new.links.items r.told step d.driven.notes
    (takes_step c link e (link == c.client.link) refl) t owned shown.links) in
    (told.0, record { place = i; owned = owner_at r old link is.kept shown is.is_link ∙ ap Some (sym is.is_place); step = step; says = says; does = told.1 }, told.2)

-- what may happen on a link may be told
pub told_enabled : (c : Conn) (link : ℕ) (e : BackEvent) (b : Bool) → IsEnabled (shape_on b link (back_shape_of e)) c
    → IsEnabled (shape_of (told_on b link e)) c × IsAsked (told_on b link e) c
told_enabled c link (back.Bytes piece) true may = (may, tt)
told_enabled c link back.End true may = (may, tt)
told_enabled c link back.Failed true may = (may, tt)
told_enabled c link (back.Took n) true may = (may, tt)
told_enabled c link (back.Bytes piece) false may = (may, tt)
told_enabled c link back.End false may = (may, tt)
told_enabled c link back.Failed false may = (may, tt)
told_enabled c link (back.Took n) false may = (may, tt)
