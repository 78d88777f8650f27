-- Lists, logs and steps.
use Rattle.std.proofs.Common.{◌≡◌, ◌≢◌, ◌⊎◌, ℕ, ◌<◌, ◌≤◌, ◌==◌, List, [], ◌∷◌, ◌++◌, Option, Some, None, refl, sym, ◌∙◌, ap, subst, inl, inr, arith, true, false, Bool}
use Rattle.std.specs.Prelude.{IfSome}
use Rattle.std.specs.List.{AllByRecursion, Contains}
use Rattle.std.proofs.lemmas.List.{append-nil, append_assoc}
use Rattle.std.proofs.lemmas.List.Concat.{flat_map-append}
use Rattle.std.proofs.lemmas.List.Elements.{Contains-append_left}
use Rattle.std.proofs.lemmas.Bool.Decides.{nat_tests}
use Rattle.link_world.specs.Log.{Event, LinkEvent, is_of, happening, history_of, failure, failures_of, only_if, notes, note_by, IsFresh}
use Rattle.conversation.specs.Plans.{Plan}
use Rattle.conversation.specs.Steps.{Step, history, failures, history_by, failures_by, pins_by, looks_by, picks_by, spents_by, IsNew}
use Rattle.link_world.specs.declared.note.Look.{Look}
use Rattle.link_world.specs.declared.note.NodePick.{NodePick}
use Rattle.desk.specs.Desks.{Grew}
use Rattle.conn_service.specs.Choices.{last_of, last_number, looks_under, picks_under, spents_under}
use Rattle.conn_service.specs.Pins.{IsBelow}
use Rattle.conn_service.specs.Went.{extended}

pub same_link : (l : ℕ) → (l == l) ≡ true
same_link l = grind (arith, nat_tests)

pub other_link : (l m : ℕ) → l ≢ m → (l == m) ≡ false
other_link l m ne = grind (arith, nat_tests)

pub all_front : {X : Type 0} (P : X → Type 0) (xs ys : List X) → AllByRecursion P (xs ++ ys) → AllByRecursion P xs
all_front P [] ys h = tt
all_front P (x ∷ xs) ys h = (h.0, all_front P xs ys h.1)

pub all_both : {X : Type 0} (P : X → Type 0) (xs ys : List X) → AllByRecursion P xs → AllByRecursion P ys → AllByRecursion P (xs ++ ys)
all_both P [] ys h k = k
all_both P (x ∷ xs) ys h k = (h.0, all_both P xs ys h.1 k)

pub all_weaker : {X : Type 0} (P Q : X → Type 0) (xs : List X) → ((x : X) → P x → Q x) → AllByRecursion P xs → AllByRecursion Q xs
all_weaker P Q [] f h = tt
all_weaker P Q (x ∷ xs) f h = (f x h.0, all_weaker P Q xs f h.1)

pub none_in_neither : {X : Type 0} (xs ys : List X) → xs ++ ys ≢ [] → (xs ≢ []) ⊎ (ys ≢ [])
none_in_neither [] ys h = inr h
none_in_neither (x ∷ xs) ys h = inl (λ e. cc)

pub none_front : {X : Type 0} (xs ys : List X) → xs ++ ys ≡ [] → xs ≡ []
none_front [] ys e = refl
none_front (x ∷ xs) ys e = cc

pub none_back : {X : Type 0} (xs ys : List X) → xs ++ ys ≡ [] → ys ≡ []
none_back [] ys e = e
none_back (x ∷ xs) ys e = cc

pub only_none : {X : Type 0} (b : Bool) → only_if {A = X} b [] ≡ []
only_none true = refl
only_none false = refl

pub extended_twice : (told : Option (List Event)) (a b : List Event) → extended (extended told a) b ≡ extended told (a ++ b)
extended_twice None a b = refl
extended_twice (Some log) a b = ap (λ (l : List Event). Some l) (append_assoc log a b)

pub extended_none : (told : Option (List Event)) → told ≡ extended told []
extended_none None = refl
extended_none (Some log) = ap (λ (l : List Event). Some l) (sym (append-nil log))

-- what is fresh in the longer log was fresh before
pub fresh_before : (told : Option (List Event)) (ran : List Event) (link : ℕ) → IfSome (extended told ran) (IsFresh link) → IfSome told (IsFresh link)
fresh_before None ran link h = tt
fresh_before (Some log) ran link h = all_front (λ e. is_of link e ≡ false) log ran h

pub ran-append : (link : ℕ) (a b : List Event) → history_of link (a ++ b) ≡ history_of link a ++ history_of link b
ran-append link a b = flat_map-append (happening link) a b

pub faults-append : (link : ℕ) (a b : List Event) → failures_of link (a ++ b) ≡ failures_of link a ++ failures_of link b
faults-append link a b = flat_map-append (failure link) a b

pub history-append : (link : ℕ) (a b : List Step) → history link (a ++ b) ≡ history link a ++ history link b
history-append link a b = flat_map-append (history_by link) a b

pub failures-append : (link : ℕ) (a b : List Step) → failures link (a ++ b) ≡ failures link a ++ failures link b
failures-append link a b = flat_map-append (failures_by link) a b

pub notes-append : (a b : List LinkEvent) → notes (a ++ b) ≡ notes a ++ notes b
notes-append a b = flat_map-append note_by a b

pub no_steps : (link : ℕ) → IsNew link []
no_steps link = record { quiet = refl; sound = refl }

pub new_both : {link : ℕ} {a b : List Step} → IsNew link a → IsNew link b → IsNew link (a ++ b)
new_both {link} {a} {b} x y = record {
  quiet = history-append link a b ∙ ap (λ (l : List LinkEvent). l ++ history link b) x.quiet ∙ y.quiet;
  sound = failures-append link a b ∙ ap (λ (l : List (Unit {0})). l ++ failures link b) x.sound ∙ y.sound;
}

pub grew_none : (old : List Plan) → Grew old old
grew_none old = ([], sym (append-nil old))

pub grew_twice : (a b c : List Plan) → Grew a b → Grew b c → Grew a c
grew_twice a b c f g = (f.0 ++ g.0, g.1 ∙ ap (λ (l : List Plan). l ++ g.0) f.1 ∙ append_assoc a f.0 g.0)

pub grew_all : (old new : List Plan) (ns : List Plan) → Grew old new → AllByRecursion (Contains old) ns → AllByRecursion (Contains new) ns
grew_all old new ns g h = all_weaker (Contains old) (Contains new) ns (λ n held. subst (λ (l : List Plan). Contains l n) (sym g.1) (Contains-append_left old g.0 n held)) h

pub grew_below : (old new : List Plan) (n : ℕ) → Grew old new → IsBelow old n → IsBelow new n
grew_below old new n g h = λ m all. h m (all_front (λ (p : Plan). p.number ≤ m) old g.0 (subst (λ (l : List Plan). AllByRecursion (λ (p : Plan). p.number ≤ m) l) g.1 all))

pub last_number-append : (n : ℕ) (a b : List Step) → last_number n (a ++ b) ≡ last_number (last_number n a) b
last_number-append n [] b = refl
last_number-append n (s ∷ a) b = last_number-append (last_of n (pins_by s)) a b

pub looks-append : (k n : ℕ) (a b : List Step) → looks_under k n (a ++ b) ≡ looks_under k n a ++ looks_under k (last_number n a) b
looks-append k n [] b = refl
looks-append k n (s ∷ a) b = ap (λ (l : List Look). only_if (k == n) (looks_by s) ++ l) (looks-append k (last_of n (pins_by s)) a b)
    ∙ sym (append_assoc (only_if (k == n) (looks_by s)) (looks_under k (last_of n (pins_by s)) a) (looks_under k (last_number (last_of n (pins_by s)) a) b))

pub picks-append : (k n : ℕ) (a b : List Step) → picks_under k n (a ++ b) ≡ picks_under k n a ++ picks_under k (last_number n a) b
picks-append k n [] b = refl
picks-append k n (s ∷ a) b = ap (λ (l : List NodePick). only_if (k == n) (picks_by s) ++ l) (picks-append k (last_of n (pins_by s)) a b)
    ∙ sym (append_assoc (only_if (k == n) (picks_by s)) (picks_under k (last_of n (pins_by s)) a) (picks_under k (last_number (last_of n (pins_by s)) a) b))

pub spents-append : (k n : ℕ) (a b : List Step) → spents_under k n (a ++ b) ≡ spents_under k n a ++ spents_under k (last_number n a) b
spents-append k n [] b = refl
spents-append k n (s ∷ a) b = ap (λ (l : List ℕ). only_if (k == n) (spents_by s) ++ l) (spents-append k (last_of n (pins_by s)) a b)
    ∙ sym (append_assoc (only_if (k == n) (spents_by s)) (spents_under k (last_of n (pins_by s)) a) (spents_under k (last_number (last_of n (pins_by s)) a) b))

pub not_false : {b : Bool} → b ≡ true → b ≡ false → ⊥
not_false {b} yes_ no_ = cc

-- what came later had not come before
pub not_before : (a b : Bool) → (a ≡ true → b ≡ true) → b ≡ false → a ≡ false
not_before true b f is = absurd (not_false (f refl) is)
not_before false b f is = refl

-- a step that tells of no pin, no look, no pick
pub unpinned : (n : ℕ) (s : Step) → pins_by s ≡ [] → last_number n (s ∷ []) ≡ n
unpinned n s none = ap (λ (l : List Plan). last_of n l) none

pub unlooked : (k n : ℕ) (s : Step) → looks_by s ≡ [] → (ls : List Look) → ls ≡ ls ++ looks_under k n (s ∷ [])
unlooked k n s none ls = sym (ap (λ (l : List Look). ls ++ (only_if (k == n) l ++ [])) none ∙ ap (λ (l : List Look). ls ++ (l ++ [])) (only_none (k == n)) ∙ append-nil ls)

pub unpicked : (k n : ℕ) (s : Step) → picks_by s ≡ [] → (ls : List NodePick) → ls ≡ ls ++ picks_under k n (s ∷ [])
unpicked k n s none ls = sym (ap (λ (l : List NodePick). ls ++ (only_if (k == n) l ++ [])) none ∙ ap (λ (l : List NodePick). ls ++ (l ++ [])) (only_none (k == n)) ∙ append-nil ls)

-- a step that tells of no refused draw
pub unspent : (k n : ℕ) (s : Step) → spents_by s ≡ [] → spents_under k n (s ∷ []) ≡ []
unspent k n s none = ap (λ (l : List ℕ). only_if (k == n) l ++ []) none ∙ ap (λ (l : List ℕ). l ++ []) (only_none (k == n))

pub no_elements : {X : Type 0} (x : X) → Contains [] x → ⊥
no_elements x c = no_number c.1
  where
    no_number : {k : ℕ} → k < 0 → ⊥
    no_number h = omega arith
