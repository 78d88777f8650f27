-- Lists, logs and steps.
use Rattle.std.proofs.Common.{◌≡◌, ◌≢◌, ◌⊎◌, ℕ, List, [], ◌∷◌, ◌++◌, Option, Some, None, refl, sym, ◌∙◌, ap, subst, inl, inr, Bool, true, false, arith}
use Rattle.std.specs.Prelude.{IfSome, ◌<◌}
use Rattle.std.specs.List.{AllByRecursion, Contains}
use Rattle.std.proofs.lemmas.List.{append-nil, append_assoc}
use Rattle.std.proofs.lemmas.List.Concat.{flat_map-append}
use Rattle.std.proofs.lemmas.List.Elements.{Contains-append_left}
use Rattle.link_world.specs.Log.{Event, LinkEvent, happening, history_of, failure, failures_of}
use Rattle.conversation.specs.Plans.{Plan}
use Rattle.conversation.specs.Steps.{Step, history, history_by, failures, failures_by, IsNew}
use Rattle.desk.specs.Desks.{Grew}
use Rattle.conn_service.specs.Went.{extended}

pub true_or_false : (b : Bool) → (b ≡ true) ⊎ (b ≡ false)
true_or_false true = inl refl
true_or_false false = inr refl

pub all_both : {X : Type 0} (P : X → Type 0) (xs ys : List X) → AllByRecursion P xs → AllByRecursion P ys → AllByRecursion P (xs ++ ys)
all_both P [] ys h k = k
all_both P (x ∷ xs) ys h k = (h.0, all_both P xs ys h.1 k)

pub all_weaker : {X : Type 0} (P Q : X → Type 0) (xs : List X) → ((x : X) → P x → Q x) → AllByRecursion P xs → AllByRecursion Q xs
all_weaker P Q [] f h = tt
all_weaker P Q (x ∷ xs) f h = (f x h.0, all_weaker P Q xs f h.1)

pub none_in_neither : {X : Type 0} (xs ys : List X) → xs ++ ys ≢ [] → (xs ≢ []) ⊎ (ys ≢ [])
none_in_neither [] ys h = inr h
none_in_neither (x ∷ xs) ys h = inl (λ e. cc)

pub none_is : {X : Type 0} (xs : List X) → (xs ≢ [] → ⊥) → xs ≡ []
none_is [] h = refl
none_is (x ∷ xs) h = absurd (h (λ e. cc))

pub contains_none : {X : Type 0} (x : X) → Contains [] x → ⊥
contains_none x h = no_number h.1
  where
    no_number : {k : ℕ} → k < 0 → ⊥
    no_number h = omega arith

pub extended_twice : (told : Option (List Event)) (a b : List Event) → extended (extended told a) b ≡ extended told (a ++ b)
extended_twice None a b = refl
extended_twice (Some log) a b = ap (λ (l : List Event). Some l) (append_assoc log a b)

pub extended_none : (told : Option (List Event)) → told ≡ extended told []
extended_none None = refl
extended_none (Some log) = ap (λ (l : List Event). Some l) (sym (append-nil log))

cancel : (xs ys zs : List Event) → xs ++ ys ≡ xs ++ zs → ys ≡ zs
cancel [] ys zs is = is
cancel (x ∷ xs) ys zs is = cancel xs ys zs cc

-- one log goes on in one way
pub same_ran : (told : Option (List Event)) (before a b : List Event) → told ≡ Some before → extended told a ≡ extended told b → a ≡ b
same_ran None before a b some is = cc
same_ran (Some log) before a b some is = cancel log a b cc

-- what holds of a log that is told goes on to the longer one
pub told_step : (told : Option (List Event)) (ran : List Event) (P Q : List Event → Type 0) → ((log : List Event) → P log → Q (log ++ ran)) → IfSome told P → IfSome (extended told ran) Q
told_step None ran P Q f h = tt
told_step (Some log) ran P Q f h = f log h

pub told_both : {X : Type 0} (o : Option X) (P Q : X → Type 0) → IfSome o P → IfSome o Q → IfSome o (λ x. P x × Q x)
told_both None P Q p q = tt
told_both (Some x) P Q p q = (p, q)

pub told_back : (told : Option (List Event)) (ran : List Event) (R : List Event → Type 0) → IfSome (extended told ran) R → IfSome told (λ log. R (log ++ ran))
told_back None ran R h = tt
told_back (Some log) ran R h = h

pub told_then : {X : Type 0} (o : Option X) (P Q : X → Type 0) → ((x : X) → P x → Q x) → IfSome o P → IfSome o Q
told_then None P Q f p = tt
told_then (Some x) P Q f p = f x p

pub told_all : {X : Type 0} (o : Option X) (P : X → Type 0) → ((x : X) → P x) → IfSome o P
told_all None P f = tt
told_all (Some x) P f = f x

-- a fact of each link, where the log is told
pub told_each : {X : Type 0} (o : Option X) (A B : ℕ → Type 0) (C : ℕ → X → Type 0) → ((l : ℕ) → A l → B l ⊎ IfSome o (C l)) → IfSome o (λ x. (l : ℕ) → A l → B l ⊎ C l x)
told_each None A B C f = tt
told_each (Some x) A B C f = f

pub history-append : (link : ℕ) (a b : List Event) → history_of link (a ++ b) ≡ history_of link a ++ history_of link b
history-append link a b = flat_map-append (happening link) a b

-- the history goes on unchanged
pub history_quiet : (l : ℕ) (log ran : List Event) → history_of l ran ≡ [] → history_of l (log ++ ran) ≡ history_of l log
history_quiet l log ran is = history-append l log ran ∙ ap (λ (h : List LinkEvent). history_of l log ++ h) is ∙ append-nil (history_of l log)

pub failures-append : (link : ℕ) (a b : List Event) → failures_of link (a ++ b) ≡ failures_of link a ++ failures_of link b
failures-append link a b = flat_map-append (failure link) a b

-- and so do the faults
pub failures_quiet : (l : ℕ) (log ran : List Event) → failures_of l ran ≡ [] → failures_of l (log ++ ran) ≡ failures_of l log
failures_quiet l log ran is = failures-append l log ran ∙ ap (λ (h : List (Unit {0})). failures_of l log ++ h) is ∙ append-nil (failures_of l log)

pub steps-append : (link : ℕ) (a b : List Step) → history link (a ++ b) ≡ history link a ++ history link b
steps-append link a b = flat_map-append (history_by link) a b

pub faults-append : (link : ℕ) (a b : List Step) → failures link (a ++ b) ≡ failures link a ++ failures link b
faults-append link a b = flat_map-append (failures_by link) a b

pub new_none : {l : ℕ} → IsNew l []
new_none = record { quiet = refl; sound = refl }

pub new_both : {l : ℕ} {a b : List Step} → IsNew l a → IsNew l b → IsNew l (a ++ b)
new_both {l} {a} {b} p q = record {
  quiet = steps-append l a b ∙ ap (λ (h : List LinkEvent). h ++ history l b) p.quiet ∙ q.quiet;
  sound = flat_map-append (failures_by l) a b ∙ ap (λ (h : List (Unit {0})). h ++ failures l b) p.sound ∙ q.sound;
}

pub grew_all : (old new ps : List Plan) → Grew old new → AllByRecursion (Contains old) ps → AllByRecursion (Contains new) ps
grew_all old new ps g h = all_weaker (Contains old) (Contains new) ps (λ p held. subst (λ (l : List Plan). Contains l p) (sym g.1) (Contains-append_left old g.0 p held)) h

pub grew_none : (old : List Plan) → Grew old old
grew_none old = ([], sym (append-nil old))
