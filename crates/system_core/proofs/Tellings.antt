-- What a telling adds to the records.
use Rattle.std.proofs.Common.{◌≡◌, ◌≢◌, ℕ, ◌≤◌, Bool, true, false, ◌==◌, List, [], ◌∷◌, ◌++◌, length, map, refl, sym, ◌∙◌, ap, arith}
use Rattle.std.specs.List.{flat_map, AllByRecursion, Contains}
use Rattle.std.proofs.lemmas.List.{append-nil}
use Rattle.std.proofs.lemmas.List.Concat.{flat_map-append}
use Rattle.link_world.specs.declared.note.Note.{Note}
use Rattle.link_world.specs.Log.{LinkEvent, noted, only_if, taken, taken_by}
use Rattle.conversation.specs.Plans.{Plan}
use Rattle.conversation.specs.Steps.{Step, happened, history, failures, pins, history_by, failures_by, pins_by, IsNew}
use Rattle.conversation.proofs.Tellings.{same_link, other_link}
use Rattle.conversation.proofs.Holdings.{all_both}
use Rattle.system_core.specs.Records.{Telling, tells, step_by, steps_of, note_of_step, note_of_telling, notes_of, noting}

-- what a connection is told of its own, and of others
steps_own : (i : ℕ) (did : List Step) → steps_of i (map (tells i) did) ≡ did
steps_own i [] = refl
steps_own i (s ∷ did) = ap (λ b. only_if b (s ∷ []) ++ steps_of i (map (tells i) did)) (same_link i) ∙ ap (λ t. s ∷ t) (steps_own i did)

steps_alien : (j i : ℕ) → j ≢ i → (did : List Step) → steps_of j (map (tells i) did) ≡ []
steps_alien j i d [] = refl
steps_alien j i d (s ∷ did) = ap (λ b. only_if b (s ∷ []) ++ steps_of j (map (tells i) did)) (other_link j i d) ∙ steps_alien j i d did

pub steps_same : (i : ℕ) (told : List Telling) (did : List Step) → steps_of i (told ++ map (tells i) did) ≡ steps_of i told ++ did
steps_same i told did = flat_map-append (step_by i) told (map (tells i) did) ∙ ap (λ t. steps_of i told ++ t) (steps_own i did)

pub steps_other : (j i : ℕ) (told : List Telling) (did : List Step) → j ≢ i → steps_of j (told ++ map (tells i) did) ≡ steps_of j told
steps_other j i told did d = flat_map-append (step_by j) told (map (tells i) did) ∙ ap (λ t. steps_of j told ++ t) (steps_alien j i d did) ∙ append-nil (steps_of j told)

pub history_append : (l : ℕ) (a b : List Step) → history l (a ++ b) ≡ history l a ++ history l b
history_append l a b = flat_map-append (history_by l) a b

pub taken_append : (a b : List LinkEvent) → taken (a ++ b) ≡ taken a ++ taken b
taken_append a b = flat_map-append taken_by a b

-- what is noted is nothing else
taken_noted : (b : Bool) (n : Note) → taken (only_if b (noted n ∷ [])) ≡ []
taken_noted true n = refl
taken_noted false n = refl

pub taken_notings : (l link : ℕ) (notes : List Note) → taken (history l (map (noting link) notes)) ≡ []
taken_notings l link [] = refl
taken_notings l link (n ∷ ns) =
    taken_append (only_if (l == link) (noted n ∷ [])) (history l (map (noting link) ns))
    ∙ ap (λ t. t ++ taken (history l (map (noting link) ns))) (taken_noted (l == link) n) ∙ taken_notings l link ns

history_notings : (l link : ℕ) (notes : List Note) → l ≢ link → history l (map (noting link) notes) ≡ []
history_notings l link [] d = refl
history_notings l link (n ∷ ns) d = ap (λ b. only_if b (noted n ∷ []) ++ history l (map (noting link) ns)) (other_link l link d) ∙ history_notings l link ns d

failures_notings : (l link : ℕ) (notes : List Note) → failures l (map (noting link) notes) ≡ []
failures_notings l link [] = refl
failures_notings l link (n ∷ ns) = failures_notings l link ns

pins_notings : (link : ℕ) (notes : List Note) → pins (map (noting link) notes) ≡ []
pins_notings link [] = refl
pins_notings link (n ∷ ns) = pins_notings link ns

notes_notings : (i link : ℕ) (notes : List Note) → notes_of (map (tells i) (map (noting link) notes)) ≡ notes
notes_notings i link [] = refl
notes_notings i link (n ∷ ns) = ap (λ t. n ∷ t) (notes_notings i link ns)

-- a step and then some notes
pub taken_did : (l link : ℕ) (step : Step) (notes : List Note) → taken (history l (step ∷ map (noting link) notes)) ≡ taken (history_by l step)
taken_did l link step notes =
    taken_append (history_by l step) (history l (map (noting link) notes))
    ∙ ap (λ t. taken (history_by l step) ++ t) (taken_notings l link notes) ∙ append-nil (taken (history_by l step))

pub history_did : (l link : ℕ) (step : Step) (notes : List Note) → l ≢ link → history l (step ∷ map (noting link) notes) ≡ history_by l step
history_did l link step notes d = ap (λ t. history_by l step ++ t) (history_notings l link notes d) ∙ append-nil (history_by l step)

failures_did : (l link : ℕ) (step : Step) (notes : List Note) → failures l (step ∷ map (noting link) notes) ≡ failures_by l step
failures_did l link step notes = ap (λ t. failures_by l step ++ t) (failures_notings l link notes) ∙ append-nil (failures_by l step)

pub pins_did : (link : ℕ) (step : Step) (notes : List Note) → pins (step ∷ map (noting link) notes) ≡ pins_by step
pins_did link step notes = ap (λ t. pins_by step ++ t) (pins_notings link notes) ∙ append-nil (pins_by step)

pub notes_did : (i link : ℕ) (told : List Telling) (step : Step) (notes : List Note) → note_of_step step ≡ []
    → notes_of (told ++ map (tells i) (step ∷ map (noting link) notes)) ≡ notes_of told ++ notes
notes_did i link told step notes none =
    flat_map-append note_of_telling told (map (tells i) (step ∷ map (noting link) notes))
    ∙ ap (λ t. notes_of told ++ (t ++ notes_of (map (tells i) (map (noting link) notes)))) none
    ∙ ap (λ t. notes_of told ++ t) (notes_notings i link notes)

-- a link of which nothing is told stays so
pub new_did : (l link : ℕ) (steps : List Step) (step : Step) (notes : List Note) → l ≢ link → history_by l step ≡ [] → failures_by l step ≡ []
    → IsNew l steps → IsNew l (steps ++ step ∷ map (noting link) notes)
new_did l link steps step notes d h f n = record {
  quiet = history_append l steps (step ∷ map (noting link) notes) ∙ ap (λ t. t ++ history l (step ∷ map (noting link) notes)) n.quiet ∙ history_did l link step notes d ∙ h;
  sound = flat_map-append (failures_by l) steps (step ∷ map (noting link) notes) ∙ ap (λ t. t ++ failures l (step ∷ map (noting link) notes)) n.sound ∙ failures_did l link step notes ∙ f;
}

pub pins_more : (P : Plan → Type 0) (link : ℕ) (steps : List Step) (step : Step) (notes : List Note) → AllByRecursion P (pins steps) → AllByRecursion P (pins_by step)
    → AllByRecursion P (pins (steps ++ step ∷ map (noting link) notes))
pins_more P link steps step notes all one =
    rw (flat_map-append pins_by steps (step ∷ map (noting link) notes)) (all_both P (pins steps) (pins (step ∷ map (noting link) notes)) all (rw (pins_did link step notes) one))
