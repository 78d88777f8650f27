-- What is under a number, by the steps between two pins.
use Rattle.std.proofs.Common.{◌≡◌, ℕ, ◌==◌, List, [], ◌∷◌, ◌++◌, refl, sym, ◌∙◌, ap, Bool, true, false}
use Rattle.std.specs.List.{flat_map}
use Rattle.link_world.specs.Log.{only_if}
use Rattle.link_world.specs.declared.note.Look.{Look}
use Rattle.link_world.specs.declared.note.NodePick.{NodePick}
use Rattle.conversation.specs.Plans.{Plan}
use Rattle.conversation.specs.Steps.{Step, happened, failed, pinned, looked, drew, spent, ticked, stopped, pins, pins_by, looks, looks_by, picks, picks_by}
use Rattle.conn_service.specs.Choices.{last_of, last_number, looks_under, picks_under}
use Rattle.conn_service.specs.Stretches.{Stretch, stretch_steps, IsCut}
use Rattle.conn_service.proofs.Lists.{none_front, none_back, only_none, looks-append, picks-append}

only_both : {X : Type 0} (b : Bool) (xs ys : List X) → only_if b xs ++ only_if b ys ≡ only_if b (xs ++ ys)
only_both true xs ys = refl
only_both false xs ys = refl

-- one step more before steps that are cut
cut_more : (s : Step) (steps first : List Step) (stretches : List Stretch) → pins_by s ≡ [] → IsCut steps first stretches → IsCut (s ∷ steps) (s ∷ first) stretches
cut_more s steps first stretches none cut = record {
  whole = ap (λ (l : List Step). s ∷ l) cut.whole;
  unpinned = ap (λ (l : List Plan). l ++ pins first) none ∙ cut.unpinned;
}

abbrev Cut : List Step → Type 0
Cut steps = (first : List Step) × (stretches : List Stretch) × IsCut steps first stretches

cut_step : (s : Step) (steps : List Step) → pins_by s ≡ [] → Cut steps → Cut (s ∷ steps)
cut_step s steps none cut = (s ∷ cut.0, cut.1, cut_more s steps cut.0 cut.1 none cut.2)

cut_pin : (p : Plan) (steps : List Step) → Cut steps → Cut (pinned p ∷ steps)
cut_pin p steps cut = (
  [],
  record { plan = p; after = cut.0; unpinned = cut.2.unpinned } ∷ cut.1,
  record {
    whole = ap (λ (l : List Step). pinned p ∷ l) cut.2.whole;
    unpinned = refl;
  },
)

pub cut_of : (steps : List Step) → Cut steps
cut_of [] = ([], [], record { whole = refl; unpinned = refl })
cut_of (happened l e ∷ steps) = cut_step (happened l e) steps refl (cut_of steps)
cut_of (failed l ∷ steps) = cut_step (failed l) steps refl (cut_of steps)
cut_of (pinned p ∷ steps) = cut_pin p steps (cut_of steps)
cut_of (looked l ∷ steps) = cut_step (looked l) steps refl (cut_of steps)
cut_of (drew d ∷ steps) = cut_step (drew d) steps refl (cut_of steps)
cut_of (spent n ∷ steps) = cut_step (spent n) steps refl (cut_of steps)
cut_of (ticked n ∷ steps) = cut_step (ticked n) steps refl (cut_of steps)
cut_of (stopped ∷ steps) = cut_step stopped steps refl (cut_of steps)

last_of-append : (n : ℕ) (xs ys : List Plan) → last_of n (xs ++ ys) ≡ last_of (last_of n xs) ys
last_of-append n [] ys = refl
last_of-append n (p ∷ xs) ys = last_of-append p.number xs ys

pub number_of_last : (n : ℕ) (steps : List Step) → last_number n steps ≡ last_of n (pins steps)
number_of_last n [] = refl
number_of_last n (s ∷ steps) = number_of_last (last_of n (pins_by s)) steps ∙ sym (last_of-append n (pins_by s) (pins steps))

looks_unpinned : (k n : ℕ) (steps : List Step) → pins steps ≡ [] → looks_under k n steps ≡ only_if (k == n) (looks steps)
looks_unpinned k n [] none = sym (only_none (k == n))
looks_unpinned k n (s ∷ steps) none =
    ap (λ (l : List Plan). only_if (k == n) (looks_by s) ++ looks_under k (last_of n l) steps) (none_front (pins_by s) (pins steps) none)
    ∙ ap (λ (l : List Look). only_if (k == n) (looks_by s) ++ l) (looks_unpinned k n steps (none_back (pins_by s) (pins steps) none))
    ∙ only_both (k == n) (looks_by s) (looks steps)

picks_unpinned : (k n : ℕ) (steps : List Step) → pins steps ≡ [] → picks_under k n steps ≡ only_if (k == n) (picks steps)
picks_unpinned k n [] none = sym (only_none (k == n))
picks_unpinned k n (s ∷ steps) none =
    ap (λ (l : List Plan). only_if (k == n) (picks_by s) ++ picks_under k (last_of n l) steps) (none_front (pins_by s) (pins steps) none)
    ∙ ap (λ (l : List NodePick). only_if (k == n) (picks_by s) ++ l) (picks_unpinned k n steps (none_back (pins_by s) (pins steps) none))
    ∙ only_both (k == n) (picks_by s) (picks steps)

abbrev pub looks_at : ℕ → Stretch → List Look
looks_at k s = only_if (k == s.plan.number) (looks s.after)

abbrev pub picks_at : ℕ → Stretch → List NodePick
picks_at k s = only_if (k == s.plan.number) (picks s.after)

none_by : {X : Type 0} (b : Bool) (xs : List X) → only_if b [] ++ xs ≡ xs
none_by b xs = ap (λ l. l ++ xs) (only_none b)

looks_cut : (k n : ℕ) (stretches : List Stretch) → looks_under k n (flat_map stretch_steps stretches) ≡ flat_map (looks_at k) stretches
looks_cut k n [] = refl
looks_cut k n (s ∷ stretches) =
    none_by (k == n) (looks_under k s.plan.number (s.after ++ flat_map stretch_steps stretches))
    ∙ looks-append k s.plan.number s.after (flat_map stretch_steps stretches)
    ∙ ap (λ (l : List Look). l ++ looks_under k (last_number s.plan.number s.after) (flat_map stretch_steps stretches)) (looks_unpinned k s.plan.number s.after s.unpinned)
    ∙ ap (λ (l : List Look). looks_at k s ++ l) (looks_cut k (last_number s.plan.number s.after) stretches)

picks_cut : (k n : ℕ) (stretches : List Stretch) → picks_under k n (flat_map stretch_steps stretches) ≡ flat_map (picks_at k) stretches
picks_cut k n [] = refl
picks_cut k n (s ∷ stretches) =
    none_by (k == n) (picks_under k s.plan.number (s.after ++ flat_map stretch_steps stretches))
    ∙ picks-append k s.plan.number s.after (flat_map stretch_steps stretches)
    ∙ ap (λ (l : List NodePick). l ++ picks_under k (last_number s.plan.number s.after) (flat_map stretch_steps stretches)) (picks_unpinned k s.plan.number s.after s.unpinned)
    ∙ ap (λ (l : List NodePick). picks_at k s ++ l) (picks_cut k (last_number s.plan.number s.after) stretches)

pub looks_of_cut : (k n : ℕ) (steps first : List Step) (stretches : List Stretch) → IsCut steps first stretches
    → looks_under k n steps ≡ only_if (k == n) (looks first) ++ flat_map (looks_at k) stretches
looks_of_cut k n steps first stretches cut =
    ap (λ (l : List Step). looks_under k n l) cut.whole
    ∙ looks-append k n first (flat_map stretch_steps stretches)
    ∙ ap (λ (l : List Look). l ++ looks_under k (last_number n first) (flat_map stretch_steps stretches)) (looks_unpinned k n first cut.unpinned)
    ∙ ap (λ (l : List Look). only_if (k == n) (looks first) ++ l) (looks_cut k (last_number n first) stretches)

pub picks_of_cut : (k n : ℕ) (steps first : List Step) (stretches : List Stretch) → IsCut steps first stretches
    → picks_under k n steps ≡ only_if (k == n) (picks first) ++ flat_map (picks_at k) stretches
picks_of_cut k n steps first stretches cut =
    ap (λ (l : List Step). picks_under k n l) cut.whole
    ∙ picks-append k n first (flat_map stretch_steps stretches)
    ∙ ap (λ (l : List NodePick). l ++ picks_under k (last_number n first) (flat_map stretch_steps stretches)) (picks_unpinned k n first cut.unpinned)
    ∙ ap (λ (l : List NodePick). only_if (k == n) (picks first) ++ l) (picks_cut k (last_number n first) stretches)
