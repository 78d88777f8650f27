-- The picks of a run tile the pops that were taken.
use Rattle.std.proofs.Common.{◌≡◌, ℕ, ◌==◌, ◌&&◌, ◌⊎◌, inl, inr, List, [], ◌∷◌, ◌++◌, Option, Some, Bool, true, false, if◌then◌else◌, refl, sym, ◌∙◌, ap, subst}
use Rattle.std.specs.List.{flat_map, AllByRecursion}
use Rattle.std.proofs.lemmas.List.{append-nil}
use Rattle.std.proofs.lemmas.List.Concat.{flat_map-append}
use Rattle.std.proofs.lemmas.Bool.Decides.{eqb_tells}
use Rattle.link_world.specs.Log.{only_if}
use Rattle.conversation.specs.Plans.{Plan}
use Rattle.conversation.specs.Steps.{Step, spent, stopped}
use Rattle.wrr_deadlines.specs.Choice.{Draws, LawfulPick}
use Rattle.wrr_deadlines.specs.declared.choice.Pick.{Pick}
use Rattle.wrr_deadlines.specs.declared.choice.Drawn.{Drawn}
use Rattle.wrr_deadlines.specs.declared.choice.Drawn.TheVariants as drawn
use Rattle.system_core.specs.Records.{Picked, Records, last_pop, pops, one_server}
use Rattle.system_core.specs.Happens.{Tells, TellsOn, Stops, none, more, DrawTells, DrawsAt, Happens, Runs, begun, next}
use Rattle.system_core.specs.Tiles.{pick_at, picks_at, Tiles, AreLawful}
use Rattle.system_core.specs.declared.event.Event.{Event}
use Rattle.system_core.specs.declared.event.Event.TheVariants as event

-- what is said of the picks so far
pub record AreTiled (number node : ℕ) (ps : List Picked) : Type 0 where
  pub tile : Tiles 0 (picks_at number node ps) (pops number node ps)
  pub lawful : AreLawful (picks_at number node ps)

tile_more : (from to : ℕ) (ps : List Pick) (p : Pick) → Tiles from ps to → p.from ≡ to → Tiles from (ps ++ p ∷ []) p.to
tile_more from to [] p t e = (e ∙ sym t, refl)
tile_more from to (q ∷ ps) p t e = (t.0, tile_more q.to to ps p t.1 e)

lawful_more : (ps : List Pick) (p : Pick) → AreLawful ps → LawfulPick one_server 1 p → AreLawful (ps ++ p ∷ [])
lawful_more [] p h l = (l, tt)
lawful_more (q ∷ ps) p h l = (h.0, lawful_more ps p h.1 l)

last_pop_more : (number node count : ℕ) (ps : List Picked) (p : Picked)
    → last_pop number node count (ps ++ p ∷ []) ≡ (if (p.number == number) && (p.pick.node == node) then p.pick.pick.to else last_pop number node count ps)
last_pop_more number node count [] p = refl
last_pop_more number node count (q ∷ ps) p = last_pop_more number node (if (q.number == number) && (q.pick.node == node) then q.pick.pick.to else count) ps p

picks_more : (number node : ℕ) (ps : List Picked) (p : Picked) (b : Bool) → ((p.number == number) && (p.pick.node == node)) ≡ b
    → picks_at number node (ps ++ p ∷ []) ≡ picks_at number node ps ++ only_if b (p.pick.pick ∷ [])
picks_more number node ps p b e =
    flat_map-append (pick_at number node) ps (p ∷ [])
    ∙ ap (λ (xs : List Pick). picks_at number node ps ++ xs) (append-nil (pick_at number node p) ∙ ap (λ (x : Bool). only_if x (p.pick.pick ∷ [])) e)

-- one pick more, after the pops that were taken at its node
tiled_more : (number node : ℕ) (ps : List Picked) (p : Picked) → AreTiled number node ps
    → (((p.number == number) && (p.pick.node == node)) ≡ true → p.pick.pick.from ≡ pops number node ps) → LawfulPick one_server 1 p.pick.pick → AreTiled number node (ps ++ p ∷ [])
tiled_more number node ps p h follows lawful = by ((p.number == number) && (p.pick.node == node)) refl
  where
    by : (b : Bool) → ((p.number == number) && (p.pick.node == node)) ≡ b → AreTiled number node (ps ++ p ∷ [])
    by true e =
        let ends : pops number node (ps ++ p ∷ []) ≡ p.pick.pick.to = last_pop_more number node 0 ps p ∙ ap (λ (x : Bool). if x then p.pick.pick.to else pops number node ps) e in
        let are = picks_more number node ps p true e in
        record {
          tile = subst (λ (xs : List Pick). Tiles 0 xs (pops number node (ps ++ p ∷ []))) (sym are)
              (subst (λ (n : ℕ). Tiles 0 (picks_at number node ps ++ p.pick.pick ∷ []) n) (sym ends)
              (tile_more 0 (pops number node ps) (picks_at number node ps) p.pick.pick h.tile (follows e)));
          lawful = subst AreLawful (sym are) (lawful_more (picks_at number node ps) p.pick.pick h.lawful lawful);
        }
    by false e =
        let ends : pops number node (ps ++ p ∷ []) ≡ pops number node ps = last_pop_more number node 0 ps p ∙ ap (λ (x : Bool). if x then p.pick.pick.to else pops number node ps) e in
        let are : picks_at number node (ps ++ p ∷ []) ≡ picks_at number node ps = picks_more number node ps p false e ∙ append-nil (picks_at number node ps) in
        record {
          tile = subst (λ (xs : List Pick). Tiles 0 xs (pops number node (ps ++ p ∷ []))) (sym are) (subst (Tiles 0 (picks_at number node ps)) (sym ends) h.tile);
          lawful = subst AreLawful (sym are) h.lawful;
        }

-- what leaves the picks as they were
as_before : (number node : ℕ) (r s : Records) → s.picks ≡ r.picks → AreTiled number node r.picks → AreTiled number node s.picks
as_before number node r s e h = subst (AreTiled number node) (sym e) h

told_picks : (r : Records) (i : ℕ) (step : Step) (s : Records) → Tells r i step s → s.picks ≡ r.picks
told_picks r i step s t = ap (λ (x : Records). x.picks) t.same

told_on : (r : Records) (link : ℕ) (P : Step → Type 0) (s : Records) → TellsOn r link P s → s.picks ≡ r.picks
told_on r link P s t = told_picks r t.place t.step s t.does

stops_picks : (r t : Records) → Stops r t → t.picks ≡ r.picks
stops_picks r t (none _) = refl
stops_picks r t (more _ s _ i h told) = told_picks s i stopped t told ∙ stops_picks r s h

-- the test holds of two equal pairs of numbers alone
both_same : (a b c d : ℕ) → ((a == b) && (c == d)) ≡ true → (a ≡ b) × (c ≡ d)
both_same a b c d e = elim (eqb_tells a b) [
  | inl h ↦ elim (eqb_tells c d) [
    | inl k ↦ (h.1, k.1)
    | inr k ↦ absurd (off_right (a == b) (c == d) e k.0)
  ]
  | inr h ↦ absurd (off_left (a == b) (c == d) e h.0)
]
  where
    off_left : (x y : Bool) → (x && y) ≡ true → x ≡ false → ⊥
    off_left true y p q = cc
    off_left false y p q = cc

    off_right : (x y : Bool) → (x && y) ≡ true → y ≡ false → ⊥
    off_right true true p q = cc
    off_right true false p q = cc
    off_right false y p q = cc

draw_tiled : (number node : ℕ) (r : Records) (i : ℕ) (s : Records) → DrawsAt r i s → AreTiled number node r.picks → AreTiled number node s.picks
draw_tiled number node r i s d h = by d.result_ d.draws d.does
  where
    by : (x : Drawn) → Draws one_server 1 (pops d.plan.number d.node r.picks) x → DrawTells x r d.plan.number d.node i s → AreTiled number node s.picks
    by (drawn.Pick p) draws does =
        let q : Picked = record { number = d.plan.number; pick = record { node = d.node; pick = p } } in
        subst (AreTiled number node) (sym (ap (λ (x : Records). x.picks) does.same))
        (tiled_more number node r.picks q h
        (λ e. let k = both_same d.plan.number number d.node node e in
        draws.1.begins ∙ ap (λ (n : ℕ). pops n d.node r.picks) k.0 ∙ ap (λ (n : ℕ). pops number n r.picks) k.1)
        draws.1.lawful)
    by drawn.NoneUp draws does = absurd does
    by drawn.Spent draws does = as_before number node r s (told_picks r i (spent d.node) s does) h

happens_tiled : (number node : ℕ) (r : Records) (e : Event) (s : Records) → Happens r e s → AreTiled number node r.picks → AreTiled number node s.picks
happens_tiled number node r (event.Config issue) s h t = as_before number node r s (ap (λ (x : Records). x.picks) h.1) t
happens_tiled number node r event.Publish s h t = as_before number node r s (ap (λ (x : Records). x.picks) h.2) t
happens_tiled number node r (event.Arrive entry peer) s h t = as_before number node r s (ap (λ (x : Records). x.picks) h) t
happens_tiled number node r (event.Bytes link bytes) s h t = as_before number node r s (told_on r link _ s h) t
happens_tiled number node r (event.End link) s h t = as_before number node r s (told_on r link _ s h) t
happens_tiled number node r (event.Fail link) s h t = as_before number node r s (told_on r link _ s h) t
happens_tiled number node r (event.Pin link) s h t = as_before number node r s (told_picks r h.place _ s h.does.2) t
happens_tiled number node r (event.Look link) s h t = as_before number node r s (told_picks r h.place _ s h.does.1) t
happens_tiled number node r (event.Draw link) s h t = draw_tiled number node r h.place s h.does t
happens_tiled number node r (event.Dial link) s h t = as_before number node r s (ap (λ (x : Records). x.picks) h.does.2.same) t
happens_tiled number node r (event.Took link n) s h t = as_before number node r s (told_on r link _ s h) t
happens_tiled number node r event.Stop s h t = as_before number node r s (stops_picks (record r { stopped = true }) s h) t

pub runs_tile : (first : Plan) (events : List Event) (r : Records) → Runs first events r → (number node : ℕ) → AreTiled number node r.picks
runs_tile first events r (begun zero) number node = record { tile = refl; lawful = tt }
runs_tile first events r (next es before e _ runs happens) number node = happens_tiled number node before e r happens (runs_tile first es before runs number node)
