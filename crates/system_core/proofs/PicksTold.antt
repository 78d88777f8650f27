-- The picks of a run are those that connections were told of.
use Rattle.std.proofs.Common.{◌≡◌, ℕ, List, [], ◌∷◌, ◌++◌, true, map, refl, sym, ◌∙◌, ap}
use Rattle.std.proofs.lemmas.List.{append-nil, map-append}
use Rattle.std.proofs.lemmas.List.Concat.{flat_map-append}
use Rattle.link_world.specs.declared.note.Note.{Note}
use Rattle.link_world.specs.declared.note.NodePick.{NodePick}
use Rattle.conversation.specs.Plans.{Plan}
use Rattle.conversation.specs.Steps.{Step, spent, stopped, picks_by}
use Rattle.wrr_deadlines.specs.declared.choice.Drawn.{Drawn}
use Rattle.wrr_deadlines.specs.declared.choice.Drawn.TheVariants as drawn
use Rattle.system_core.specs.Records.{Telling, tells, Picked, Records, noting}
use Rattle.system_core.specs.Happens.{Tells, TellsOn, Stops, none, more, DrawTells, DrawsAt, Happens, Runs, begun, next}
use Rattle.system_core.specs.Tiles.{pick_of, picks_by_telling, picks_told}
use Rattle.system_core.specs.declared.event.Event.{Event}
use Rattle.system_core.specs.declared.event.Event.TheVariants as event

-- the picks are those that connections were told of
abbrev AreTold : Records → Type 0
AreTold r = map pick_of r.picks ≡ picks_told r.told

-- a note tells of no pick
notes_tell_none : (i client : ℕ) (notes : List Note) → picks_told (map (tells i) (map (noting client) notes)) ≡ []
notes_tell_none i client [] = refl
notes_tell_none i client (n ∷ notes) = notes_tell_none i client notes

told_more : (r : Records) (i : ℕ) (step : Step) (s : Records) → Tells r i step s → picks_told s.told ≡ picks_told r.told ++ picks_by step
told_more r i step s t =
    ap (λ (x : Records). picks_told x.told) t.same
    ∙ flat_map-append picks_by_telling r.told (map (tells i) (step ∷ map (noting t.client) t.notes))
    ∙ ap (λ (ps : List NodePick). picks_told r.told ++ ps)
    (ap (λ (ps : List NodePick). picks_by step ++ ps) (notes_tell_none i t.client t.notes) ∙ append-nil (picks_by step))

-- nothing was picked, and nobody was told of a pick
stay_told : (r s : Records) → s.picks ≡ r.picks → picks_told s.told ≡ picks_told r.told → AreTold r → AreTold s
stay_told r s picks told h = ap (map pick_of) picks ∙ h ∙ sym told

-- a connection was told of something else than a pick
step_told : (r : Records) (i : ℕ) (step : Step) (s : Records) → Tells r i step s → picks_by step ≡ [] → AreTold r → AreTold s
step_told r i step s t no_pick h =
    stay_told r s (ap (λ (x : Records). x.picks) t.same)
    (told_more r i step s t ∙ ap (λ (ps : List NodePick). picks_told r.told ++ ps) no_pick ∙ append-nil (picks_told r.told)) h

on_told : (r : Records) (link : ℕ) (P : Step → Type 0) (s : Records) → ((step : Step) → P step → picks_by step ≡ []) → TellsOn r link P s → AreTold r → AreTold s
on_told r link P s no_pick t h = step_told r t.place t.step s t.does (no_pick t.step t.says) h

stops_told : (r t : Records) → Stops r t → AreTold r → AreTold t
stops_told r t (none _) h = h
stops_told r t (more _ s _ i stops told) h = step_told s i stopped t told refl (stops_told r s stops h)

draw_told : (r : Records) (i : ℕ) (s : Records) → DrawsAt r i s → AreTold r → AreTold s
draw_told r i s d h = by d.result_ d.does
  where
    by : (x : Drawn) → DrawTells x r d.plan.number d.node i s → AreTold s
    by (drawn.Pick p) does =
        let q : Picked = record { number = d.plan.number; pick = record { node = d.node; pick = p } } in
        ap (λ (x : Records). map pick_of x.picks) does.same
        ∙ map-append pick_of r.picks (q ∷ [])
        ∙ ap (λ (ps : List NodePick). ps ++ q.pick ∷ []) h
        ∙ sym (told_more (record r { picks = r.picks ++ q ∷ [] }) i _ s does)
    by drawn.NoneUp does = absurd does
    by drawn.Spent does = step_told r i (spent d.node) s does refl h

happens_told : (r : Records) (e : Event) (s : Records) → Happens r e s → AreTold r → AreTold s
happens_told r (event.Config issue) s h t = stay_told r s (ap (λ (x : Records). x.picks) h.1) (ap (λ (x : Records). picks_told x.told) h.1) t
happens_told r event.Publish s h t = stay_told r s (ap (λ (x : Records). x.picks) h.2) (ap (λ (x : Records). picks_told x.told) h.2) t
happens_told r (event.Arrive entry peer) s h t =
    stay_told r s (ap (λ (x : Records). x.picks) h)
    (ap (λ (x : Records). picks_told x.told) h ∙ flat_map-append picks_by_telling r.told _ ∙ append-nil (picks_told r.told)) t
happens_told r (event.Bytes link bytes) s h t = on_told r link _ s (λ step is. ap picks_by is) h t
happens_told r (event.End link) s h t = on_told r link _ s (λ step is. ap picks_by is) h t
happens_told r (event.Fail link) s h t = on_told r link _ s (λ step is. ap picks_by is) h t
happens_told r (event.Pin link) s h t = step_told r h.place _ s h.does.2 refl t
happens_told r (event.Look link) s h t = step_told r h.place _ s h.does.1 refl t
happens_told r (event.Draw link) s h t = draw_told r h.place s h.does t
happens_told r (event.Dial link) s h t = step_told _ h.place _ s h.does.2 refl t
happens_told r (event.Took link n) s h t = on_told r link _ s (λ step is. ap picks_by is.2) h t
happens_told r event.Stop s h t = stops_told (record r { stopped = true }) s h t

pub runs_told : (first : Plan) (events : List Event) (r : Records) → Runs first events r → map pick_of r.picks ≡ picks_told r.told
runs_told first events r (begun zero) = refl
runs_told first events r (next es before e _ runs happens) = happens_told before e r happens (runs_told first es before runs)
