use Rattle.std.proofs.Common.{refl, ap, sym, subst, ◌∙◌, ◌≡◌, ◌++◌, ◌∷◌, [], List, ℕ, Some, length, map, slice_get, append-nil}
use Rattle.std.proofs.lemmas.List.{map-append}
use Rattle.conversation.specs.Steps.{drew, spent}
use Rattle.wrr_deadlines.specs.declared.choice.Drawn.TheVariants as drawn
use Rattle.conn_machine.specs.declared.conn.Conn.{Conn}
use Rattle.conn_machine.specs.declared.parts.Stage.TheVariants as stage
use Rattle.conn_machine.specs.Reached.{Waits}
use Rattle.system_core.specs.Records.{Picked, pops}
use Rattle.system_core.specs.Views.{picked_of}
use Rattle.system_core.specs.Happens.{Tells}
use Rattle.system_core.specs.declared.draws.Pop.{Pop}
use Rattle.system_core.proofs.Places.{get_at, get_within, indexed}
use Rattle.system_core.proofs.Choosing.{draws_at, child_zero}
use Rattle.system_core.proofs.system.System.draw_at.Goals as goal

pub drive-requires-clause-told : goal.drive-requires-clause-told
drive-requires-clause-told c =
    let same : c.index-conn.result.now ≡ c.requires.0 = indexed c.args.self.now.clients.conns.items c.args.place c.requires.0 c.index-conn.result.now c.requires.1 c.index-conn.ensures in
    let at : slice_get c.args.self.now.clients.conns.items c.args.place ≡ Some c.index-conn.result.now = c.requires.1 ∙ ap (λ (x : Conn). Some x) (sym same) in
    (c.index-conn.result.now, at, subst (Waits stage.Walk) (sym same) c.requires.2, (c.in-Some.ensures.wants, child_zero c.in-Pick.pick.child c.in-Pick.ensures.1.lawful.weighs))

pub drive-requires-in-Spent-clause-told : goal.drive-requires-in-Spent-clause-told
drive-requires-in-Spent-clause-told c =
    let same : c.index-conn.result.now ≡ c.requires.0 = indexed c.args.self.now.clients.conns.items c.args.place c.requires.0 c.index-conn.result.now c.requires.1 c.index-conn.ensures in
    let at : slice_get c.args.self.now.clients.conns.items c.args.place ≡ Some c.index-conn.result.now = c.requires.1 ∙ ap (λ (x : Conn). Some x) (sym same) in
    (c.index-conn.result.now, at, subst (Waits stage.Walk) (sym same) c.requires.2, c.in-Some.ensures.wants)

pub returns-in_ok-drive-in-Pick : goal.returns-in_ok-drive-in-Pick
returns-in_ok-drive-in-Pick c =
    let same : c.index-conn.result.now ≡ c.requires.0 = indexed c.args.self.now.clients.conns.items c.args.place c.requires.0 c.index-conn.result.now c.requires.1 c.index-conn.ensures in
    let at : slice_get c.args.self.now.clients.conns.items c.args.place ≡ Some c.index-conn.result.now = c.requires.1 ∙ ap (λ (x : Conn). Some x) (sym same) in
    let one : Picked = record { number = c.index-conn.result.now.current.number; pick = record { node = c.in-Some.aim.now.node; pick = c.in-Pick.pick } } in
    let pop : Pop = record { number = c.index-conn.result.now.current.number; pick = record { node = c.in-Some.aim.now.node; pick = c.in-Pick.pick } } in
    draws_at c.args.self.now _ c.args.place c.in-Some.aim.now.node c.popped_at-count.result c.index-conn.result.now (drawn.Pick c.in-Pick.pick)
    (drew (record { node = c.in-Some.aim.now.node; pick = c.in-Pick.pick }))
    (record { number = c.index-conn.result.now.current.number; pick = record { node = c.in-Some.aim.now.node; pick = c.in-Pick.pick } } ∷ [])
    at (subst (Waits stage.Walk) (sym same) c.requires.2) (record { timeline = c.drive.ensures.timeline; stopped = refl }) refl
    (ap (map picked_of) c.in_ok-push-in-Pick.ensures.items ∙ map-append picked_of c.args.self.now.pops.items (pop ∷ []))
    (c.popped_at-count.ensures ∙ ap (λ (ps : List Pop). pops c.index-conn.result.now.current.number c.in-Some.aim.now.node (map picked_of ps)) c.as_slice.ensures.value)
    c.in-Pick.ensures
    (record { silent = refl; quiet = λ l. refl; sound = λ l. refl; follows = λ steps. tt }) refl
    (λ r s p picks_are e t. subst (λ (n : ℕ). Tells (record r { picks = r.picks ++ record { number = n; pick = record { node = c.in-Some.aim.now.node; pick = c.in-Pick.pick } } ∷ [] }) c.args.place (drew (record { node = c.in-Some.aim.now.node; pick = c.in-Pick.pick })) s) (sym e) t)
    (c.in_ok-drive-in-Pick.ensures.driven c.index-conn.result.now at)

pub returns-in_ok-drive-in-Spent : goal.returns-in_ok-drive-in-Spent
returns-in_ok-drive-in-Spent c =
    let same : c.index-conn.result.now ≡ c.requires.0 = indexed c.args.self.now.clients.conns.items c.args.place c.requires.0 c.index-conn.result.now c.requires.1 c.index-conn.ensures in
    let at : slice_get c.args.self.now.clients.conns.items c.args.place ≡ Some c.index-conn.result.now = c.requires.1 ∙ ap (λ (x : Conn). Some x) (sym same) in
    draws_at c.args.self.now _ c.args.place c.in-Some.aim.now.node c.popped_at-count.result c.index-conn.result.now drawn.Spent (spent c.in-Some.aim.now.node) []
    at (subst (Waits stage.Walk) (sym same) c.requires.2) (record { timeline = c.drive-in-Spent.ensures.timeline; stopped = refl }) refl
    (sym (append-nil (map picked_of c.args.self.now.pops.items)))
    (c.popped_at-count.ensures ∙ ap (λ (ps : List Pop). pops c.index-conn.result.now.current.number c.in-Some.aim.now.node (map picked_of ps)) c.as_slice.ensures.value)
    c.in-Spent.ensures
    (record { silent = refl; quiet = λ l. refl; sound = λ l. refl; follows = λ steps. tt }) refl
    (λ r s p picks_are e t. subst (λ (ps : List Picked). Tells (record r { picks = ps }) c.args.place (spent c.in-Some.aim.now.node) s) (append-nil r.picks) t)
    (c.in_ok-drive-in-Spent.ensures.driven c.index-conn.result.now at)
