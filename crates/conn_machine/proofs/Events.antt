-- What an event tells.
use Rattle.std.proofs.Common.{◌≡◌, ◌+◌, ◌≤◌, List, [], ◌∷◌, ◌++◌, ℕ, length, Option, Some, sym, ◌∙◌, ap, subst, vec_len}
use Rattle.link_world.specs.Log.{dialled}
use Rattle.conversation.specs.Steps.{Step, happened, IsNew}
use Rattle.conn_machine.specs.Events.{step_of, back_step_of, dial_step, shape_of, IsEnabled, IsBackEnabled, IsFresh, ServerAfter, number_after}
use Rattle.conn_machine.specs.Reached.{Reached, Opened, Waits, back_pending_of, pending_to, pending_of, trail_of}
use Rattle.conn_machine.specs.declared.parts.Aim.{Aim}
use Rattle.conn_machine.specs.declared.parts.Stage.TheVariants as stage
use Rattle.conn_machine.specs.declared.event.ConnEvent.{ConnEvent}
use Rattle.conn_machine.specs.declared.event.ConnEvent.TheVariants as event
use Rattle.conn_machine.specs.declared.event.BackEvent.{BackEvent}
use Rattle.conn_machine.specs.declared.event.EventShape.{EventShape}
use Rattle.conn_machine.specs.declared.event.EventShape.TheVariants as shape
use Rattle.conn_machine.specs.declared.parts.Current.{Current}
use Rattle.conn_machine.specs.declared.conn.Conn.{Conn}
use Rattle.conn_machine.proofs.Opens.{opened_at}

-- the same of an equal event
pub event_told : (c d : Conn) (steps : List Step) {e : ConnEvent} (v : ConnEvent) → e ≡ v → Reached (steps ++ step_of c v ∷ []) d → Reached (steps ++ step_of c e ∷ []) d
event_told c d steps v is r = subst (λ (x : ConnEvent). Reached (steps ++ step_of c x ∷ []) d) (sym is) r

pub event_server : (c d : Conn) {e : ConnEvent} (v : ConnEvent) → e ≡ v → ServerAfter v c d → ServerAfter e c d
event_server c d v is s = subst (λ (x : ConnEvent). ServerAfter x c d) (sym is) s

-- the number after an equal event
pub event_number : {e : ConnEvent} {new : ℕ} (old : ℕ) (v : ConnEvent) → e ≡ v → new ≡ number_after v old → new ≡ number_after e old
event_number {e} {new} old v is h = subst (λ (x : ConnEvent). new ≡ number_after x old) (sym is) h

pub back_told : (d : Conn) (steps : List Step) (link : ℕ) (pending : List ℕ) {e : BackEvent} (v : BackEvent) → e ≡ v
    → Reached (steps ++ back_step_of link pending v ∷ []) d → Reached (steps ++ back_step_of link pending e ∷ []) d
back_told d steps link pending v is r = subst (λ (x : BackEvent). Reached (steps ++ back_step_of link pending x ∷ []) d) (sym is) r

-- an event of the server is on its link
pub server_told : (c d : Conn) (steps : List Step) {e : ConnEvent} (link : ℕ) (v : BackEvent) → e ≡ event.Back link v → IsEnabled (shape_of e) c
    → Reached (steps ++ back_step_of c.current.link (back_pending_of c) v ∷ []) d → Reached (steps ++ step_of c e ∷ []) d
server_told c d steps {e} link v is on r =
    let at : IsEnabled (shape_of (event.Back link v)) c = subst (λ (x : ConnEvent). IsEnabled (shape_of x) c) is on in
    event_told c d steps (event.Back link v) is (subst (λ (n : ℕ). Reached (steps ++ back_step_of n (back_pending_of c) v ∷ []) d) (sym at.1) r)

-- a link is dialled to the server that the machine aims at
pub dial_told : (c d : Conn) (steps : List Step) {e : ConnEvent} (link : ℕ) → e ≡ event.Dialled link → IsEnabled (shape_of e) c → IsFresh e steps → Reached steps c
    → ((a : Aim) → c.current.aim ≡ Some a → IsNew link steps → Reached (steps ++ happened link (dialled a.server.host a.server.port) ∷ []) d) → Reached (steps ++ step_of c e ∷ []) d
dial_told c d steps {e} link is on fresh r told =
    let at : Waits stage.Dial c = subst (λ (x : ConnEvent). IsEnabled (shape_of x) c) is on in
    let o : Opened steps c.client c.current (trail_of c) c.input.items (pending_of c) c.notes.items c.over stage.Dial = opened_at at r in
    let new : IsNew link steps = subst (λ (x : ConnEvent). IsFresh x steps) is fresh in
    event_told c d steps (event.Dialled link) is
    (subst (λ (x : Option Aim). Reached (steps ++ dial_step link x ∷ []) d) (sym o.stage.holds.aim_is) (told o.stage.holds.aim o.stage.holds.aim_is new))

-- what may come still may, where room was made
pub still_enabled : (c d : Conn) → d.phase ≡ c.phase → d.stage ≡ c.stage → d.over ≡ c.over → d.current ≡ c.current → pending_of d ≡ pending_of c → vec_len d.input ≡ vec_len c.input
    → (s : EventShape) → IsEnabled s c → IsEnabled s d
still_enabled c d p s o m n i (shape.Bytes k) on = (p ∙ on.0, o ∙ on.1, on.2, subst (λ (l : ℕ). l + k ≤ 32768) (sym i) on.3)
still_enabled c d p s o m n i shape.End on = (p ∙ on.0, o ∙ on.1)
still_enabled c d p s o m n i shape.Failed on = p ∙ on
still_enabled c d p s o m n i shape.Pinned on = record { phase = p ∙ on.phase; stage = s ∙ on.stage }
still_enabled c d p s o m n i shape.Looked on = record { phase = p ∙ on.phase; stage = s ∙ on.stage }
still_enabled c d p s o m n i shape.Drew on = record { phase = p ∙ on.phase; stage = s ∙ on.stage }
still_enabled c d p s o m n i shape.Dialled on = record { phase = p ∙ on.phase; stage = s ∙ on.stage }
still_enabled c d p s o m n i (shape.Back link e) on =
    (record { phase = p ∙ on.0.phase; stage = s ∙ on.0.stage }, on.1 ∙ sym (ap (λ (x : Current). x.link) m), subst (λ (l : List ℕ). IsBackEnabled e l) (sym (ap (λ (x : Current). pending_to x.back) m)) on.2)
still_enabled c d p s o m n i (shape.Took k) on = (p ∙ on.0, on.1, subst (λ (l : List ℕ). k ≤ length l) (sym n) on.2)
still_enabled c d p s o m n i shape.Stop on = p ∙ on
