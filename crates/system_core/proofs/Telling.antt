-- What a system shows once a connection was told one step more.
use Rattle.std.proofs.Common.{◌≡◌, ◌≢◌, ℕ, ◌≤◌, ◌<◌, ◌⊎◌, inl, inr, List, [], ◌∷◌, ◌++◌, length, map, Option, Some, None, refl, sym, ◌∙◌, ap, subst, arith, slice_get, set}
use Rattle.std.specs.List.{AllByRecursion, Contains}
use Rattle.std.specs.Option.{option_map}
use Rattle.std.proofs.lemmas.Option.{slice_get-map}
use Rattle.std.proofs.Math.ListN.{length-map}
use Rattle.link_world.specs.declared.note.Note.{Note}
use Rattle.link_world.specs.Log.{LinkEvent, came}
use Rattle.conversation.specs.Steps.{Step, happened, history, history_by, failures_by, pins_by, pins, IsNew}
use Rattle.conn_machine.specs.declared.conn.Conn.{Conn}
use Rattle.conn_machine.specs.declared.parts.Client.{Client}
use Rattle.conn_machine.specs.Reached.{Reached}
use Rattle.system_core.specs.Records.{Telling, tells, Picked, Records, steps_of, note_of_step, noting}
use Rattle.system_core.specs.Views.{plans_of, waiting_of, client_of, owner_of, picked_of, IsLinkOf}
use Rattle.system_core.specs.Happens.{with_told, Tells}
use Rattle.system_core.specs.Drives.{MayFollow, Driven, DrivenAt}
use Rattle.system_core.specs.Shows.{IsConn, Shows}
use Rattle.system_core.specs.declared.timeline.Timeline.{Timeline}
use Rattle.system_core.specs.declared.links.Link.{Link}
use Rattle.system_core.specs.declared.system.System.{System}
use Rattle.system_core.proofs.Places.{same_or_not, get_set_same, get_set_other, get_within, map_set}
use Rattle.system_core.proofs.Tellings.{steps_same, steps_other, new_did, pins_more, notes_did}
use Rattle.system_core.proofs.LinkLemmas.{AllLinks}

-- a connection began with its client's arrival
pub conn_began : (steps : List Step) (c : Conn) → Reached steps c → history c.client.link steps ≢ []
conn_began steps c r = λ none.
    let came_first = r.kept.holds.arrived in
    let e : came c.client.entry c.client.peer ∷ came_first.0 ≡ [] = sym came_first.1 ∙ none in cc

-- the client's link of a connection has come
pub client_apart : (r : Records) (s : System) (i : ℕ) (c : Conn) (l : ℕ) → Shows r s → slice_get s.clients.conns.items i ≡ Some c → length r.owners ≤ l → l ≢ c.client.link
client_apart r s i c l shown at past = λ e.
    conn_began (steps_of i r.told) c (shown.conns i c at).reached (subst (λ (x : ℕ). history x (steps_of i r.told) ≡ []) e (shown.fresh l i past).quiet)

pub client_at : (r : Records) (s : System) (i : ℕ) (c : Conn) → Shows r s → slice_get s.clients.conns.items i ≡ Some c → slice_get r.clients i ≡ Some c.client.link
client_at r s i c shown at =
    ap (λ xs. slice_get xs i) (sym shown.clients) ∙ slice_get-map client_of s.clients.conns.items i ∙ ap (option_map client_of) at

pub owner_at : (r : Records) (s : System) (l : ℕ) (k : Link) → Shows r s → slice_get s.links.items l ≡ Some k → slice_get r.owners l ≡ Some k.owner
owner_at r s l k shown at =
    ap (λ xs. slice_get xs l) (sym shown.owners) ∙ slice_get-map owner_of s.links.items l ∙ ap (option_map owner_of) at

pub conns_count : (r : Records) (s : System) → Shows r s → length s.clients.conns.items ≡ length r.clients
conns_count r s shown = sym (length-map s.clients.conns.items client_of) ∙ ap length shown.clients

pub links_count : (r : Records) (s : System) → Shows r s → length s.links.items ≡ length r.owners
links_count r s shown = sym (length-map s.links.items owner_of) ∙ ap length shown.owners

-- a step that tells no note, pins to what was published, and is of a link that has come
pub record IsPlain (r : Records) (owners : List ℕ) (step : Step) : Type 0 where
  pub silent : note_of_step step ≡ []
  pub pins_are : AllByRecursion (Contains r.plans) (pins_by step)
  pub quiet : (l : ℕ) → length owners ≤ l → history_by l step ≡ []
  pub sound : (l : ℕ) → length owners ≤ l → failures_by l step ≡ []

-- the rest of the system is as it was, but for the links and the pops
pub record Aside (old new : System) : Type 0 where
  pub timeline : new.clients.timeline ≡ old.clients.timeline
  pub stopped : new.stopped ≡ old.stopped

pub shows_told : (r : Records) (old new : System) (i : ℕ) (c : Conn) (step : Step) (owners : List ℕ) (picks : List Picked)
    → Shows r old → slice_get old.clients.conns.items i ≡ Some c → Aside old new
    → (d : DrivenAt i c step old.clients.conns.items new.clients.conns.items old.notes.items new.notes.items)
    → map owner_of new.links.items ≡ owners → map picked_of new.pops.items ≡ picks → length r.owners ≤ length owners
    → IsPlain r owners step → MayFollow step (steps_of i r.told)
    → AllLinks new.links.items (r.told ++ map (tells i) (step ∷ map (noting c.client.link) d.driven.notes))
    → (s : Records) × Tells (record r { owners = owners; picks = picks }) i step s × Shows s new
shows_told r old new i c step owners picks shown at aside d owners_are picks_are grown plain follows links = (
  with_told (record r { owners = owners; picks = picks }) i c.client.link step d.driven.notes,
  record { client = c.client.link; is_client = client_at r old i c shown at; notes = d.driven.notes; same = refl },
  record {
    plans = ap plans_of aside.timeline ∙ shown.plans;
    waiting = ap waiting_of aside.timeline ∙ shown.waiting;
    clients = ap (map client_of) d.conns_are ∙ map_set client_of old.clients.conns.items i c d.after at (ap (λ (k : Client). k.link) d.driven.client) ∙ shown.clients;
    owners = owners_are;
    picks = picks_are;
    notes = d.driven.kept ∙ ap (λ t. t ++ d.driven.notes) shown.notes ∙ sym (notes_did i c.client.link r.told step d.driven.notes plain.silent);
    stopped = aside.stopped ∙ shown.stopped;
    conns = λ j e g. conn_told j e (ap (λ xs. slice_get xs j) (sym d.conns_are) ∙ g);
    links = links;
    fresh = λ l j past. link_told l j past;
    unborn = λ j past. unborn_told j past;
    pinned = λ j. pins_told j;
  },
)
  where
    conn_told : (j : ℕ) (e : Conn) → slice_get (set old.clients.conns.items i d.after) j ≡ Some e
        → IsConn (steps_of j (r.told ++ map (tells i) (step ∷ map (noting c.client.link) d.driven.notes))) e
    conn_told j e g = elim (same_or_not j i) as (λ _. IsConn (steps_of j (r.told ++ map (tells i) (step ∷ map (noting c.client.link) d.driven.notes))) e) [
      | inr n ↦ rw (steps_other j i r.told (step ∷ map (noting c.client.link) d.driven.notes) n) (shown.conns j e (sym (get_set_other old.clients.conns.items i j d.after n) ∙ g))
      | inl same ↦ subst (λ (x : ℕ). IsConn (steps_of x (r.told ++ map (tells i) (step ∷ map (noting c.client.link) d.driven.notes))) e) (sym same)
          (rw (steps_same i r.told (step ∷ map (noting c.client.link) d.driven.notes))
          (subst (λ (x : Conn). IsConn (steps_of i r.told ++ step ∷ map (noting c.client.link) d.driven.notes) x)
          (sym (get_set_same old.clients.conns.items i d.after e (ap (λ (x : ℕ). slice_get (set old.clients.conns.items i d.after) x) (sym same) ∙ g)))
          (record { reached = d.driven.reached (shown.conns i c at).prompt (steps_of i r.told) follows (shown.conns i c at).reached; prompt = d.driven.prompt (shown.conns i c at).prompt; drained = d.driven.drained })))
    ]

    link_told : (l j : ℕ) → length owners ≤ l → IsNew l (steps_of j (r.told ++ map (tells i) (step ∷ map (noting c.client.link) d.driven.notes)))
    link_told l j past =
        let past' : length r.owners ≤ l = omega arith in
        elim (same_or_not j i) as (λ _. IsNew l (steps_of j (r.told ++ map (tells i) (step ∷ map (noting c.client.link) d.driven.notes)))) [
          | inr n ↦ rw (steps_other j i r.told (step ∷ map (noting c.client.link) d.driven.notes) n) (shown.fresh l j past')
          | inl same ↦ subst (λ (x : ℕ). IsNew l (steps_of x (r.told ++ map (tells i) (step ∷ map (noting c.client.link) d.driven.notes)))) (sym same)
              (rw (steps_same i r.told (step ∷ map (noting c.client.link) d.driven.notes))
              (new_did l c.client.link (steps_of i r.told) step d.driven.notes (client_apart r old i c l shown at past') (plain.quiet l past) (plain.sound l past) (shown.fresh l i past')))
        ]

    unborn_told : (j : ℕ) → length r.clients ≤ j → steps_of j (r.told ++ map (tells i) (step ∷ map (noting c.client.link) d.driven.notes)) ≡ []
    unborn_told j past =
        let w : i < length r.clients = omega (arith, get_within old.clients.conns.items i c at, conns_count r old shown) in
        steps_other j i r.told (step ∷ map (noting c.client.link) d.driven.notes) (λ e. let f : ⊥ = omega (arith, e) in f) ∙ shown.unborn j past

    pins_told : (j : ℕ) → AllByRecursion (Contains r.plans) (pins (steps_of j (r.told ++ map (tells i) (step ∷ map (noting c.client.link) d.driven.notes))))
    pins_told j = elim (same_or_not j i) as (λ _. AllByRecursion (Contains r.plans) (pins (steps_of j (r.told ++ map (tells i) (step ∷ map (noting c.client.link) d.driven.notes))))) [
      | inr n ↦ rw (steps_other j i r.told (step ∷ map (noting c.client.link) d.driven.notes) n) (shown.pinned j)
      | inl same ↦ subst (λ (x : ℕ). AllByRecursion (Contains r.plans) (pins (steps_of x (r.told ++ map (tells i) (step ∷ map (noting c.client.link) d.driven.notes))))) (sym same)
          (rw (steps_same i r.told (step ∷ map (noting c.client.link) d.driven.notes))
          (pins_more (Contains r.plans) c.client.link (steps_of i r.told) step d.driven.notes (shown.pinned i) plain.pins_are))
    ]
