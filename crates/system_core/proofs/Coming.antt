-- What a system shows before its first event, and once a client came, or a configuration.
use Rattle.std.proofs.Common.{◌≡◌, ◌≢◌, ℕ, ◌+◌, ◌<◌, ◌≤◌, ◌⊎◌, inl, inr, Bool, true, false, List, [], ◌∷◌, ◌++◌, length, map, Option, Some, None, refl, sym, ◌∙◌, ap, subst, arith, slice_get, append-nil, length-append, IfSome}
use Rattle.std.specs.List.{AllByRecursion, Contains}
use Rattle.std.proofs.lemmas.List.{map-append}
use Rattle.std.proofs.lemmas.List.Elements.{Contains-append_left}
use Rattle.ip_net.specs.declared.ip.Ip.{Ip}
use Rattle.link_world.specs.declared.note.Note.{Note}
use Rattle.link_world.specs.Log.{came, only_if}
use Rattle.conversation.specs.Plans.{Plan}
use Rattle.conversation.specs.Steps.{Step, happened, pins, IsNew}
use Rattle.conversation.proofs.Tellings.{other_link}
use Rattle.conn_machine.specs.declared.conn.Conn.{Conn}
use Rattle.system_core.specs.Records.{Telling, tells, Records, steps_of, noting}
use Rattle.system_core.specs.Views.{plans_of, waiting_of, client_of, owner_of, picked_of}
use Rattle.system_core.specs.Happens.{start, with_client}
use Rattle.system_core.specs.Drives.{CameAt}
use Rattle.system_core.specs.Shows.{IsConn, Shows, RanCame}
use Rattle.system_core.specs.declared.links.Link.{Link}
use Rattle.system_core.specs.declared.system.System.{System}
use Rattle.system_core.proofs.Places.{same_or_not, get_pushed, get_within}
use Rattle.system_core.proofs.Tellings.{steps_same, steps_other, new_did, pins_more, notes_did}
use Rattle.system_core.proofs.LinkLemmas.{AllLinks, links_came}
use Rattle.system_core.proofs.Telling.{Aside, conns_count, links_count}

pub shows_start : (s : System) (first : Plan) → plans_of s.clients.timeline ≡ first ∷ [] → waiting_of s.clients.timeline ≡ None → s.clients.conns.items ≡ []
    → s.links.items ≡ [] → s.pops.items ≡ [] → s.notes.items ≡ [] → s.stopped ≡ false → Shows (start first) s
shows_start s first plans waiting conns links pops notes stopped = record {
  plans = plans;
  waiting = waiting;
  clients = ap (map client_of) conns;
  owners = ap (map owner_of) links;
  picks = ap (map picked_of) pops;
  notes = notes;
  stopped = stopped;
  conns = λ i c at. absurd (let e : slice_get {X = Conn} [] i ≡ Some c = ap (λ xs. slice_get xs i) (sym conns) ∙ at in let f : ⊥ = cc in f);
  links = λ l k at. absurd (let e : slice_get {X = Link} [] l ≡ Some k = ap (λ xs. slice_get xs l) (sym links) ∙ at in let f : ⊥ = cc in f);
  fresh = λ l i past. record { quiet = refl; sound = refl };
  unborn = λ i past. refl;
  pinned = λ i. tt;
}

-- the next configuration waits
pub shows_waiting : (r : Records) (old new : System) (p : Plan) → plans_of new.clients.timeline ≡ plans_of old.clients.timeline → waiting_of new.clients.timeline ≡ Some p
    → new.clients.conns ≡ old.clients.conns → new.links ≡ old.links → new.pops ≡ old.pops → new.notes ≡ old.notes → new.stopped ≡ old.stopped
    → Shows r old → Shows (record r { waiting = Some p }) new
shows_waiting r old new p plans waiting conns links pops notes stopped shown = record {
  plans = plans ∙ shown.plans;
  waiting = waiting;
  clients = ap (λ v. map client_of v.items) conns ∙ shown.clients;
  owners = ap (λ v. map owner_of v.items) links ∙ shown.owners;
  picks = ap (λ v. map picked_of v.items) pops ∙ shown.picks;
  notes = ap (λ v. v.items) notes ∙ shown.notes;
  stopped = stopped ∙ shown.stopped;
  conns = λ i c at. shown.conns i c (ap (λ v. slice_get v.items i) (sym conns) ∙ at);
  links = λ l k at. shown.links l k (ap (λ v. slice_get v.items l) (sym links) ∙ at);
  fresh = shown.fresh;
  unborn = shown.unborn;
  pinned = shown.pinned;
}

all_contained : (ps qs : List Plan) (x : List Plan) → AllByRecursion (Contains ps) x → AllByRecursion (Contains (ps ++ qs)) x
all_contained ps qs [] a = tt
all_contained ps qs (p ∷ x) a = (Contains-append_left ps qs p a.0, all_contained ps qs x a.1)

-- it is published
pub shows_published : (r : Records) (old new : System) (p : Plan) → plans_of new.clients.timeline ≡ plans_of old.clients.timeline ++ p ∷ [] → waiting_of new.clients.timeline ≡ None
    → new.clients.conns ≡ old.clients.conns → new.links ≡ old.links → new.pops ≡ old.pops → new.notes ≡ old.notes → new.stopped ≡ old.stopped
    → Shows r old → Shows (record r { plans = r.plans ++ p ∷ []; waiting = None }) new
shows_published r old new p plans waiting conns links pops notes stopped shown = record {
  plans = plans ∙ ap (λ ps. ps ++ p ∷ []) shown.plans;
  waiting = waiting;
  clients = ap (λ v. map client_of v.items) conns ∙ shown.clients;
  owners = ap (λ v. map owner_of v.items) links ∙ shown.owners;
  picks = ap (λ v. map picked_of v.items) pops ∙ shown.picks;
  notes = ap (λ v. v.items) notes ∙ shown.notes;
  stopped = stopped ∙ shown.stopped;
  conns = λ i c at. shown.conns i c (ap (λ v. slice_get v.items i) (sym conns) ∙ at);
  links = λ l k at. shown.links l k (ap (λ v. slice_get v.items l) (sym links) ∙ at);
  fresh = shown.fresh;
  unborn = shown.unborn;
  pinned = λ i. all_contained r.plans (p ∷ []) (pins (steps_of i r.told)) (shown.pinned i);
}

-- a stop was asked for
pub shows_stopped : (r : Records) (old new : System) → new.clients ≡ old.clients → new.links ≡ old.links → new.pops ≡ old.pops → new.notes ≡ old.notes → new.stopped ≡ true
    → Shows r old → Shows (record r { stopped = true }) new
shows_stopped r old new clients links pops notes stopped shown = record {
  plans = ap (λ k. plans_of k.timeline) clients ∙ shown.plans;
  waiting = ap (λ k. waiting_of k.timeline) clients ∙ shown.waiting;
  clients = ap (λ k. map client_of k.conns.items) clients ∙ shown.clients;
  owners = ap (λ v. map owner_of v.items) links ∙ shown.owners;
  picks = ap (λ v. map picked_of v.items) pops ∙ shown.picks;
  notes = ap (λ v. v.items) notes ∙ shown.notes;
  stopped = stopped;
  conns = λ i c at. shown.conns i c (ap (λ k. slice_get k.conns.items i) (sym clients) ∙ at);
  links = λ l k at. shown.links l k (ap (λ v. slice_get v.items l) (sym links) ∙ at);
  fresh = shown.fresh;
  unborn = shown.unborn;
  pinned = shown.pinned;
}

-- a client came on the next link
pub ran_came : (old new : System) (link : ℕ) (k : Link) (entry : List ℕ) (peer : Ip) → Aside old new → link ≡ length old.links.items
    → CameAt link entry peer old.clients.conns.items new.clients.conns.items
    → new.links.items ≡ old.links.items ++ k ∷ [] → k.owner ≡ length old.clients.conns.items → k.to ≡ None → k.sent.items ≡ []
    → new.pops.items ≡ old.pops.items → new.notes.items ≡ old.notes.items → RanCame entry peer old new
ran_came old new link k entry peer aside link_is came_at links owner to_is sent pops notes = λ r shown.
    let ln : length old.links.items ≡ length r.owners = links_count r old shown in
    let cn : length old.clients.conns.items ≡ length r.clients = conns_count r old shown in
    let here : link ≡ length r.owners = link_is ∙ ln in
    let born : steps_of (length r.clients) r.told ≡ [] = shown.unborn (length r.clients) (omega arith) in
    record {
      plans = ap plans_of aside.timeline ∙ shown.plans;
      waiting = ap waiting_of aside.timeline ∙ shown.waiting;
      clients = ap (map client_of) came_at.conns_are ∙ map-append client_of old.clients.conns.items (came_at.conn ∷ []) ∙ ap (λ xs. xs ++ client_of came_at.conn ∷ []) shown.clients
          ∙ ap (λ (n : ℕ). r.clients ++ n ∷ []) (came_at.link_is ∙ here);
      owners = ap (map owner_of) links ∙ map-append owner_of old.links.items (k ∷ []) ∙ ap (λ xs. xs ++ owner_of k ∷ []) shown.owners
          ∙ ap (λ (n : ℕ). r.owners ++ n ∷ []) (owner ∙ cn);
      picks = ap (map picked_of) pops ∙ shown.picks;
      notes = notes ∙ shown.notes ∙ sym (notes_did (length r.clients) (length r.owners) r.told (happened (length r.owners) (came entry peer)) [] refl ∙ append-nil _);
      stopped = aside.stopped ∙ shown.stopped;
      conns = λ i c at. conn_told r shown here born i c (ap (λ xs. slice_get xs i) (sym came_at.conns_are) ∙ at);
      links = subst (λ (n : ℕ). AllLinks new.links.items (r.told ++ map (tells (length r.clients)) (happened n (came entry peer) ∷ map (noting n) []))) ln
          (links_came (length r.clients) old.links.items new.links.items k entry peer r.told links (owner ∙ cn) to_is sent born shown.links);
      fresh = λ l i past. link_told r shown l i past;
      unborn = λ i past. unborn_told r shown i past;
      pinned = λ i. pins_told r shown i;
    }
  where
    conn_told : (r : Records) → Shows r old → link ≡ length r.owners → steps_of (length r.clients) r.told ≡ [] → (i : ℕ) (c : Conn) → slice_get (old.clients.conns.items ++ came_at.conn ∷ []) i ≡ Some c
        → IsConn (steps_of i (r.told ++ map (tells (length r.clients)) (happened (length r.owners) (came entry peer) ∷ []))) c
    conn_told r shown here born i c at = elim (get_pushed old.clients.conns.items i came_at.conn c at) as (λ _. IsConn (steps_of i (r.told ++ map (tells (length r.clients)) (happened (length r.owners) (came entry peer) ∷ []))) c) [
      | inl g ↦ rw (steps_other i (length r.clients) r.told (happened (length r.owners) (came entry peer) ∷ [])
          (λ e. let w : i < length old.clients.conns.items = get_within old.clients.conns.items i c g in let f : ⊥ = omega (arith, e, w, conns_count r old shown) in f)) (shown.conns i c g)
      | inr h ↦ subst (λ (n : ℕ). IsConn (steps_of n (r.told ++ map (tells (length r.clients)) (happened (length r.owners) (came entry peer) ∷ []))) c) (sym (h.0 ∙ conns_count r old shown))
          (rw (steps_same (length r.clients) r.told (happened (length r.owners) (came entry peer) ∷ []))
          (subst (λ (xs : List Step). IsConn (xs ++ happened (length r.owners) (came entry peer) ∷ []) c) (sym born)
          (subst (λ (x : Conn). IsConn (happened (length r.owners) (came entry peer) ∷ []) x) (sym h.1)
          (subst (λ (n : ℕ). IsConn (happened n (came entry peer) ∷ []) came_at.conn) here (record { reached = came_at.reached; prompt = came_at.prompt; drained = came_at.drained })))))
    ]

    link_told : (r : Records) → Shows r old → (l i : ℕ) → length (r.owners ++ length r.clients ∷ []) ≤ l
        → IsNew l (steps_of i (r.told ++ map (tells (length r.clients)) (happened (length r.owners) (came entry peer) ∷ [])))
    link_told r shown l i past =
        let grown : length (r.owners ++ length r.clients ∷ []) ≡ length r.owners + 1 = length-append r.owners (length r.clients ∷ []) in
        let past' : length r.owners ≤ l = omega (arith, past, grown) in
        let apart : l ≢ length r.owners = λ e. let f : ⊥ = omega (arith, e, past, grown) in f in
        elim (same_or_not i (length r.clients)) as (λ _. IsNew l (steps_of i (r.told ++ map (tells (length r.clients)) (happened (length r.owners) (came entry peer) ∷ [])))) [
          | inr n ↦ rw (steps_other i (length r.clients) r.told (happened (length r.owners) (came entry peer) ∷ []) n) (shown.fresh l i past')
          | inl same ↦ subst (λ (x : ℕ). IsNew l (steps_of x (r.told ++ map (tells (length r.clients)) (happened (length r.owners) (came entry peer) ∷ [])))) (sym same)
              (rw (steps_same (length r.clients) r.told (happened (length r.owners) (came entry peer) ∷ []))
              (new_did l (length r.owners) (steps_of (length r.clients) r.told) (happened (length r.owners) (came entry peer)) [] apart
              (ap (λ b. only_if b (came entry peer ∷ [])) (other_link l (length r.owners) apart)) refl (shown.fresh l (length r.clients) past')))
        ]

    unborn_told : (r : Records) → Shows r old → (i : ℕ) → length (r.clients ++ length r.owners ∷ []) ≤ i
        → steps_of i (r.told ++ map (tells (length r.clients)) (happened (length r.owners) (came entry peer) ∷ [])) ≡ []
    unborn_told r shown i past =
        let grown : length (r.clients ++ length r.owners ∷ []) ≡ length r.clients + 1 = length-append r.clients (length r.owners ∷ []) in
        steps_other i (length r.clients) r.told (happened (length r.owners) (came entry peer) ∷ []) (λ e. let f : ⊥ = omega (arith, e, past, grown) in f)
        ∙ shown.unborn i (omega (arith, past, grown))

    pins_told : (r : Records) → Shows r old → (i : ℕ) → AllByRecursion (Contains r.plans) (pins (steps_of i (r.told ++ map (tells (length r.clients)) (happened (length r.owners) (came entry peer) ∷ []))))
    pins_told r shown i = elim (same_or_not i (length r.clients)) as (λ _. AllByRecursion (Contains r.plans) (pins (steps_of i (r.told ++ map (tells (length r.clients)) (happened (length r.owners) (came entry peer) ∷ []))))) [
      | inr n ↦ rw (steps_other i (length r.clients) r.told (happened (length r.owners) (came entry peer) ∷ []) n) (shown.pinned i)
      | inl same ↦ subst (λ (x : ℕ). AllByRecursion (Contains r.plans) (pins (steps_of x (r.told ++ map (tells (length r.clients)) (happened (length r.owners) (came entry peer) ∷ []))))) (sym same)
          (rw (steps_same (length r.clients) r.told (happened (length r.owners) (came entry peer) ∷ []))
          (pins_more (Contains r.plans) (length r.owners) (steps_of (length r.clients) r.told) (happened (length r.owners) (came entry peer)) [] (shown.pinned (length r.clients)) tt))
    ]

pub waiting_some : (o : Option Plan) (Q : Plan → Type 0) → (o ≡ None → ⊥) → IfSome o Q → (p : Plan) × (o ≡ Some p) × Q p
waiting_some None Q n h = absurd (n refl)
waiting_some (Some p) Q n h = (p, refl, h)
