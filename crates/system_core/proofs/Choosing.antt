-- What is done for a connection that waits for it.
use Rattle.std.proofs.Common.{◌≡◌, ◌≢◌, ℕ, ◌+◌, ◌<◌, ◌≤◌, Bool, true, false, List, [], ◌∷◌, ◌++◌, length, map, Option, Some, None, refl, sym, ◌∙◌, ap, subst, arith, slice_get, append-nil, length-append, zero, suc, set, inl, inr}
use Rattle.std.specs.List.{AllByRecursion, Contains, flat_map}
use Rattle.std.proofs.lemmas.List.Elements.{Contains-push}
use Rattle.std.proofs.lemmas.List.{map-append}
use Rattle.link_world.specs.declared.note.Note.{Note}
use Rattle.link_world.specs.declared.note.NodePick.{NodePick}
use Rattle.link_world.specs.Log.{LinkEvent, dialled, only_if, taken}
use Rattle.conversation.specs.Plans.{Plan}
use Rattle.conversation.specs.Steps.{Step, happened, pinned, looked, drew, spent, stopped, history_by, failures_by, pins_by, pins, IsNew}
use Rattle.conversation.specs.Turns.{Turn}
use Rattle.conversation.specs.Served.{pin_of, of_all}
use Rattle.conversation.proofs.Tellings.{other_link}
use Rattle.wrr_deadlines.specs.Choice.{Draws, HasUp}
use Rattle.wrr_deadlines.specs.Schedule.{weight_of}
use Rattle.wrr_deadlines.specs.declared.choice.Drawn.{Drawn}
use Rattle.wrr_deadlines.specs.declared.choice.Drawn.TheVariants as drawn
use Rattle.conn_machine.specs.declared.conn.Conn.{Conn}
use Rattle.conn_machine.specs.declared.parts.Current.{Current}
use Rattle.conn_machine.specs.declared.parts.Phase.{Phase}
use Rattle.conn_machine.specs.declared.parts.Phase.TheVariants.{Open}
use Rattle.conn_machine.specs.declared.parts.Stage.{Stage}
use Rattle.conn_machine.specs.declared.parts.Stage.TheVariants as stage
use Rattle.conn_machine.specs.Parts.{Trail, Tied, TiedBy, AtStage}
use Rattle.conn_machine.specs.Reached.{Reached, PhaseHolds, Waits, trail_of, pending_of}
use Rattle.system_core.specs.Issues.{IsLast}
use Rattle.system_core.specs.Records.{Telling, tells, Picked, Records, steps_of, note_of_step, noting, pops, one_server}
use Rattle.system_core.specs.Views.{plans_of, IsConnOf, owner_of, picked_of}
use Rattle.system_core.specs.Happens.{Tells, Stops, none, more, IsClientOf, PinsAt, LooksAt, DrawTells, DrawsAt, DialsAt, Does}
use Rattle.system_core.specs.Drives.{MayFollow, DrivenAt, IsClosedAt, AreClosed}
use Rattle.system_core.specs.Shows.{Shows, RanAt, Stopping}
use Rattle.system_core.specs.declared.draws.Pop.{Pop}
use Rattle.system_core.specs.declared.links.Link.{Link}
use Rattle.system_core.specs.declared.links.Authority.{Authority}
use Rattle.system_core.specs.declared.system.System.{System}
use Rattle.system_core.proofs.Places.{same_or_not, get_set_other}
use Rattle.system_core.proofs.LinkLemmas.{AllLinks, links_kept, links_dialled}
use Rattle.system_core.proofs.Telling.{IsPlain, Aside, shows_told, client_apart, client_at, owner_at, links_count}

-- a step of no link, that tells no note
pub record IsChoice (step : Step) : Type 0 where
  pub silent : note_of_step step ≡ []
  pub quiet : (l : ℕ) → history_by l step ≡ []
  pub sound : (l : ℕ) → failures_by l step ≡ []
  pub follows : (steps : List Step) → MayFollow step steps

ran_choice : (r : Records) (old new : System) (i : ℕ) (c : Conn) (step : Step) (picks : List Picked) → Shows r old → slice_get old.clients.conns.items i ≡ Some c → Aside old new
    → new.links.items ≡ old.links.items → map picked_of new.pops.items ≡ picks → IsChoice step → AllByRecursion (Contains r.plans) (pins_by step)
    → DrivenAt i c step old.clients.conns.items new.clients.conns.items old.notes.items new.notes.items
    → (s : Records) × Tells (record r { picks = picks }) i step s × Shows s new
ran_choice r old new i c step picks shown at aside links picks_are choice pins_are d =
    shows_told r old new i c step r.owners picks shown at aside d (ap (map owner_of) links ∙ shown.owners) picks_are (omega arith)
    (record { silent = choice.silent; pins_are = pins_are; quiet = λ l past. choice.quiet l; sound = λ l past. choice.sound l }) (choice.follows (steps_of i r.told))
    (subst (λ (ks : List Link). AllLinks ks (r.told ++ map (tells i) (step ∷ map (noting c.client.link) d.driven.notes))) (sym links)
    (links_kept i c.client.link old.links.items r.told step d.driven.notes (λ l. ap taken (choice.quiet l)) shown.links))

last_among : (ps : List Plan) (p : Plan) → IsLast ps p → Contains ps p
last_among ps p l = subst (λ (xs : List Plan). Contains xs p) (sym l.1) (Contains-push l.0 p)

pub pins_at : (old new : System) (i : ℕ) (c : Conn) (p : Plan) → slice_get old.clients.conns.items i ≡ Some c → Aside old new → new.links.items ≡ old.links.items → new.pops.items ≡ old.pops.items
    → IsLast (plans_of old.clients.timeline) p → DrivenAt i c (pinned p) old.clients.conns.items new.clients.conns.items old.notes.items new.notes.items → RanAt PinsAt i old new
pins_at old new i c p at aside links pops last d = λ r shown.
    let last' : IsLast r.plans p = (last.0, sym shown.plans ∙ last.1) in
    let told = ran_choice r old new i c (pinned p) r.picks shown at aside links (ap (map picked_of) pops ∙ shown.picks)
    (record { silent = refl; quiet = λ l. refl; sound = λ l. refl; follows = λ steps. tt }) (last_among r.plans p last', tt) d in
    (told.0, (p, last', told.1), told.2)

pub looks_at : (old new : System) (i : ℕ) (c : Conn) (node : ℕ) → slice_get old.clients.conns.items i ≡ Some c → Aside old new → new.links.items ≡ old.links.items → new.pops.items ≡ old.pops.items
    → DrivenAt i c (looked (record { node = node; mask = 1 })) old.clients.conns.items new.clients.conns.items old.notes.items new.notes.items → RanAt LooksAt i old new
looks_at old new i c node at aside links pops d = λ r shown.
    let told = ran_choice r old new i c (looked (record { node = node; mask = 1 })) r.picks shown at aside links (ap (map picked_of) pops ∙ shown.picks)
    (record { silent = refl; quiet = λ l. refl; sound = λ l. refl; follows = λ steps. tt }) tt d in
    (told.0, (node, told.1), told.2)

-- a connection that waits for a pick was pinned last to the configuration of this number
tied_number : (b : Bool) (m : Current) (trail : Trail) (t : Turn) → b ≡ true → TiedBy b m trail (Some t) → t.plan.number ≡ m.number
tied_number true m trail t is tied = tied.number
tied_number false m trail t is tied = absurd (let f : ⊥ = cc in f)

pub pinned_last : (steps : List Step) (c : Conn) → Reached steps c → Waits stage.Walk c → (p : Plan) × IsLast (pins steps) p × (p.number ≡ c.current.number)
pinned_last steps c r w =
    let open_ : PhaseHolds Open steps c r.done r.last r.rest r.left r.kept.next = subst (λ (q : Phase). PhaseHolds q steps c r.done r.last r.rest r.left r.kept.next) w.phase r.phase in
    let at : AtStage stage.Walk c.client c.current c.input.items (pending_of c) r.done r.last r.rest =
    subst (λ (s : Stage). AtStage s c.client c.current c.input.items (pending_of c) r.done r.last r.rest) w.stage open_.3 in (
      at.turn.plan,
      (flat_map pin_of r.done, r.kept.holds.pinned ∙ ap (λ (o : Option Turn). of_all pin_of r.done o) at.last_is),
      tied_number c.current.pinned c.current (trail_of c) at.turn at.pinned (subst (λ (o : Option Turn). TiedBy c.current.pinned c.current (trail_of c) o) at.last_is r.kept.tied),
    )

-- what was drawn for it
pub draws_at : (old new : System) (i node count : ℕ) (c : Conn) (result_ : Drawn) (step : Step) (picks : List Picked) → slice_get old.clients.conns.items i ≡ Some c → Waits stage.Walk c → Aside old new
    → new.links.items ≡ old.links.items → map picked_of new.pops.items ≡ map picked_of old.pops.items ++ picks
    → count ≡ pops c.current.number node (map picked_of old.pops.items) → Draws one_server 1 count result_
    → IsChoice step → pins_by step ≡ []
    → ((r s : Records) (p : Plan) → r.picks ≡ map picked_of old.pops.items → p.number ≡ c.current.number → Tells (record r { picks = r.picks ++ picks }) i step s → DrawTells result_ r p.number node i s)
    → DrivenAt i c step old.clients.conns.items new.clients.conns.items old.notes.items new.notes.items → RanAt DrawsAt i old new
draws_at old new i node count c result_ step picks at waits aside links pops_are count_is draws choice no_pin tells_it d = λ r shown.
    let last = pinned_last (steps_of i r.told) c (shown.conns i c at).reached waits in
    let told = ran_choice r old new i c step (r.picks ++ picks) shown at aside links (pops_are ∙ ap (λ t. t ++ picks) shown.picks) choice
    (subst (λ (ps : List Plan). AllByRecursion (Contains r.plans) ps) (sym no_pin) tt) d in (
      told.0,
      record {
        plan = last.0;
        pinned = last.1;
        node = node;
        result_ = result_;
        draws = subst (λ (n : ℕ). Draws one_server 1 n result_) (count_is ∙ ap (λ (ps : List Picked). pops c.current.number node ps) shown.picks ∙ ap (λ (n : ℕ). pops n node r.picks) (sym last.2)) draws;
        does = tells_it r told.0 last.0 (sym shown.picks) last.2 told.1;
      },
      told.2,
    )

-- one connection more is told of the stop
pub stops_at : (old new : System) (i : ℕ) (c : Conn) → slice_get old.clients.conns.items i ≡ Some c → Aside old new → new.links.items ≡ old.links.items → new.pops.items ≡ old.pops.items
    → DrivenAt i c stopped old.clients.conns.items new.clients.conns.items old.notes.items new.notes.items → Stopping old new
stops_at old new i c at aside links pops d = λ r shown.
    let told = ran_choice r old new i c stopped r.picks shown at aside links (ap (map picked_of) pops ∙ shown.picks)
    (record { silent = refl; quiet = λ l. refl; sound = λ l. refl; follows = λ steps. tt }) tt d in
    (told.0, more r r told.0 i (none r) told.1, told.2)

pub stops_none : (s : System) → Stopping s s
stops_none s = λ r shown. (r, none r, shown)

stops_then : (r s t : Records) → Stops r s → Stops s t → Stops r t
stops_then r s t a (none _) = a
stops_then r s t a (more _ x _ i b tells_it) = more r x t i (stops_then r s x a b) tells_it

pub stops_more : (a b d : System) → Stopping a b → Stopping b d → Stopping a d
stops_more a b d f g = λ r shown.
    let first = f r shown in
    let second = g first.0 first.2 in
    (second.0, stops_then r first.0 second.0 first.1 second.1, second.2)

-- the next link is dialled for it
pub dials_at : (old new : System) (i link : ℕ) (c : Conn) (k : Link) (to : Authority) → slice_get old.clients.conns.items i ≡ Some c → Aside old new → link ≡ length old.links.items
    → new.links.items ≡ old.links.items ++ k ∷ [] → k.owner ≡ i → k.to ≡ Some to → k.sent.items ≡ [] → new.pops.items ≡ old.pops.items
    → DrivenAt i c (happened link (dialled to.host to.port)) old.clients.conns.items new.clients.conns.items old.notes.items new.notes.items → RanAt DialsAt i old new
dials_at old new i link c k to at aside link_is links owner to_is sent pops d = λ r shown.
    let n : ℕ = length old.links.items in
    let count : length old.links.items ≡ length r.owners = links_count r old shown in
    let step : Step = happened (length old.links.items) (dialled to.host to.port) in
    let d' : DrivenAt i c (happened (length old.links.items) (dialled to.host to.port)) old.clients.conns.items new.clients.conns.items old.notes.items new.notes.items =
    subst (λ (l : ℕ). DrivenAt i c (happened l (dialled to.host to.port)) old.clients.conns.items new.clients.conns.items old.notes.items new.notes.items) link_is d in
    let fresh : IsNew (length old.links.items) (steps_of i r.told) = shown.fresh (length old.links.items) i (omega (arith, count)) in
    let grown : length (r.owners ++ i ∷ []) ≡ length r.owners + 1 = length-append r.owners (i ∷ []) in
    let told = shows_told r old new i c step (r.owners ++ i ∷ []) r.picks shown at aside d'
    (ap (map owner_of) links ∙ map-append owner_of old.links.items (k ∷ []) ∙ ap (λ t. t ++ owner_of k ∷ []) shown.owners ∙ ap (λ (x : ℕ). r.owners ++ x ∷ []) owner)
    (ap (map picked_of) pops ∙ shown.picks) (omega (arith, grown))
    (record {
      silent = refl;
      pins_are = tt;
      sound = λ l past. refl;
      quiet = λ l past. ap (λ b. only_if b (dialled to.host to.port ∷ [])) (other_link l (length old.links.items) (λ same. let f : ⊥ = omega (arith, same, past, grown, count) in f));
    })
    fresh
    (links_dialled i c.client.link old.links.items new.links.items k to r.told d'.driven.notes links owner to_is sent
    (client_apart r old i c (length old.links.items) shown at (omega (arith, count))) fresh shown.links) in (
      told.0,
      (to.host, to.port, subst (λ (l : ℕ). Tells (record r { owners = r.owners ++ i ∷ [] }) i (happened l (dialled to.host to.port)) told.0) count told.1),
      told.2,
    )

-- what is done at the place of a client's link is done for it
pub does_at : (At : Records → ℕ → Records → Type 0) (old new : System) (link i : ℕ) (c : Conn) → IsConnOf old link i c → link ≡ c.client.link → RanAt At i old new
    → (r : Records) → Shows r old → (s : Records) × Does At r link s × Shows s new
does_at At old new link i c is own ran r shown =
    let done = ran r shown in (
      done.0,
      record { place = i; owned = (owner_at r old link is.kept shown is.is_link ∙ ap Some (sym is.is_place), client_at r old i c shown is.is_conn ∙ ap Some (sym own)); does = done.1 },
      done.2,
    )

-- the one server of a balancer is its child 0
pub child_zero : (n : ℕ) → 0 < weight_of one_server n → n ≡ 0
child_zero zero h = refl
child_zero (suc zero) h = absurd (omega (arith, h))
child_zero (suc (suc n)) h = absurd (omega (arith, h))

-- none of the first is open
pub closed_more : (conns : List Conn) (n : ℕ) → AreClosed n conns → IsClosedAt n conns → AreClosed (n + 1) conns
closed_more conns n all one = λ i low. elim (same_or_not i n) as (λ _. IsClosedAt i conns) [
  | inr d ↦ all i (omega (arith, low, d))
  | inl e ↦ subst (λ (k : ℕ). IsClosedAt k conns) (sym e) one
]

pub closed_set : (conns : List Conn) (n : ℕ) (x : Conn) → AreClosed n conns → AreClosed n (set conns n x)
closed_set conns n x all = λ i low c at o. all i low c (sym (get_set_other conns n i x (λ e. let f : ⊥ = omega (arith, e, low) in f)) ∙ at) o
