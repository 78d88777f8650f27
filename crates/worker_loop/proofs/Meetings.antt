-- No client is forgotten, and no link is left open.
use Rattle.std.proofs.Common.{◌≡◌, ◌≢◌, ◌⊎◌, ℕ, List, [], ◌∷◌, ◌++◌, Option, Some, None, refl, sym, ◌∙◌, ap, subst, inl, inr, Bool, true, false}
use Rattle.std.specs.Prelude.{Ok, Err, IfSome}
use Rattle.std.specs.List.{flat_map, Contains}
use Rattle.std.proofs.lemmas.Bool.{cases_eq}
use Rattle.std.proofs.lemmas.List.{append-nil, append_assoc}
use Rattle.std.proofs.lemmas.List.Concat.{flat_map-append}
use Rattle.std.proofs.lemmas.List.Elements.{All-contains, All-from_recursion, Contains-push, Contains-push_cases, Contains-append_left, Contains-append_right, Contains-append_cases}
use Rattle.slab.specs.Slab.{Slab, get}
use Rattle.link_world.specs.declared.note.Note.{Note}
use Rattle.link_world.specs.declared.note.EndCause.{EndCause}
use Rattle.link_world.specs.declared.world.Arrival.{Arrival}
use Rattle.link_world.specs.declared.world.WaitFailed.{WaitFailed}
use Rattle.link_world.specs.Log.{Event, LinkEvent, came, waited, wait_failed, clock, asked, on, history_of, notes, note_by}
use Rattle.link_world.specs.Seen.{Seen, Came, NowDid, StopDid, WaitDid}
use Rattle.link_world.specs.Lately.{Lately}
use Rattle.conversation.specs.Plans.{Plan}
use Rattle.conversation.specs.Steps.{Step, history, IsNew}
use Rattle.conversation.specs.Served.{notes_of, end_note}
use Rattle.desk.specs.Desks.{Desk}
use Rattle.conn_machine.specs.Reached.{Reached, IsTold, IsFinished, IsRequestNote, closed_by, ending_note}
use Rattle.conn_machine.specs.declared.parts.Client.{Client}
use Rattle.conn_machine.specs.declared.parts.Phase.{Phase}
use Rattle.conn_machine.specs.declared.parts.Phase.TheVariants.{Open, Broken, Over, Told}
use Rattle.conn_machine.specs.declared.conn.Conn.{Conn}
use Rattle.conn_machine.proofs.Tells.{unended_untold}
use Rattle.conn_service.specs.Arrivals.{arrivals, arrival_by, dials, dial_by}
use Rattle.conn_service.specs.Moments.{moment, Given, Owns, Uses}
use Rattle.conn_service.specs.Released.{LeavesOpen, LeavesClosed}
use Rattle.conn_service.specs.Went.{Went, extended}
use Rattle.worker_loop.specs.Runs.{Attends, AttendsBy}
use Rattle.worker_loop.specs.Owned.{TellsAll, Shows, Tracks}
use Rattle.worker_loop.specs.Named.{named, open_links, IsDialledFor}
use Rattle.worker_loop.specs.Met.{IsSomebodys, IsEnded, IsClient, IsInUse, IsOfRun, Meets, AllEnded, AllClosed, AllNamed}
use Rattle.worker_loop.proofs.Lists.{extended_twice, extended_none, contains_none, history-append, steps-append, told_both, told_back, told_then, told_all}
use Rattle.worker_loop.proofs.Frames.{client_told}
use Rattle.worker_loop.proofs.Ownings.{named_more, goes_named, none_open}
use Rattle.worker_loop.proofs.Servings.{Others, moved, went_shows}

-- at first
pub meets_none : {gs : List Plan} (now : Seen) (conns : Slab Conn) → Attends now gs conns → Meets conns now now conns
meets_none {gs} now conns at = record { ran = []; log = extended_none now.log; met = first; come = come; leaves = leaves; owned = told_all now.log (λ before. (link : ℕ) → Contains (dials []) link → Contains (named (before ++ [])) link ⊎ IsDialledFor link conns) (λ before link none. absurd (contains_none link none)) }
  where
    come : (link : ℕ) → IsInUse link conns → now.come link ≡ true
    come link (k, x, gx, inl is) = subst (λ (n : ℕ). now.come n ≡ true) (sym is) (at.1.tracks k x gx).ready.linked.come
    come link (k, x, gx, inr (ex, is)) = subst (λ (n : ℕ). now.come n ≡ true) (sym is) ((at.1.tracks k x gx).ready.linked.server ex).come

    leaves : (link : ℕ) → IsOfRun link conns now now → now.is_open link ≡ true → IsInUse link conns
    leaves link (inl there) opened = there
    leaves link (inr g) opened = absurd (let yes_ = g.after in let no_ = g.before in let f : ⊥ = cc in f)

    first : (link : ℕ) → IsClient link conns [] → IsSomebodys link conns ⊎ IsEnded link []
    first link (inl there) = inl there
    first link (inr here) = absurd (contains_none link here)

notes_then : (link : ℕ) (a b : List Event) → notes (history_of link (a ++ b)) ≡ notes (history_of link a) ++ notes (history_of link b)
notes_then link a b = ap notes (history-append link a b) ∙ flat_map-append note_by (history_of link a) (history_of link b)

ended_before : (link : ℕ) (a b : List Event) → IsEnded link a → IsEnded link (a ++ b)
ended_before link a b (cause, h) = (cause, subst (λ (ns : List Note). Contains ns (end_note link cause)) (sym (notes_then link a b)) (Contains-append_left (notes (history_of link a)) (notes (history_of link b)) (end_note link cause) h))

ended_after : (link : ℕ) (a b : List Event) → IsEnded link b → IsEnded link (a ++ b)
ended_after link a b (cause, h) = (cause, subst (λ (ns : List Note). Contains ns (end_note link cause)) (sym (notes_then link a b)) (Contains-append_right (notes (history_of link a)) (notes (history_of link b)) (end_note link cause) h))

-- What a change means for the links: none is forgotten, none is opened again, one that is given is in use, and one that
-- was in use and is open is in use.
pub record Keeps (now new : Seen) (conns conns' : Slab Conn) : Type 0 where
  pub come : (link : ℕ) → now.come link ≡ true → new.come link ≡ true
  pub shut : (link : ℕ) → now.come link ≡ true → new.is_open link ≡ true → now.is_open link ≡ true
  pub given : (link : ℕ) → Given now new link → new.is_open link ≡ true → IsInUse link conns'
  pub used : (link : ℕ) → new.is_open link ≡ true → IsInUse link conns → IsInUse link conns'

-- for what links were dialled, by a log that ends with these events
abbrev pub OwnsBy : Slab Conn → Slab Conn → List Event → List Event → Type 0
OwnsBy conns conns' ran log = (link : ℕ) → IsDialledFor link conns ⊎ Contains (dials ran) link → Contains (named log) link ⊎ IsDialledFor link conns'

abbrev IsOwned : Slab Conn → List Event → List Event → Type 0
IsOwned conns ran before = (link : ℕ) → Contains (dials ran) link → Contains (named (before ++ ran)) link ⊎ IsDialledFor link conns

owned_more : {first : Slab Conn} {base now : Seen} (new : Seen) (conns conns' : Slab Conn) (ran : List Event) (m : Meets first base now conns) → new.log ≡ extended base.log (m.ran ++ ran) → IfSome new.log (OwnsBy conns conns' ran)
    → IfSome base.log (IsOwned conns' (m.ran ++ ran))
owned_more {first} {base} {now} new conns conns' ran m log goes =
    told_then base.log (λ before. IsOwned conns m.ran before × OwnsBy conns conns' ran (before ++ (m.ran ++ ran))) (IsOwned conns' (m.ran ++ ran)) next
    (told_both base.log (IsOwned conns m.ran) (λ before. OwnsBy conns conns' ran (before ++ (m.ran ++ ran))) m.owned
    (told_back base.log (m.ran ++ ran) (OwnsBy conns conns' ran) (subst (λ (o : Option (List Event)). IfSome o (OwnsBy conns conns' ran)) log goes)))
  where
    next : (before : List Event) → IsOwned conns m.ran before × OwnsBy conns conns' ran (before ++ (m.ran ++ ran)) → IsOwned conns' (m.ran ++ ran) before
    next before h link has = by (Contains-append_cases (dials m.ran) (dials ran) link (subst (λ (ls : List ℕ). Contains ls link) (flat_map-append dial_by m.ran ran) has))
      where
        was : Contains (named (before ++ m.ran)) link ⊎ IsDialledFor link conns → Contains (named (before ++ (m.ran ++ ran))) link ⊎ IsDialledFor link conns'
        was (inl yet) = inl (subst (λ (log : List Event). Contains (named log) link) (append_assoc before m.ran ran) (named_more (before ++ m.ran) ran link yet))
        was (inr still) = h.1 link (inl still)

        by : Contains (dials m.ran) link ⊎ Contains (dials ran) link → Contains (named (before ++ (m.ran ++ ran))) link ⊎ IsDialledFor link conns'
        by (inl earlier) = was (h.0 link earlier)
        by (inr here) = h.1 link (inr here)

-- what happened while no client came
meets_more : {first : Slab Conn} {base now new : Seen} (conns conns' : Slab Conn) (ran : List Event) → new.log ≡ extended now.log ran → arrivals ran ≡ []
    → ((link : ℕ) → IsSomebodys link conns → IsSomebodys link conns' ⊎ IsEnded link ran) → Keeps now new conns conns' → IfSome new.log (OwnsBy conns conns' ran) → Meets first base now conns → Meets first base new conns'
meets_more {first} {base} {now} {new} conns conns' ran log none goes keeps owns m = record {
  ran = m.ran ++ ran;
  log = whole;
  met = λ link is. by_met link (m.met link (was link is));
  come = λ link there. keeps.come link (m.come link there);
  leaves = λ link of_run opened. left link opened (now.come link) refl of_run;
  owned = owned_more new conns conns' ran m whole owns;
}
  where
    whole : new.log ≡ extended base.log (m.ran ++ ran)
    whole = log ∙ ap (λ (o : Option (List Event)). extended o ran) m.log ∙ extended_twice base.log m.ran ran

    left : (link : ℕ) → new.is_open link ≡ true → (b : Bool) → now.come link ≡ b → IsOfRun link first base new → IsInUse link conns'
    left link opened true come (inl there) = keeps.used link opened (m.leaves link (inl there) (keeps.shut link come opened))
    left link opened true come (inr g) = keeps.used link opened (m.leaves link (inr (record { before = g.before; after = come })) (keeps.shut link come opened))
    left link opened false none_ (inl there) = absurd (let yes_ = m.come link there in let f : ⊥ = cc in f)
    left link opened false none_ (inr g) = keeps.given link (record { before = none_; after = g.after }) opened

    was : (link : ℕ) → IsClient link first (m.ran ++ ran) → IsClient link first m.ran
    was link (inl there) = inl there
    was link (inr here) = inr (subst (λ (ls : List ℕ). Contains ls link) (flat_map-append arrival_by m.ran ran ∙ ap (λ (ls : List ℕ). arrivals m.ran ++ ls) none ∙ append-nil (arrivals m.ran)) here)

    still : (link : ℕ) → IsSomebodys link conns' ⊎ IsEnded link ran → IsSomebodys link conns' ⊎ IsEnded link (m.ran ++ ran)
    still link (inl there) = inl there
    still link (inr ended) = inr (ended_after link m.ran ran ended)

    by_met : (link : ℕ) → IsSomebodys link conns ⊎ IsEnded link m.ran → IsSomebodys link conns' ⊎ IsEnded link (m.ran ++ ran)
    by_met link (inl there) = still link (goes link there)
    by_met link (inr ended) = inr (ended_before link m.ran ran ended)

-- the connection goes on
pub meets_open : {S : Type 0} {first : Slab Conn} {base now new : Seen} {l m : Lately} {f g : Desk} {c d : Conn} {gs : List Plan} {steps : ℕ → List Step} (conns conns' : Slab Conn) (key : ℕ) → AttendsBy now gs steps conns → get conns key ≡ Some c → Went S (moment now l f c) (moment new m g d)
    → LeavesOpen now c new d → d.notes.items ≡ [] → get conns' key ≡ Some d → Others conns conns' key → Meets first base now conns → Meets first base new conns'
unfolding moved
meets_open {now = now} {new = new} {c = c} {d = d} {gs = gs} {steps = steps} conns conns' key at gc w leaves untold gd others = meets_more conns conns' w.ran w.world.log w.world.none_came goes (record {
  come = w.world.come;
  shut = w.world.shut;
  given = λ link g opened. (key, d, gd, leaves link (inr (inr g)) opened);
  used = used;
}) (told_then new.log (Shows (steps key ++ w.did)) (OwnsBy conns conns' w.ran) owns (went_shows (moved w) t.stands t.shows))
  where
    t : Tracks now gs (steps key) c
    t = at.tracks key c gc

    mine : (log : List Event) → Shows (steps key ++ w.did) log → TellsAll c.client.link (steps key ++ w.did) log
    mine log shows = elim (shows c.client.link) [
      | inl q ↦ absurd (client_told (w.conn.reached (steps key) t.stands) (subst (λ (x : Client). IsNew x.link (steps key ++ w.did)) (sym w.conn.client) q))
      | inr e ↦ e
    ]

    put : (link : ℕ) (log : List Event) → Contains (named log) link ⊎ Contains (open_links d) link → Contains (named log) link ⊎ IsDialledFor link conns'
    put link log (inl yet) = inl yet
    put link log (inr own) = inr (key, d, gd, own)

    owns : (log : List Event) → Shows (steps key ++ w.did) log → OwnsBy conns conns' w.ran log
    owns log shows link (inr here) = put link log (goes_named t w untold log (mine log shows) link (inr here))
    owns log shows link (inl (k, x, gx, own)) = elim (cases_eq k key) [
      | inl same ↦
          let there : get conns key ≡ Some x = ap (get conns) (sym same) ∙ gx in
          let one : c ≡ x = cc in
          put link log (goes_named t w untold log (mine log shows) link (inl (subst (λ (z : Conn). Contains (open_links z) link) (sym one) own)))
      | inr ne ↦ inr (k, x, others k ne ∙ gx, own)
    ]

    owned : (x : Conn) (link : ℕ) → c ≡ x → Uses x link → Owns now new c link
    owned x link one uses = own (subst (λ (z : Conn). Uses z link) (sym one) uses)
      where
        own : Uses c link → Owns now new c link
        own (inl is) = inl is
        own (inr server) = inr (inl server)

    used : (link : ℕ) → new.is_open link ≡ true → IsInUse link conns → IsInUse link conns'
    used link opened (k, x, gx, uses) = elim (cases_eq k key) [
      | inl same ↦
          let here : get conns key ≡ Some x = ap (get conns) (sym same) ∙ gx in
          let one : c ≡ x = cc in
          (key, d, gd, leaves link (owned x link one uses) opened)
      | inr ne ↦ (k, x, others k ne ∙ gx, uses)
    ]

    goes : (link : ℕ) → IsSomebodys link conns → IsSomebodys link conns' ⊎ IsEnded link w.ran
    goes link (k, x, gx, is) = elim (cases_eq k key) [
      | inl same ↦
          let here : get conns key ≡ Some x = ap (get conns) (sym same) ∙ gx in
          let one : c ≡ x = cc in
          inl (key, d, gd, ap (λ (z : Client). z.link) w.conn.client ∙ ap (λ (z : Conn). z.client.link) one ∙ is)
      | inr ne ↦ inl (k, x, others k ne ∙ gx, is)
    ]

-- a finished connection has noted its end
end_noted : {steps : List Step} {d : Conn} → Reached steps d → d.notes.items ≡ [] → (p : Phase) → d.phase ≡ p → IsTold p → (cause : EndCause) × Contains (notes (history d.client.link steps)) (end_note d.client.link cause)
end_noted r none Open is told = absurd told
end_noted r none Broken is told = absurd told
end_noted r none (Over cause) is told = absurd told
end_noted {steps} {d} r none (Told cause) is told =
    let link = d.client.link in
    let front : List Note = flat_map (notes_of link) r.done ++ closed_by d.current.pinned link r.last in
    let all : notes (history link steps) ≡ front ++ end_note link cause ∷ [] =
    sym (append-nil (notes (history link steps))) ∙ ap (λ (ns : List Note). notes (history link steps) ++ ns) (sym none) ∙ r.kept.holds.noted ∙ ap (λ (p : Phase). front ++ ending_note link p) is in
    (cause, subst (λ (ns : List Note). Contains ns (end_note link cause)) (sym all) (Contains-push front (end_note link cause)))

-- and noted it while it was served, where it was open before
ended_here : {S : Type 0} {now new : Seen} {l m : Lately} {f g : Desk} {c d : Conn} {gs : List Plan} {steps : List Step} → Tracks now gs steps c → (w : Went S (moment now l f c) (moment new m g d)) → IsFinished d → IsEnded c.client.link w.ran
ended_here {c = c} {d = d} {steps = steps} t w finished =
    by (subst (λ (k : Client). (cause : EndCause) × Contains (notes (history k.link (steps ++ w.did))) (end_note k.link cause)) w.conn.client (end_noted (w.conn.reached steps t.stands) finished.0 d.phase refl finished.1))
  where
    link : ℕ
    link = c.client.link

    none_before : (cause : EndCause) → Contains (notes (history link steps)) (end_note link cause) → ⊥
    none_before cause has =
        All-contains IsRequestNote (notes (history link steps)) (end_note link cause)
        (All-from_recursion IsRequestNote (notes (history link steps)) (unended_untold c (ap (ending_note c.client.link) t.ready.is_open) steps t.stands.reached)) has

    late : (cause : EndCause) → Contains (notes (history link steps)) (end_note link cause) ⊎ Contains (notes (history link w.did)) (end_note link cause) → IsEnded link w.ran
    late cause (inl before) = absurd (none_before cause before)
    late cause (inr here) = (cause, subst (λ (h : List LinkEvent). Contains (notes h) (end_note link cause)) (w.world.shows link) here)

    by : (cause : EndCause) × Contains (notes (history link (steps ++ w.did))) (end_note link cause) → IsEnded link w.ran
    by (cause, has) = late cause (Contains-append_cases (notes (history link steps)) (notes (history link w.did)) (end_note link cause)
        (subst (λ (ns : List Note). Contains ns (end_note link cause)) (ap notes (steps-append link steps w.did) ∙ flat_map-append note_by (history link steps) (history link w.did)) has))

-- the connection ended
pub meets_over : {S : Type 0} {first : Slab Conn} {base now new : Seen} {l m : Lately} {f g : Desk} {c d : Conn} {gs : List Plan} {steps : ℕ → List Step} (conns conns' : Slab Conn) (key : ℕ) → AttendsBy now gs steps conns → get conns key ≡ Some c → Went S (moment now l f c) (moment new m g d)
    → LeavesClosed now c new → IsFinished d → Others conns conns' key → Meets first base now conns → Meets first base new conns'
unfolding moved
meets_over {now = now} {new = new} {c = c} {d = d} {gs = gs} {steps = steps} conns conns' key at gc w closed finished others = meets_more conns conns' w.ran w.world.log w.world.none_came goes (record {
  come = w.world.come;
  shut = w.world.shut;
  given = λ link g opened. absurd (let no_ = closed link (inr (inr g)) in let f : ⊥ = cc in f);
  used = used;
}) (told_then new.log (Shows (steps key ++ w.did)) (OwnsBy conns conns' w.ran) owns (went_shows (moved w) t.stands t.shows))
  where
    t : Tracks now gs (steps key) c
    t = at.tracks key c gc

    mine : (log : List Event) → Shows (steps key ++ w.did) log → TellsAll c.client.link (steps key ++ w.did) log
    mine log shows = elim (shows c.client.link) [
      | inl q ↦ absurd (client_told (w.conn.reached (steps key) t.stands) (subst (λ (x : Client). IsNew x.link (steps key ++ w.did)) (sym w.conn.client) q))
      | inr e ↦ e
    ]

    put : (link : ℕ) (log : List Event) → Contains (named log) link ⊎ Contains (open_links d) link → Contains (named log) link ⊎ IsDialledFor link conns'
    put link log (inl yet) = inl yet
    put link log (inr own_) = absurd (none_open (w.conn.reached (steps key) t.stands) finished.1 link own_)

    owns : (log : List Event) → Shows (steps key ++ w.did) log → OwnsBy conns conns' w.ran log
    owns log shows link (inr here) = put link log (goes_named t w finished.0 log (mine log shows) link (inr here))
    owns log shows link (inl (k, x, gx, own_)) = elim (cases_eq k key) [
      | inl same ↦
          let there : get conns key ≡ Some x = ap (get conns) (sym same) ∙ gx in
          let one : c ≡ x = cc in
          put link log (goes_named t w finished.0 log (mine log shows) link (inl (subst (λ (z : Conn). Contains (open_links z) link) (sym one) own_)))
      | inr ne ↦ inr (k, x, others k ne ∙ gx, own_)
    ]

    own : (link : ℕ) → Uses c link → Owns now new c link
    own link (inl is) = inl is
    own link (inr server) = inr (inl server)

    used : (link : ℕ) → new.is_open link ≡ true → IsInUse link conns → IsInUse link conns'
    used link opened (k, x, gx, uses) = elim (cases_eq k key) [
      | inl same ↦
          let here : get conns key ≡ Some x = ap (get conns) (sym same) ∙ gx in
          let one : c ≡ x = cc in
          let no_ = closed link (own link (subst (λ (z : Conn). Uses z link) (sym one) uses)) in
          absurd (let f : ⊥ = cc in f)
      | inr ne ↦ (k, x, others k ne ∙ gx, uses)
    ]

    goes : (link : ℕ) → IsSomebodys link conns → IsSomebodys link conns' ⊎ IsEnded link w.ran
    goes link (k, x, gx, is) = elim (cases_eq k key) [
      | inl same ↦
          let here : get conns key ≡ Some x = ap (get conns) (sym same) ∙ gx in
          let one : c ≡ x = cc in
          inr (subst (λ (n : ℕ). IsEnded n w.ran) (ap (λ (z : Conn). z.client.link) one ∙ is) (ended_here (at.tracks key c gc) w finished))
      | inr ne ↦ inl (k, x, others k ne ∙ gx, is)
    ]

-- the same connections
pub meets_kept : {first : Slab Conn} {base now : Seen} (conns conns' : Slab Conn) → ((k : ℕ) → get conns' k ≡ get conns k) → Meets first base now conns → Meets first base now conns'
meets_kept {now = now} conns conns' same = meets_more conns conns' [] (extended_none now.log) refl (λ link s. inl (s.0, s.1, same s.0 ∙ s.2, s.3)) (record {
  come = λ link is. is;
  shut = λ link is opened. opened;
  given = λ link g opened. absurd (let yes_ = g.after in let no_ = g.before in let f : ⊥ = cc in f);
  used = λ link opened u. (u.0, u.1, same u.0 ∙ u.2, u.3);
}) (told_all now.log (OwnsBy conns conns' []) (λ log link has. elim has [
  | inl own ↦ inr (own.0, own.1, same own.0 ∙ own.2, own.3)
  | inr none ↦ absurd (contains_none link none)
]))

-- nothing came of any link
pub meets_quiet : {first : Slab Conn} {base now new : Seen} {conns : Slab Conn} (ran : List Event) → new.log ≡ extended now.log ran → new.come ≡ now.come → new.is_open ≡ now.is_open → arrivals ran ≡ [] → dials ran ≡ [] → Meets first base now conns → Meets first base new conns
meets_quiet {new = new} {conns = conns} ran log come opens none undialled = meets_more conns conns ran log none (λ link s. inl s) (record {
  come = λ link is. ap (λ (h : ℕ → Bool). h link) come ∙ is;
  shut = λ link is opened. sym (ap (λ (h : ℕ → Bool). h link) opens) ∙ opened;
  given = λ link g opened. absurd (let same = ap (λ (h : ℕ → Bool). h link) come in let yes_ = g.after in let no_ = g.before in let f : ⊥ = cc in f);
  used = λ link opened u. u;
}) (told_all new.log (OwnsBy conns conns ran) (λ log link has. elim has [
  | inl own ↦ inr own
  | inr here ↦ absurd (contains_none link (subst (λ (ls : List ℕ). Contains ls link) undialled here))
]))

pub meets_same : {first : Slab Conn} {base now new : Seen} {conns : Slab Conn} → new ≡ now → Meets first base now conns → Meets first base new conns
meets_same {first} {base} {now} {new} {conns} is m = subst (λ (s : Seen). Meets first base s conns) (sym is) m

pub meets_clock : {first : Slab Conn} {base now new : Seen} {conns : Slab Conn} (n : ℕ) → NowDid now n new → Meets first base now conns → Meets first base new conns
meets_clock n (inl did) m = meets_same did.1 m
meets_clock n (inr did) m = meets_quiet (clock n ∷ []) (ap (λ (s : Seen). s.log) did.1) (ap (λ (s : Seen). s.come) did.1) (ap (λ (s : Seen). s.is_open) did.1) refl refl m

pub meets_wait : {first : Slab Conn} {base now new : Seen} {conns : Slab Conn} (until : ℕ) → WaitDid now until (Ok tt) new → Meets first base now conns → Meets first base new conns
meets_wait until is m = meets_quiet (waited until ∷ []) (ap (λ (s : Seen). s.log) is) (ap (λ (s : Seen). s.come) is) (ap (λ (s : Seen). s.is_open) is) refl refl m

pub meets_failed : {first : Slab Conn} {base now new : Seen} {conns : Slab Conn} (until : ℕ) (e : WaitFailed) → WaitDid now until (Err e) new → Meets first base now conns → Meets first base new conns
meets_failed until e (n, more, is) m = meets_quiet (wait_failed until ∷ []) (ap (λ (s : Seen). s.log) is) (ap (λ (s : Seen). s.come) is) (ap (λ (s : Seen). s.is_open) is) refl refl m

pub meets_stop : {first : Slab Conn} {base now new : Seen} {conns : Slab Conn} → StopDid now true new → Meets first base now conns → Meets first base new conns
meets_stop (n, more, is) m = meets_quiet (asked true ∷ []) (ap (λ (s : Seen). s.log) is) (ap (λ (s : Seen). s.come) is) (ap (λ (s : Seen). s.is_open) is) refl refl m

pub meets_unasked : {first : Slab Conn} {base now new : Seen} {conns : Slab Conn} → StopDid now false new → Meets first base now conns → Meets first base new conns
meets_unasked is m = meets_quiet (asked false ∷ []) (ap (λ (s : Seen). s.log) is) (ap (λ (s : Seen). s.come) is) (ap (λ (s : Seen). s.is_open) is) refl refl m

-- a client came, and stands at a key that was vacant
pub meets_accept : {first : Slab Conn} {base now new : Seen} (a : Arrival) (d : Conn) (conns conns' : Slab Conn) (key : ℕ) → Came now a.link (came a.entry a.peer) new → d.client.link ≡ a.link
    → get conns key ≡ None → get conns' key ≡ Some d → Others conns conns' key → Meets first base now conns → Meets first base new conns'
meets_accept {first} {base} {now} {new} a d conns conns' key arrival link_is vacant gd others m = record {
  ran = m.ran ++ ran;
  log = whole;
  met = λ link is. on_link link (was link is);
  come = λ link there. came_on link (cases_eq link a.link) (m.come link there);
  leaves = λ link of_run opened. left link opened (cases_eq link a.link) of_run;
  owned = owned_more new conns conns' ran m whole (told_all new.log (OwnsBy conns conns' ran) (λ log link has. owns log link has));
}
  where
    ran : List Event
    ran = on a.link now.now (came a.entry a.peer) ∷ []

    whole : new.log ≡ extended base.log (m.ran ++ ran)
    whole = ap (λ (s : Seen). s.log) arrival.same ∙ ap (λ (o : Option (List Event)). extended o ran) m.log ∙ extended_twice base.log m.ran ran

    owns : (log : List Event) (link : ℕ) → IsDialledFor link conns ⊎ Contains (dials ran) link → Contains (named log) link ⊎ IsDialledFor link conns'
    owns log link (inr none) = absurd (contains_none link none)
    owns log link (inl (k, x, gx, own)) = elim (cases_eq k key) [
      | inl same ↦ absurd (let here : get conns key ≡ Some x = ap (get conns) (sym same) ∙ gx in let f : ⊥ = cc in f)
      | inr ne ↦ inr (k, x, others k ne ∙ gx, own)
    ]

    came_on : (link : ℕ) → (link ≡ a.link) ⊎ (link ≢ a.link) → now.come link ≡ true → new.come link ≡ true
    came_on link (inl is) come = subst (λ (n : ℕ). new.come n ≡ true) (sym is) arrival.come
    came_on link (inr ne) come = arrival.others_come link ne ∙ come

    kept : (link : ℕ) → IsInUse link conns → IsInUse link conns'
    kept link (k, x, gx, uses) = elim (cases_eq k key) [
      | inl same ↦ absurd (let here : get conns key ≡ Some x = ap (get conns) (sym same) ∙ gx in let f : ⊥ = cc in f)
      | inr ne ↦ (k, x, others k ne ∙ gx, uses)
    ]

    left : (link : ℕ) → new.is_open link ≡ true → (link ≡ a.link) ⊎ (link ≢ a.link) → IsOfRun link first base new → IsInUse link conns'
    left link opened (inl is) of_run = (key, d, gd, inl (is ∙ sym link_is))
    left link opened (inr ne) (inl there) = kept link (m.leaves link (inl there) (sym (arrival.others_open link ne) ∙ opened))
    left link opened (inr ne) (inr g) = kept link (m.leaves link (inr (record { before = g.before; after = sym (arrival.others_come link ne) ∙ g.after })) (sym (arrival.others_open link ne) ∙ opened))

    was : (link : ℕ) → IsClient link first (m.ran ++ ran) → IsClient link first m.ran ⊎ (a.link ≡ link)
    was link (inl there) = inl (inl there)
    was link (inr here) = elim (Contains-push_cases (arrivals m.ran) a.link link (subst (λ (ls : List ℕ). Contains ls link) (flat_map-append arrival_by m.ran ran) here)) [
      | inl before ↦ inl (inr before)
      | inr now_ ↦ inr now_
    ]

    still : (link : ℕ) → IsSomebodys link conns ⊎ IsEnded link m.ran → IsSomebodys link conns' ⊎ IsEnded link (m.ran ++ ran)
    still link (inl (k, x, gx, is)) = elim (cases_eq k key) [
      | inl same ↦ absurd (let here : get conns key ≡ Some x = ap (get conns) (sym same) ∙ gx in let f : ⊥ = cc in f)
      | inr ne ↦ inl (k, x, others k ne ∙ gx, is)
    ]
    still link (inr ended) = inr (ended_before link m.ran ran ended)

    on_link : (link : ℕ) → IsClient link first m.ran ⊎ (a.link ≡ link) → IsSomebodys link conns' ⊎ IsEnded link (m.ran ++ ran)
    on_link link (inl before) = still link (m.met link before)
    on_link link (inr is) = inl (key, d, gd, link_is ∙ is)

-- and none is there any more
pub all_ended : {first : Slab Conn} {base now : Seen} (conns : Slab Conn) → ((k : ℕ) → get conns k ≡ None) → Meets first base now conns → AllEnded first base now
all_ended {first} {base} {now} conns gone m = record { ran = m.ran; log = m.log; ended = λ link is. ended link (m.met link is) }
  where
    ended : (link : ℕ) → IsSomebodys link conns ⊎ IsEnded link m.ran → IsEnded link m.ran
    ended link (inl (k, x, gx, is)) = absurd (let none = gone k in let f : ⊥ = cc in f)
    ended link (inr is) = is

-- and then each link is closed
pub all_closed : {first : Slab Conn} {base now : Seen} (conns : Slab Conn) → ((k : ℕ) → get conns k ≡ None) → Meets first base now conns → AllClosed first base now
all_closed {first} {base} {now} conns gone m = record { closed = λ link of_run. closed link of_run (now.is_open link) refl }
  where
    nobodys : (link : ℕ) → IsInUse link conns → ⊥
    nobodys link (k, x, gx, uses) = let none = gone k in let f : ⊥ = cc in f

    closed : (link : ℕ) → IsOfRun link first base now → (b : Bool) → now.is_open link ≡ b → now.is_open link ≡ false
    closed link of_run false is = is
    closed link of_run true is = absurd (nobodys link (m.leaves link of_run is))

-- and then each link that was dialled is named
pub all_named : {first : Slab Conn} {base now : Seen} (conns : Slab Conn) → ((k : ℕ) → get conns k ≡ None) → Meets first base now conns → AllNamed base now
all_named {first} {base} {now} conns gone m = record {
  ran = m.ran;
  log = m.log;
  owned = told_then base.log (IsOwned conns m.ran) (λ before. (link : ℕ) → Contains (dials m.ran) link → Contains (named (before ++ m.ran)) link) (λ before h link has. by before link (h link has)) m.owned;
}
  where
    by : (before : List Event) (link : ℕ) → Contains (named (before ++ m.ran)) link ⊎ IsDialledFor link conns → Contains (named (before ++ m.ran)) link
    by before link (inl yet) = yet
    by before link (inr (k, x, gx, own)) = absurd (let none = gone k in let f : ⊥ = cc in f)
