-- A connection at rest whose links did what they should: each request has its whole reply.
use Rattle.std.proofs.Common.{◌≡◌, ◌≢◌, ℕ, List, [], ◌++◌, Option, Some, None, refl, sym, ◌∙◌, subst, inl, inr, true, Bool}
use Rattle.std.specs.List.{flat_map}
use Rattle.std.proofs.lemmas.List.{append-nil}
use Rattle.head_view.specs.Scans.{HasHead}
use Rattle.back_machine.specs.Exchanges.{IsOpen as IsOpenState}
use Rattle.link_world.specs.Log.{given, notes}
use Rattle.link_world.specs.Lately.{Lately}
use Rattle.link_world.specs.declared.note.Note.{Note}
use Rattle.link_world.specs.declared.note.EndCause.{EndCause}
use Rattle.conversation.specs.Asks.{line_limit}
use Rattle.conversation.specs.Steps.{Step, history}
use Rattle.conversation.specs.Served.{notes_of, EndedWithin}
use Rattle.conversation.specs.Turns.{HasWholeReply}
use Rattle.conversation.specs.Complete.{joined, GaveRequests, ComesEarly, IsOver, IsComplete}
use Rattle.conversation.proofs.Cuttings.{none_later}
use Rattle.conversation.proofs.Completions.{IsCutAll, cut_last}
use Rattle.conn_machine.specs.Parts.{Trail, AtStage, IsExchanging, IsPart}
use Rattle.conn_machine.specs.Relays.{IsOpenBack}
use Rattle.conn_machine.specs.Reached.{Reached, Opened, IsOpen, closed_by, trail_of, pending_of}
use Rattle.conn_machine.specs.declared.parts.Client.{Client}
use Rattle.conn_machine.specs.declared.parts.Current.{Current}
use Rattle.conn_machine.specs.declared.parts.Stage.{Stage}
use Rattle.conn_machine.specs.declared.parts.Stage.TheVariants.{Head, Pin, Route, Look, Down, Walk, Spent, Dial, Dialled, Exchange, Reply as Replying}
use Rattle.conn_machine.specs.declared.conn.Conn.{Conn}
use Rattle.conn_machine.proofs.Opens.{opened}
use Rattle.conn_machine.proofs.Knowns.{going}
use Rattle.conn_service.specs.Calm.{IsStanding, Calm}

-- It waits for no request that is whole and for no reply that is whole. Where it waits for its client to take a reply, that
-- is whole.
opened_complete : {steps : List Step} {k : Client} {m : Current} {trail : Trail} {input pending : List ℕ} {over : Bool} (items : List (List ℕ)) (cause : EndCause) (stuck failed : Type 0) (at : Stage)
    → ComesEarly cause → (o : Opened steps k m trail input pending [] over at) → IsStanding at → (at ≡ Head → IsPart input) → (at ≡ Exchange → IsOpenBack m.back) → (at ≡ Replying → pending ≢ []) → (pending ≢ [] → stuck)
    → GaveRequests k.peer k.link steps items → IsComplete cause stuck failed k.link k.entry k.peer steps items
opened_complete {steps} {k} {m} {trail} {input} {pending} {over} items cause stuck failed at early o standing part goes some written fair = by at refl o.stage
  where
    cut : IsCutAll k.peer o.done o.last o.rest items
    cut = cut_last steps k.entry k.peer o.done o.last o.rest items o.sound.all o.sound.one fair.requests (sym o.holds.reads ∙ fair.gave)

    made : IsOver cause stuck failed (EndedWithin (history k.link steps) o.done) o.done o.last cut.later pending → IsComplete cause stuck failed k.link k.entry k.peer steps items
    made ending = record {
      done = o.done;
      last = o.last;
      later = cut.later;
      left = pending;
      order = cut.order;
      asking = cut.asking;
      answered = (o.sound.all, o.sound.one);
      whole = o.holds.whole;
      spells = o.holds.spells;
      covers = o.holds.covers;
      noted = (closed_by m.pinned k.link o.last, sym (append-nil (notes (history k.link steps))) ∙ o.holds.noted ∙ append-nil (flat_map (notes_of k.link) o.done ++ closed_by m.pinned k.link o.last));
      ending = ending;
    }

    by : (s : Stage) → at ≡ s → AtStage s k m input pending o.done o.last o.rest → IsComplete cause stuck failed k.link k.entry k.peer steps items
    by Head is h =
        let none : cut.later ≡ [] = none_later k.peer cut.later cut.requests (λ (w : HasHead line_limit (joined cut.later)). (part is).unfinished (subst (HasHead line_limit) (sym cut.rest_is ∙ h.rest_is) w)) in
        made (inl (h.last_is, h.none, inl none))
    by Exchange is h =
        let x : IsExchanging k.entry k.peer m pending o.done h.turn = h.holds in
        let open_back : IsOpenState x.back.state = subst IsOpenBack x.back_is (goes is) in
        let none : HasWholeReply x.r.method (given x.link.events) → ⊥ =
        going x.back.reply x.back.state _ x.r.method _ (given x.link.events) x.content x.ended x.failed x.back refl refl open_back x.exchanged in
        made (inr (inr (inr (early, (h.turn, h.last_is, (x.r, x.link, x.sent.won.asked, x.sent.back, none))))))
    by Replying is h = made (inr (inr (inl (written (some is), some is, (h.turn, h.last_is, h.holds)))))
    by Pin is h = absurd (subst IsStanding is standing)
    by Route is h = absurd (subst IsStanding is standing)
    by Look is h = absurd (subst IsStanding is standing)
    by Down is h = absurd (subst IsStanding is standing)
    by Walk is h = absurd (subst IsStanding is standing)
    by Spent is h = absurd (subst IsStanding is standing)
    by Dial is h = absurd (subst IsStanding is standing)
    by Dialled is h = absurd (subst IsStanding is standing)

-- a connection that was served until nothing moved
pub calm_complete : {steps : List Step} {l : Lately} {c : Conn} (items : List (List ℕ)) (cause : EndCause) (failed : Type 0) → ComesEarly cause → Calm l c → IsOpen c → Reached steps c → c.notes.items ≡ []
    → GaveRequests c.client.peer c.client.link steps items → IsComplete cause (l.write_quiet c.client.link ≡ true) failed c.client.link c.client.entry c.client.peer steps items
calm_complete {steps} {l} {c} items cause failed early calm is r untold fair =
    let rests = calm is in
    let o : Opened steps c.client c.current (trail_of c) c.input.items (pending_of c) [] c.over c.stage =
    subst (λ (ns : List Note). Opened steps c.client c.current (trail_of c) c.input.items (pending_of c) ns c.over c.stage) untold (opened is r) in
    opened_complete items cause (l.write_quiet c.client.link ≡ true) failed c.stage early o rests.standing
    (λ at. rests.prompt.part (record { phase = is; stage = at }))
    (λ at. rests.prompt.exchange (record { phase = is; stage = at }))
    (λ at. rests.prompt.reply (record { phase = is; stage = at }))
    rests.written fair
