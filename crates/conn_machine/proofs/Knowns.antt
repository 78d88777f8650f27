-- Whether all of a reply is known.
use Rattle.std.proofs.Common.{◌≡◌, ◌≢◌, ℕ, List, [], ◌++◌, Option, Some, None, refl, sym, ◌∙◌, ap, subst, Bool, true, false, inl, inr}
use Rattle.std.specs.List.{flat_map}
use Rattle.http_wire.specs.declared.message.Request.{Request as HttpRequest}
use Rattle.http_wire.specs.declared.message.Reply.{Reply as HttpReply}
use Rattle.back_machine.specs.Exchanges.{BackView, Exchanged, Receives, IsOpen as IsOpenState, StateHolds}
use Rattle.back_machine.specs.declared.state.BackState.{BackState}
use Rattle.back_machine.specs.declared.state.BackState.TheVariants.{Waiting, HeadRead, Done, Broken}
use Rattle.back_machine.proofs.ReplyLemmas.{begun_empty}
use Rattle.ip_net.specs.declared.ip.Ip.{Ip}
use Rattle.link_world.specs.declared.note.Note.{Note}
use Rattle.link_world.specs.Log.{given, taken}
use Rattle.conversation.specs.Asks.{asks}
use Rattle.conversation.specs.Steps.{Step, history}
use Rattle.conversation.specs.Turns.{Stage as TurnStage, unrouted, routed, down, up, refused, picked, sent, Turn, BackLink, HasWholeReply, IsAt, IsUndecided}
use Rattle.conversation.specs.Served.{IfLast, of_all, reply_of}
use Rattle.conversation.specs.Holding.{IsReplyKnown, IsUntaken}
use Rattle.conversation.proofs.Holdings.{some_left}
use Rattle.conversation.proofs.Completions.{whole_not_short, whole_not_none}
use Rattle.conn_machine.specs.Parts.{Trail, AtStage, Passing, IsExchanging, IsDialling}
use Rattle.conn_machine.specs.Relays.{IsOpenBack}
use Rattle.conn_machine.specs.Reached.{Opened}
use Rattle.conn_machine.specs.declared.parts.Client.{Client}
use Rattle.conn_machine.specs.declared.parts.Current.{Current}
use Rattle.conn_machine.specs.declared.parts.Stage.{Stage}
use Rattle.conn_machine.specs.declared.parts.Stage.TheVariants.{Head, Pin, Route, Look, Down, Walk, Spent, Dial, Dialled, Exchange, Reply}

-- no bytes are no reply
pub nothing_whole : (method : List ℕ) → HasWholeReply method [] → ⊥
nothing_whole method whole = whole_not_none method [] (λ h rest reads valid. begun_empty.unfinished h rest reads) whole

-- an exchange that goes on has no whole reply
pub going : (o : Option HttpReply) (state : BackState) (message method took gave content : List ℕ) (ended failed : Bool) (b : BackView) → b.reply ≡ o → b.state ≡ state → IsOpenState state → Exchanged message method took gave content ended failed b → HasWholeReply method gave → ⊥
going o Waiting message method took gave content ended failed b reply is goes x whole =
    let h : StateHolds Waiting method gave content ended failed b = subst (λ (s : BackState). StateHolds s method gave content ended failed b) is x.state in
    let none : Receives method gave content None = subst (Receives method gave content) h.1.none x.received in
    whole_not_none method gave none.0 whole
going o HeadRead message method took gave content ended failed b reply is goes x whole =
    let h : StateHolds HeadRead method gave content ended failed b = subst (λ (s : BackState). StateHolds s method gave content ended failed b) is x.state in
    let some : Receives method gave content (Some h.1.reply) = subst (Receives method gave content) h.1.reply_is x.received in
    whole_not_short method gave h.1.reply content some h.1.short whole
going o Done message method took gave content ended failed b reply is goes x whole = absurd goes
going o (Broken cause) message method took gave content ended failed b reply is goes x whole = absurd goes

-- a request that has a reply by nothing that happened
pub known_still : (u v : Turn) (b c : BackLink) → (v.whole ≡ true → u.whole ≡ true) → v.ask ≡ u.ask → v.back ≡ Some c → u.back ≡ Some b → given c.events ≡ given b.events → IsReplyKnown v → IsReplyKnown u
known_still u v b c whole ask back' back same (inl w) = inl (whole w)
known_still u v b c whole ask back' back same (inr (r, d, asked, is, w)) =
    let e : d ≡ c = (let s : Some d ≡ Some c = sym is ∙ back' in cc) in
    inr (r, b, sym ask ∙ asked, back, subst (HasWholeReply r.method) (ap (λ (y : BackLink). given y.events) e ∙ same) w)

unfinished : (u : Turn) → u.whole ≡ false → u.whole ≡ true → ⊥
unfinished u is w = let e : false ≡ true = sym is ∙ w in let f : ⊥ = cc in f

-- its link gave no whole reply
pub unknown_by : (u : Turn) (b : BackLink) → u.whole ≡ false → u.back ≡ Some b → ((r : HttpRequest) → u.ask ≡ asks r → HasWholeReply r.method (given b.events) → ⊥) → IsReplyKnown u → ⊥
unknown_by u b begun back none (inl w) = unfinished u begun w
unknown_by u b begun back none (inr (r, c, asked, is, w)) =
    let same : c ≡ b = (let s : Some c ≡ Some b = sym is ∙ back in cc) in
    none r asked (subst (λ (y : BackLink). HasWholeReply r.method (given y.events)) same w)

-- no link was dialled for it
unknown_none : (u : Turn) → u.whole ≡ false → u.back ≡ None → IsReplyKnown u → ⊥
unknown_none u begun back (inl w) = unfinished u begun w
unknown_none u begun back (inr (r, c, asked, is, w)) = let s : Some c ≡ None = sym is ∙ back in let f : ⊥ = cc in f

passing_begun : (o : Option HttpReply) (r : HttpRequest) (u : Turn) (content pending : List ℕ) → Passing o r u content pending → u.whole ≡ false
passing_begun None r u content pending h = h.3
passing_begun (Some a) r u content pending h = h.3

-- Where a machine waits as it should, all of the current reply isn't known, or the client hasn't taken all of it.
pub untaken_at : {steps : List Step} {k : Client} {m : Current} {trail : Trail} {input pending : List ℕ} {waiting : List Note} {over : Bool} (at : Stage) → (at ≡ Exchange → IsOpenBack m.back) → (at ≡ Reply → pending ≢ [])
    → (o : Opened steps k m trail input pending waiting over at) → IfLast (λ u. IsReplyKnown u → IsUntaken (taken (history k.link steps)) o.done u) o.last
untaken_at {steps} {k} {m} {trail} {input} {pending} {waiting} {over} at goes some o = by at refl o.stage
  where
    by : (s : Stage) → at ≡ s → AtStage s k m input pending o.done o.last o.rest → IfLast (λ (u : Turn). IsReplyKnown u → IsUntaken (taken (history k.link steps)) o.done u) o.last
    by Head is h = subst (IfLast (λ (u : Turn). IsReplyKnown u → IsUntaken (taken (history k.link steps)) o.done u)) (sym h.last_is) tt
    by Pin is h = subst (IfLast (λ (u : Turn). IsReplyKnown u → IsUntaken (taken (history k.link steps)) o.done u)) (sym h.last_is) tt
    by Route is h = subst (IfLast (λ (u : Turn). IsReplyKnown u → IsUntaken (taken (history k.link steps)) o.done u)) (sym h.last_is) (λ d. absurd (unknown_none h.turn h.holds.open_at.undecided.unfinished h.holds.open_at.undecided.stage.back d))
    by Look is h = subst (IfLast (λ (u : Turn). IsReplyKnown u → IsUntaken (taken (history k.link steps)) o.done u)) (sym h.last_is) (λ d. absurd (unknown_none h.turn h.holds.open_at.undecided.unfinished h.holds.open_at.undecided.stage.6 d))
    by Down is h = subst (IfLast (λ (u : Turn). IsReplyKnown u → IsUntaken (taken (history k.link steps)) o.done u)) (sym h.last_is) (λ d. absurd (unknown_none h.turn h.holds.open_at.undecided.unfinished h.holds.open_at.undecided.stage.6 d))
    by Walk is h = subst (IfLast (λ (u : Turn). IsReplyKnown u → IsUntaken (taken (history k.link steps)) o.done u)) (sym h.last_is) (λ d. absurd (unknown_none h.turn h.holds.open_at.undecided.unfinished h.holds.open_at.undecided.stage.6 d))
    by Spent is h = subst (IfLast (λ (u : Turn). IsReplyKnown u → IsUntaken (taken (history k.link steps)) o.done u)) (sym h.last_is) (λ d. absurd (unknown_none h.turn h.holds.open_at.undecided.unfinished h.holds.open_at.undecided.stage.6 d))
    by Dial is h = subst (IfLast (λ (u : Turn). IsReplyKnown u → IsUntaken (taken (history k.link steps)) o.done u)) (sym h.last_is) (λ d. absurd (unknown_none h.turn h.holds.open_at.undecided.unfinished h.holds.open_at.undecided.stage.6 d))
    by Dialled is h = subst (IfLast (λ (u : Turn). IsReplyKnown u → IsUntaken (taken (history k.link steps)) o.done u)) (sym h.last_is) (λ d. absurd (
        let x : IsDialling k.entry k.peer m pending o.done h.turn = h.holds in
        unknown_by h.turn x.link x.aimed.open_at.undecided.unfinished x.is_sent.back (λ r asked w. nothing_whole r.method (subst (HasWholeReply r.method) x.ungiven w)) d
        ))
    by Exchange is h = subst (IfLast (λ (u : Turn). IsReplyKnown u → IsUntaken (taken (history k.link steps)) o.done u)) (sym h.last_is) (λ d. absurd (
        let x : IsExchanging k.entry k.peer m pending o.done h.turn = h.holds in
        let open_back : IsOpenState x.back.state = subst IsOpenBack x.back_is (goes is) in
        unknown_by h.turn x.link (passing_begun x.back.reply x.r h.turn x.content pending x.passing) x.sent.back
        (λ r asked w. going x.back.reply x.back.state _ x.r.method _ (given x.link.events) x.content x.ended x.failed x.back refl refl open_back x.exchanged
        (let request : r ≡ x.r = (let s : asks r ≡ asks x.r = sym asked ∙ x.sent.won.asked in cc) in subst (λ (q : HttpRequest). HasWholeReply q.method (given x.link.events)) request w)) d
        ))
    by Reply is h = subst (IfLast (λ (u : Turn). IsReplyKnown u → IsUntaken (taken (history k.link steps)) o.done u)) (sym h.last_is) (λ d.
        some_left (taken (history k.link steps)) pending o.done h.turn (o.holds.spells ∙ ap (of_all reply_of o.done) h.last_is) (some is))
