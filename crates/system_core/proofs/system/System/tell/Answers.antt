use Rattle.std.proofs.Common.{refl, ap, sym, ◌∙◌, ◌++◌, ◌≡◌, ◌==◌, ℕ, List, Some, subst, length, slice_get, arith}
use Rattle.conversation.specs.Steps.{Step}
use Rattle.conn_machine.specs.declared.conn.Conn.{Conn}
use Rattle.conn_machine.specs.declared.event.ConnEvent.{ConnEvent}
use Rattle.conn_machine.specs.Events.{IsEnabled, IsAsked, shape_of, step_of}
use Rattle.system_core.specs.Drives.{DrivenAt}
use Rattle.system_core.specs.Takes.{told_on, pending_on, taken_now, TookOn}
use Rattle.system_core.specs.declared.links.Link.{Link}
use Rattle.system_core.proofs.Places.{indexed}
use Rattle.system_core.proofs.Saying.{ran_on, told_enabled}
use Rattle.system_core.proofs.system.System.tell.Goals as goal

pub drive-requires-clause-told : goal.drive-requires-clause-told
drive-requires-clause-told c =
    let x : Conn = c.requires.0 in
    let same : c.index-conn.result.now ≡ c.requires.0 = indexed c.args.self.now.clients.conns.items c.args.place c.requires.0 c.index-conn.result.now c.requires.1.is_conn c.index-conn.ensures in
    let told : c.told_on.result ≡ told_on (c.args.link == c.requires.0.client.link) c.args.link c.args.event =
    c.told_on.ensures ∙ ap (λ (y : Conn). told_on (c.args.link == y.client.link) c.args.link c.args.event) same in
    let both = told_enabled c.requires.0 c.args.link c.args.event (c.args.link == c.requires.0.client.link) c.requires.2 in
    (c.requires.0, c.requires.1.is_conn, subst (λ (t : ConnEvent). IsEnabled (shape_of t) c.requires.0) (sym told) both.0, subst (λ (t : ConnEvent). IsAsked t c.requires.0) (sym told) both.1)

pub returns : goal.returns
returns c =
    let same : c.index-conn.result.now ≡ c.requires.0 = indexed c.args.self.now.clients.conns.items c.args.place c.requires.0 c.index-conn.result.now c.requires.1.is_conn c.index-conn.ensures in
    let told : c.told_on.result ≡ told_on (c.args.link == c.requires.0.client.link) c.args.link c.args.event =
    c.told_on.ensures ∙ ap (λ (y : Conn). told_on (c.args.link == y.client.link) c.args.link c.args.event) same in
    let link_same : c.index_mut.result.now ≡ c.requires.1.kept = indexed c.args.self.now.links.items c.args.link c.requires.1.kept c.index_mut.result.now c.requires.1.is_link c.index_mut.ensures.value in
    ran_on c.args.self.now _ c.args.place c.args.link c.requires.0 c.args.event c.requires.1 c.requires.2 (record { timeline = c.drive.ensures.timeline; stopped = refl }) refl
    (record {
      before = c.requires.1.kept;
      is_before = c.requires.1.is_link;
      after = record { owner = c.index_mut.result.now.owner; to = c.index_mut.result.now.to; sent = c.extend_from_slice.new.self };
      links_are = refl;
      owner = ap (λ (k : Link). k.owner) link_same;
      to = ap (λ (k : Link). k.to) link_same;
      sent = c.in_ok-extend_from_slice.ensures.items ∙ ap (λ (k : Link). k.sent.items ++ c.taken_now-taken.result.now) link_same
          ∙ ap (λ (t : List ℕ). c.requires.1.kept.sent.items ++ t) (c.taken_now-taken.ensures ∙ ap (λ (y : Conn). taken_now (pending_on (c.args.link == y.client.link) y) c.args.event) same);
    })
    (subst (λ (t : ConnEvent). DrivenAt c.args.place c.requires.0 (step_of c.requires.0 t) c.args.self.now.clients.conns.items c.drive.new.self.conns.items c.args.self.now.notes.items c.drive.new.notes.items) told
    (c.in_ok-drive.ensures.driven c.requires.0 c.requires.1.is_conn))
