use Rattle.std.proofs.Common.{refl, ap, ◌∙◌}
use Rattle.std.specs.Prelude.{is_some}
use Rattle.conn_machine.proofs.Opens.{opened_at, reached_at}
use Rattle.conn_machine.proofs.Passings.{Laws, halted_gave, reached_halted, opened_heard}
use Rattle.conn_machine.proofs.conn.Conn.hear.Goals as goal

pub returns-in_err-relay-in-Some-clause-reached : goal.returns-in_err-relay-in-Some-clause-reached
returns-in_err-relay-in-Some-clause-reached c = λ steps r.
    let laws : Laws = record { stays = c.replies_are_unique.ensures.stays; one = c.replies_are_unique.ensures.one; apart = c.replies_are_unique.ensures.apart } in
    reached_halted _ refl (halted_gave c.args.piece.now laws
    (record { asked = refl; size = refl; issue = refl; pinned = refl; index = refl; number = refl }) refl refl refl (opened_at c.requires r))

pub returns-clause-reached : goal.returns-clause-reached
returns-clause-reached c = λ steps r.
    let laws : Laws = record { stays = c.replies_are_unique.ensures.stays; one = c.replies_are_unique.ensures.one; apart = c.replies_are_unique.ensures.apart } in
    reached_at _ refl c.requires.stage (opened_heard c.args.piece.now c.in-Some.back c.relay.new.back c.version_of-version.result c.is_some-close.result c.compact-self.result c.compact-self.new.out.items c.relay.new.out.items laws
    (record { asked = refl; size = refl; issue = refl; pinned = refl; index = refl; number = refl }) refl refl refl c.in-Some.is
    c.status_by-self.ensures c.cause_by-self.ensures c.version_of-version.ensures (c.is_some-close.ensures ∙ ap is_some c.end_after.ensures.end)
    c.in_ok-relay-in-Some.ensures.open c.in_ok-relay-in-Some.ensures.relays c.compact-self.ensures.within c.compact-self.ensures.same refl (opened_at c.requires r))
