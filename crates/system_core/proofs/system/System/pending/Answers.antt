use Rattle.std.proofs.Common.{◌≡◌, ◌==◌, ℕ, Some, refl, sym, subst, ap, ◌∙◌, length, slice_get}
use Rattle.conn_machine.specs.declared.conn.Conn.{Conn}
use Rattle.system_core.specs.Takes.{pending_on}
use Rattle.system_core.specs.declared.links.Link.{Link}
use Rattle.system_core.proofs.Places.{indexed, some_same}
use Rattle.system_core.proofs.system.System.pending.Goals as goal

pub returns-in-Some : goal.returns-in-Some
returns-in-Some c = λ i x is.
    let same : c.index-conn.result.now ≡ c.in-Some.ensures.0 =
    indexed c.args.self.now.clients.conns.items c.in-Some.place c.in-Some.ensures.0 c.index-conn.result.now c.in-Some.ensures.1.is_conn c.index-conn.ensures in
    let link_same : is.kept ≡ c.in-Some.ensures.1.kept = some_same (slice_get c.args.self.now.links.items c.args.link) is.kept c.in-Some.ensures.1.kept is.is_link c.in-Some.ensures.1.is_link in
    let place_same : i ≡ c.in-Some.place = is.is_place ∙ ap (λ (k : Link). k.owner) link_same ∙ sym c.in-Some.ensures.1.is_place in
    let conn_same : c.in-Some.ensures.0 ≡ x = some_same (slice_get c.args.self.now.clients.conns.items c.in-Some.place) c.in-Some.ensures.0 x c.in-Some.ensures.1.is_conn
    (subst (λ (k : ℕ). slice_get c.args.self.now.clients.conns.items k ≡ Some x) place_same is.is_conn) in
    ap length c.pending_on.ensures ∙ ap (λ (y : Conn). length (pending_on (c.args.link == y.client.link) y)) (same ∙ conn_same)

pub returns-in-None : goal.returns-in-None
returns-in-None c = λ i x is. absurd (c.in-None.ensures i x is)
