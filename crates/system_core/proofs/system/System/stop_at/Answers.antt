use Rattle.std.proofs.Common.{refl, ap, sym, subst, ◌∙◌, ◌≡◌, List, Some, length, slice_get, set}
use Rattle.conn_machine.specs.declared.conn.Conn.{Conn}
use Rattle.conn_machine.specs.Reached.{IsOpen}
use Rattle.system_core.specs.Drives.{AreClosed}
use Rattle.system_core.proofs.Places.{get_at, indexed, length_set, not_true}
use Rattle.system_core.proofs.Choosing.{stops_none, stops_at, closed_more, closed_set}
use Rattle.system_core.proofs.system.System.stop_at.Goals as goal

pub returns-then-not-is_open-clause-stopping : goal.returns-then-not-is_open-clause-stopping
returns-then-not-is_open-clause-stopping c = stops_none c.args.self.now

pub returns-then-not-is_open-clause-closed : goal.returns-then-not-is_open-clause-closed
returns-then-not-is_open-clause-closed c = λ all. closed_more c.args.self.now.clients.conns.items c.args.place all (λ x at o.
    not_true (c.if-not-is_open.ensures.1 (subst IsOpen (sym (indexed c.args.self.now.clients.conns.items c.args.place x c.index.result.now at c.index.ensures)) o)))

pub halt-requires : goal.halt-requires
halt-requires c =
    (c.index.result.now, get_at c.args.self.now.clients.conns.items c.args.place c.index.result.now c.requires (sym c.index.ensures), c.if-not-is_open.ensures.0 refl)

pub returns-clause-same : goal.returns-clause-same
returns-clause-same c =
    let at : slice_get c.args.self.now.clients.conns.items c.args.place ≡ Some c.index.result.now = get_at c.args.self.now.clients.conns.items c.args.place c.index.result.now c.requires (sym c.index.ensures) in
    let d = c.in_ok-halt.ensures.driven c.index.result.now at in
    ap length d.conns_are ∙ length_set c.args.self.now.clients.conns.items c.args.place d.after

pub returns-clause-stopping : goal.returns-clause-stopping
returns-clause-stopping c =
    let at : slice_get c.args.self.now.clients.conns.items c.args.place ≡ Some c.index.result.now = get_at c.args.self.now.clients.conns.items c.args.place c.index.result.now c.requires (sym c.index.ensures) in
    stops_at c.args.self.now _ c.args.place c.index.result.now at (record { timeline = c.halt.ensures.timeline; stopped = refl }) refl refl (c.in_ok-halt.ensures.driven c.index.result.now at)

pub returns-clause-closed : goal.returns-clause-closed
returns-clause-closed c = λ all.
    let at : slice_get c.args.self.now.clients.conns.items c.args.place ≡ Some c.index.result.now = get_at c.args.self.now.clients.conns.items c.args.place c.index.result.now c.requires (sym c.index.ensures) in
    let d = c.in_ok-halt.ensures.driven c.index.result.now at in
    closed_more c.halt.new.self.conns.items c.args.place
    (subst (λ (xs : List Conn). AreClosed c.args.place xs) (sym d.conns_are) (closed_set c.args.self.now.clients.conns.items c.args.place d.after all)) c.in_ok-halt.ensures.closed
