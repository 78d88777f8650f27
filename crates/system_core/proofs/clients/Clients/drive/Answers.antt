use Rattle.std.proofs.Common.{◌≡◌, ◌<◌, ℕ, List, Some, sym, subst, refl, length, set, slice_get, arith}
use Rattle.conn_machine.specs.declared.conn.Conn.{Conn}
use Rattle.conn_machine.specs.Events.{step_of}
use Rattle.system_core.specs.Drives.{DrivenAt}
use Rattle.system_core.proofs.Places.{get_at, get_within, some_same}
use Rattle.system_core.proofs.Driving.{none_above}
use Rattle.system_core.proofs.clients.Clients.drive.Goals as goal

pub invariant_of-self : goal.invariant_of-self
invariant_of-self c =
    let conns : List Conn = c.args.self.now.conns.items in
    let place : ℕ = c.args.place in
    let n : ℕ = length c.args.self.now.timeline.earlier.items in
    let x : Conn = c.index_mut.result.now in
    let at : slice_get conns place ≡ Some x = get_at conns place x (get_within conns place c.requires.told.0 c.requires.told.1) (sym c.index_mut.ensures.value) in
    record { pinned = none_above conns place n c.drive.new.conn (c.drive.ensures.number n c.requires.known (c.args.self.now.pinned place x at)) c.args.self.now.pinned }

pub returns-clause-driven : goal.returns-clause-driven
returns-clause-driven c = λ d at'.
    let conns : List Conn = c.args.self.now.conns.items in
    let place : ℕ = c.args.place in
    let x : Conn = c.index_mut.result.now in
    let at : slice_get conns place ≡ Some x = get_at conns place x (get_within conns place c.requires.told.0 c.requires.told.1) (sym c.index_mut.ensures.value) in
    subst (λ (y : Conn). DrivenAt c.args.place y (step_of y c.args.event) c.args.self.now.conns.items (set c.args.self.now.conns.items c.args.place c.drive.new.conn) c.args.notes.now.items c.drive.new.notes.items)
    (some_same (slice_get conns place) x d at at')
    (record { after = c.drive.new.conn; conns_are = refl; driven = c.in_ok-drive.ensures.driven })
