use Rattle.std.proofs.Common.{◌≡◌, ◌≤◌, ℕ, List, Some, sym, subst, refl, length, set, slice_get}
use Rattle.conversation.specs.Steps.{stopped}
use Rattle.conn_machine.specs.declared.conn.Conn.{Conn}
use Rattle.conn_machine.specs.Reached.{IsOpen}
use Rattle.system_core.specs.Drives.{DrivenAt}
use Rattle.system_core.proofs.Places.{get_at, get_within, some_same, get_set_same, indexed}
use Rattle.system_core.proofs.Driving.{none_above}
use Rattle.system_core.proofs.clients.Clients.halt.Goals as goal

pub halt-requires : goal.halt-requires
halt-requires c = subst IsOpen (sym (indexed c.args.self.now.conns.items c.args.place c.requires.0 c.index_mut.result.now c.requires.1 c.index_mut.ensures.value)) c.requires.2

pub invariant_of-self : goal.invariant_of-self
invariant_of-self c =
    let conns : List Conn = c.args.self.now.conns.items in
    let place : ℕ = c.args.place in
    let n : ℕ = length c.args.self.now.timeline.earlier.items in
    let x : Conn = c.index_mut.result.now in
    let at : slice_get conns place ≡ Some x = get_at conns place x (get_within conns place c.requires.0 c.requires.1) (sym c.index_mut.ensures.value) in
    record { pinned = none_above conns place n c.halt.new.conn (subst (λ (k : ℕ). k ≤ n) (sym c.halt.ensures.number) (c.args.self.now.pinned place x at)) c.args.self.now.pinned }

pub returns-clause-driven : goal.returns-clause-driven
returns-clause-driven c = λ d at'.
    let conns : List Conn = c.args.self.now.conns.items in
    let place : ℕ = c.args.place in
    let x : Conn = c.index_mut.result.now in
    let at : slice_get conns place ≡ Some x = get_at conns place x (get_within conns place c.requires.0 c.requires.1) (sym c.index_mut.ensures.value) in
    subst (λ (y : Conn). DrivenAt c.args.place y stopped c.args.self.now.conns.items (set c.args.self.now.conns.items c.args.place c.halt.new.conn) c.args.notes.now.items c.halt.new.notes.items)
    (some_same (slice_get conns place) x d at at')
    (record { after = c.halt.new.conn; conns_are = refl; driven = c.in_ok-halt.ensures.driven })

pub returns-clause-closed : goal.returns-clause-closed
returns-clause-closed c = λ d at o. c.halt.ensures.closed (subst IsOpen (get_set_same c.args.self.now.conns.items c.args.place c.halt.new.conn d at) o)
