use Rattle.std.proofs.Common.{◌≡◌, ◌<◌, ◌≤◌, ℕ, Some, refl, sym, ◌∙◌, ap, length, slice_get, arith}
use Rattle.system_core.specs.declared.links.Link.{Link}
use Rattle.system_core.proofs.Places.{some_at, some_same, get_at, get_within}
use Rattle.system_core.proofs.system.System.place_of.Goals as goal

pub returns : goal.returns
returns c =
    let at : slice_get c.args.self.now.links.items c.args.link ≡ Some c.index.result.now =
    get_at c.args.self.now.links.items c.args.link c.index.result.now (omega (arith, c.args.self.now.links.ok)) (sym c.index.ensures) in
    let one = some_at c.args.self.now.clients.conns.items c.index.result.now.owner (omega (arith, c.args.self.now.clients.conns.ok)) in
    (one.0, record { kept = c.index.result.now; is_link = at; is_place = refl; is_conn = one.1 })

pub returns-then-at-len : goal.returns-then-at-len
returns-then-at-len c = λ i x is.
    let h : c.args.link < length c.args.self.now.links.items = get_within c.args.self.now.links.items c.args.link is.kept is.is_link in
    omega (arith, c.args.self.now.links.ok)

pub returns-then-place-len : goal.returns-then-place-len
returns-then-place-len c = λ i x is.
    let at : slice_get c.args.self.now.links.items c.args.link ≡ Some c.index.result.now =
    get_at c.args.self.now.links.items c.args.link c.index.result.now (omega (arith, c.args.self.now.links.ok)) (sym c.index.ensures) in
    let h : i < length c.args.self.now.clients.conns.items = get_within c.args.self.now.clients.conns.items i x is.is_conn in
    let e : i ≡ c.index.result.now.owner = is.is_place ∙ ap (λ (k : Link). k.owner) (some_same (slice_get c.args.self.now.links.items c.args.link) is.kept c.index.result.now is.is_link at) in
    omega (arith, c.args.self.now.clients.conns.ok)
