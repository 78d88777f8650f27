use Rattle.std.proofs.Common.{refl, ap, ◌∙◌, ◌++◌, ◌∷◌, [], List, ◌≡◌, None, length, arith}
use Rattle.system_core.specs.declared.links.Link.{Link}
use Rattle.system_core.proofs.Coming.{ran_came}
use Rattle.system_core.proofs.system.System.admit.Goals as goal

pub returns : goal.returns
returns c =
    let k : Link = record { owner = c.len-owner.result; to = None; sent = c.new.result } in
    let owner_is : c.len-owner.result ≡ length c.args.self.now.clients.conns.items = omega (arith, c.args.self.now.clients.conns.ok) in
    ran_came c.args.self.now _ c.in_ok-link.link (record { owner = c.len-owner.result; to = None; sent = c.new.result }) c.args.entry.now c.args.peer
    (record { timeline = c.arrive.ensures.timeline; stopped = refl }) c.in_ok-link.ensures c.in_ok-arrive.ensures.came
    (c.push_reserved.ensures.items ∙ ap (λ (xs : List Link). xs ++ k ∷ []) c.reserve.ensures.items) owner_is refl c.new.ensures.items refl refl
