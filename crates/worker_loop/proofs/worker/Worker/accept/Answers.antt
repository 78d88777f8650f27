use Rattle.worker_loop.proofs.Roundings.{worked_none, worked_same, worked_then, worked_came, worked_close}
use Rattle.std.proofs.Common.{◌≡◌, ℕ, ap, sym, ◌∙◌}
use Rattle.slab.specs.Slab.{Slab, get}
use Rattle.conn_machine.specs.declared.conn.Conn.{Conn}
use Rattle.worker_loop.proofs.Servings.{step_kept, step_same}
use Rattle.worker_loop.proofs.Accountings.{accounts_same, accounts_kept, accounts_accept}
use Rattle.worker_loop.proofs.Comings.{step_accept, step_away, settled_same, links_after, links_equal}
use Rattle.worker_loop.proofs.Meetings.{meets_same, meets_kept, meets_accept}
use Rattle.worker_loop.proofs.worker.Worker.accept.Goals as goal

pub returns-in_err-reserve-clause-runs : goal.returns-in_err-reserve-clause-runs
returns-in_err-reserve-clause-runs g c = λ first base gens r. step_kept _ _ (λ k. ap (λ (s : Slab Conn). get s k) c.reserve.ensures.rest_kept) r

pub returns-in_err-client-clause-runs : goal.returns-in_err-client-clause-runs
returns-in_err-client-clause-runs g c = λ first base gens r. step_same c.in_err-client.ensures.seen (step_kept _ _ (λ k. ap (λ (s : Slab Conn). get s k) c.reserve.ensures.rest_kept) r)

pub returns-in_default-clause-runs : goal.returns-in_default-clause-runs
returns-in_default-clause-runs g c = λ first base gens r. let did = rw c.in_default.is at c.in_ok-client.ensures.seen in step_same did (step_kept _ _ (λ k. ap (λ (s : Slab Conn). get s k) c.reserve.ensures.rest_kept) r)

pub returns-in_default-clause-kept : goal.returns-in_default-clause-kept
returns-in_default-clause-kept g c = λ all k. let did = rw c.in_default.is at c.in_ok-client.ensures.lately in settled_same c.args.self.now.conns c.reserve.new.self k (links_after did) (ap (λ (s : Slab Conn). get s k) c.reserve.ensures.rest_kept) (all k)

pub returns-in_err-conn-clause-runs : goal.returns-in_err-conn-clause-runs
returns-in_err-conn-clause-runs g c = λ first base gens r. let did = rw c.in-Some.is at c.in_ok-client.ensures.seen in step_away c.in-Some.client did c.in_err-conn.ensures.closed (step_kept _ _ (λ k. ap (λ (s : Slab Conn). get s k) c.reserve.ensures.rest_kept) r)

pub returns-clause-runs : goal.returns-clause-runs
returns-clause-runs g c = λ first base gens r.
    let did = rw c.in-Some.is at c.in_ok-client.ensures.seen in
    let kept : (k : ℕ) → get c.reserve.new.self k ≡ get c.args.self.now.conns k = λ k. ap (λ (s : Slab Conn). get s k) c.reserve.ensures.rest_kept in
    step_same c.in_ok-conn.ensures.same
    (step_accept c.in-Some.client c.in_ok-conn.conn _ _ c.insert_reserved-key.result did c.in_ok-conn.ensures.began c.insert_reserved-key.ensures.updates.changed (λ k ne. c.insert_reserved-key.ensures.updates.others k ne ∙ kept k) r)

pub returns-clause-settled : goal.returns-clause-settled
returns-clause-settled g c = λ all k ne.
    let did = rw c.in-Some.is at c.in_ok-client.ensures.lately in
    settled_same c.args.self.now.conns c.insert_reserved-key.new.self k (links_equal c.in_ok-conn.ensures.lately (links_after did.0)) (c.insert_reserved-key.ensures.updates.others k ne ∙ ap (λ (s : Slab Conn). get s k) c.reserve.ensures.rest_kept) (all k)

pub returns-in_default-clause-accounts : goal.returns-in_default-clause-accounts
returns-in_default-clause-accounts g c = λ base from f a. let did = rw c.in_default.is at c.in_ok-client.ensures.seen in accounts_same did (accounts_kept c.args.self.now.conns c.reserve.new.self (λ k. ap (λ (s : Slab Conn). get s k) c.reserve.ensures.rest_kept) a)

pub returns-clause-accounts : goal.returns-clause-accounts
returns-clause-accounts g c = λ base from f a.
    let did = rw c.in-Some.is at c.in_ok-client.ensures.seen in
    let kept : (k : ℕ) → get c.reserve.new.self k ≡ get c.args.self.now.conns k = λ k. ap (λ (s : Slab Conn). get s k) c.reserve.ensures.rest_kept in
    accounts_same c.in_ok-conn.ensures.same
    (accounts_accept c.in-Some.client c.in_ok-conn.conn c.args.self.now.conns c.insert_reserved-key.new.self c.insert_reserved-key.result c.requires.1.1 did c.in_ok-conn.ensures.began
    (sym (kept c.insert_reserved-key.result) ∙ c.insert_reserved-key.ensures.was_vacant) c.insert_reserved-key.ensures.updates.changed (λ k ne. c.insert_reserved-key.ensures.updates.others k ne ∙ kept k) a)

pub returns-in_default-clause-met : goal.returns-in_default-clause-met
returns-in_default-clause-met g c = λ first base m. let did = rw c.in_default.is at c.in_ok-client.ensures.seen in meets_same did (meets_kept c.args.self.now.conns c.reserve.new.self (λ k. ap (λ (s : Slab Conn). get s k) c.reserve.ensures.rest_kept) m)

pub returns-clause-met : goal.returns-clause-met
returns-clause-met g c = λ first base m.
    let did = rw c.in-Some.is at c.in_ok-client.ensures.seen in
    let kept : (k : ℕ) → get c.reserve.new.self k ≡ get c.args.self.now.conns k = λ k. ap (λ (s : Slab Conn). get s k) c.reserve.ensures.rest_kept in
    meets_same c.in_ok-conn.ensures.same
    (meets_accept c.in-Some.client c.in_ok-conn.conn c.args.self.now.conns c.insert_reserved-key.new.self c.insert_reserved-key.result did c.in_ok-conn.ensures.began.link
    (sym (kept c.insert_reserved-key.result) ∙ c.insert_reserved-key.ensures.was_vacant) c.insert_reserved-key.ensures.updates.changed (λ k ne. c.insert_reserved-key.ensures.updates.others k ne ∙ kept k) m)

pub returns-in_err-reserve-clause-worked : goal.returns-in_err-reserve-clause-worked
returns-in_err-reserve-clause-worked g c = worked_none (g.W.World.seen c.args.world.now)

pub returns-in_err-client-clause-worked : goal.returns-in_err-client-clause-worked
returns-in_err-client-clause-worked g c = worked_same (g.W.World.seen c.args.world.now) (g.W.World.seen c.arrival.new.self) c.in_err-client.ensures.seen

pub returns-in_default-clause-worked : goal.returns-in_default-clause-worked
returns-in_default-clause-worked g c = let did = rw c.in_default.is at c.in_ok-client.ensures.seen in worked_same (g.W.World.seen c.args.world.now) (g.W.World.seen c.arrival.new.self) did

pub returns-in_err-conn-clause-worked : goal.returns-in_err-conn-clause-worked
returns-in_err-conn-clause-worked g c =
    let did = rw c.in-Some.is at c.in_ok-client.ensures.seen in
    worked_then (g.W.World.seen c.args.world.now) (g.W.World.seen c.arrival.new.self) (g.W.World.seen c.begin.new.world) (worked_came (g.W.World.seen c.args.world.now) (g.W.World.seen c.arrival.new.self) c.in-Some.client did)
    (worked_close (g.W.World.seen c.arrival.new.self) c.in-Some.client.link (g.W.World.seen c.begin.new.world) c.in_err-conn.ensures.closed)

pub returns-clause-worked : goal.returns-clause-worked
returns-clause-worked g c =
    let did = rw c.in-Some.is at c.in_ok-client.ensures.seen in
    worked_then (g.W.World.seen c.args.world.now) (g.W.World.seen c.arrival.new.self) (g.W.World.seen c.begin.new.world) (worked_came (g.W.World.seen c.args.world.now) (g.W.World.seen c.arrival.new.self) c.in-Some.client did)
    (worked_same (g.W.World.seen c.arrival.new.self) (g.W.World.seen c.begin.new.world) c.in_ok-conn.ensures.same)
