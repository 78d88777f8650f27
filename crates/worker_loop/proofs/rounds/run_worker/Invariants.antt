use Rattle.worker_loop.specs.Settled.{NoneStopped}
use Rattle.std.proofs.Common.{◌≡◌, ◌≤◌}
use Rattle.slab.specs.Slab.{slab_len}
use Rattle.link_world.specs.Seen.{Seen}
use Rattle.desk.specs.Desks.{Desk, Grew}
use Rattle.worker_loop.specs.Accounts.{Accounts}
use Rattle.worker_loop.specs.Runs.{Runs}
use Rattle.worker_loop.specs.Met.{Meets}
use Rattle.worker_loop.proofs.Roundings.{Rounded}
use Rattle.worker_loop.proofs.rounds.run_worker.Given as goal

abbrev pub invariant-loop : goal.invariant-loop
invariant-loop g l =
    (goal.iterator-loop g).can_next l.iterator' × (goal.iterator-loop g).is_finite l.iterator'
    × Runs l.fn.worker.conns (g.W.World.seen l.fn.world) (g.W.World.seen l.world) (g.S.Shared.desk l.shared).generations l.worker.conns
    × ((g.W.World.seen l.world).stops ≡ (g.W.World.seen l.fn.world).stops)
    × ((base : Seen) (from : Desk) → Accounts base (g.W.World.seen l.fn.world) from (g.S.Shared.desk l.fn.shared) l.fn.worker.conns → Accounts base (g.W.World.seen l.world) from (g.S.Shared.desk l.shared) l.worker.conns)
    × (l.worker.links ≡ l.fn.worker.links)
    × Grew (g.S.Shared.desk l.fn.shared).generations (g.S.Shared.desk l.shared).generations
    × Meets l.fn.worker.conns (g.W.World.seen l.fn.world) (g.W.World.seen l.world) l.worker.conns
    × NoneStopped (g.W.World.seen l.fn.world) (g.W.World.seen l.world)
    × Rounded (g.W.World.seen l.fn.world) (g.W.World.seen l.world)
    × (slab_len l.fn.worker.conns ≤ l.fn.worker.links → slab_len l.worker.conns ≤ l.worker.links)
