use Rattle.std.proofs.Common.{◌≡◌, ◌≤◌, true}
use Rattle.slab.specs.Slab.{Slab, slab_len}
use Rattle.conn_machine.specs.declared.conn.Conn.{Conn}
use Rattle.worker_loop.specs.Met.{Meets}
use Rattle.link_world.specs.Seen.{Seen}
use Rattle.desk.specs.Desks.{Desk, Grew}
use Rattle.worker_loop.specs.Accounts.{Accounts}
use Rattle.worker_loop.specs.Runs.{Runs}
use Rattle.worker_loop.specs.Rounds.{Worked}
use Rattle.worker_loop.specs.Settled.{AllSettled}
use Rattle.worker_loop.proofs.worker.Worker.turn.Given as goal

abbrev pub invariant-loop : goal.invariant-loop
invariant-loop g l =
    (goal.iterator-loop g).can_next l.iterator' × (goal.iterator-loop g).is_finite l.iterator'
    × ((first : Slab Conn) (base : Seen) → Runs first base (g.W.World.seen l.fn.world) (g.S.Shared.desk l.fn.shared).generations l.fn.self.conns → Runs first base (g.W.World.seen l.world) (g.S.Shared.desk l.shared).generations l.self.conns)
    × ((g.W.World.lately l.world).clocked ≡ true)
    × AllSettled (g.W.World.lately l.world) l.self.conns
    × ((g.W.World.seen l.world).stops ≡ (g.W.World.seen l.fn.world).stops)
    × (l.self.links ≡ l.fn.self.links)
    × ((base : Seen) (from : Desk) → Accounts base (g.W.World.seen l.fn.world) from (g.S.Shared.desk l.fn.shared) l.fn.self.conns → Accounts base (g.W.World.seen l.world) from (g.S.Shared.desk l.shared) l.self.conns)
    × (slab_len l.fn.self.conns ≤ l.fn.self.links → slab_len l.self.conns ≤ l.self.links)
    × Grew (g.S.Shared.desk l.fn.shared).generations (g.S.Shared.desk l.shared).generations
    × ((first : Slab Conn) (base : Seen) → Meets first base (g.W.World.seen l.fn.world) l.fn.self.conns → Meets first base (g.W.World.seen l.world) l.self.conns)
    × Worked (g.W.World.seen l.fn.world) (g.W.World.seen l.world)
