use Rattle.std.proofs.Common.{◌≡◌, ◌<◌, ◌≤◌, ℕ, None}
use Rattle.slab.specs.Slab.{Slab, get, slab_len}
use Rattle.conn_machine.specs.declared.conn.Conn.{Conn}
use Rattle.worker_loop.specs.Met.{Meets}
use Rattle.link_world.specs.Seen.{Seen}
use Rattle.desk.specs.Desks.{Desk, Grew}
use Rattle.worker_loop.specs.Accounts.{Accounts}
use Rattle.worker_loop.specs.Runs.{Runs}
use Rattle.worker_loop.specs.Rounds.{Worked}
use Rattle.worker_loop.specs.Settled.{SameTurn, SettledUnder}
use Rattle.worker_loop.proofs.Places.{held_from}
use Rattle.worker_loop.proofs.worker.Worker.serve_all.Given as goal

abbrev pub invariant-loop-key : goal.invariant-loop-key
invariant-loop-key g l =
    ((first : Slab Conn) (base : Seen) → Runs first base (g.W.World.seen l.fn.world) (g.S.Shared.desk l.fn.shared).generations l.fn.self.conns → Runs first base (g.W.World.seen l.world) (g.S.Shared.desk l.shared).generations l.self.conns)
    × (l.self.links ≡ l.fn.self.links)
    × SameTurn (g.W.World.lately l.fn.world) (g.W.World.lately l.world)
    × ((k : ℕ) → k < l.key → SettledUnder (g.W.World.lately l.world) l.self.conns k)
    × ((k : ℕ) → l.end ≤ k → get l.self.conns k ≡ None)
    × ((g.W.World.seen l.world).stops ≡ (g.W.World.seen l.fn.world).stops)
    × ((base : Seen) (from : Desk) → Accounts base (g.W.World.seen l.fn.world) from (g.S.Shared.desk l.fn.shared) l.fn.self.conns → Accounts base (g.W.World.seen l.world) from (g.S.Shared.desk l.shared) l.self.conns)
    × (slab_len l.self.conns ≤ slab_len l.fn.self.conns)
    × Grew (g.S.Shared.desk l.fn.shared).generations (g.S.Shared.desk l.shared).generations
    × ((k : ℕ) → l.key ≤ k → get l.self.conns k ≡ get l.fn.self.conns k)
    × (l.left ≡ held_from l.fn.self.conns l.key)
    × ((first : Slab Conn) (base : Seen) → Meets first base (g.W.World.seen l.fn.world) l.fn.self.conns → Meets first base (g.W.World.seen l.world) l.self.conns)
    × Worked (g.W.World.seen l.fn.world) (g.W.World.seen l.world)
