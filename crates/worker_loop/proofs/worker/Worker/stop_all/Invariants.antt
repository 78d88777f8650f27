use Rattle.worker_loop.specs.Rounds.{Parted}
use Rattle.std.proofs.Common.{◌≡◌, ◌<◌, ◌≤◌, ℕ, List, None, true, false}
use Rattle.slab.specs.Slab.{Slab, get}
use Rattle.conn_machine.specs.declared.conn.Conn.{Conn}
use Rattle.worker_loop.specs.Met.{Meets}
use Rattle.link_world.specs.Seen.{Seen}
use Rattle.conversation.specs.Plans.{Plan}
use Rattle.desk.specs.Desks.{Desk}
use Rattle.worker_loop.specs.Accounts.{Accounts}
use Rattle.worker_loop.specs.Runs.{Runs, Stopping, IsStopping, Unasked}
use Rattle.worker_loop.specs.Settled.{EndsOnly}
use Rattle.worker_loop.proofs.Losses.{IsLostBefore, AreUnnoted}
use Rattle.worker_loop.proofs.worker.Worker.stop_all.Given as goal

-- the connections stay attended, and a run with a reason to stop goes on
abbrev pub invariant-loop-key : goal.invariant-loop-key
invariant-loop-key g l =
    IsStopping (g.W.World.seen l.world) l.self.conns
    × ((first : Slab Conn) (base : Seen) (gens : List Plan) → Stopping base (g.W.World.seen l.fn.world) → Runs first base (g.W.World.seen l.fn.world) gens l.fn.self.conns → Runs first base (g.W.World.seen l.world) gens l.self.conns × Stopping base (g.W.World.seen l.world))
    × Unasked (g.W.World.seen l.fn.world) (g.W.World.seen l.world)
    × ((k : ℕ) → k < l.key → get l.self.conns k ≡ None)
    × ((k : ℕ) → l.end ≤ k → get l.self.conns k ≡ None)
    × ((base : Seen) (from to : Desk) → l.all ≡ true → Accounts base (g.W.World.seen l.fn.world) from to l.fn.self.conns → Accounts base (g.W.World.seen l.world) from to l.self.conns)
    × ((k : ℕ) → l.key ≤ k → get l.self.conns k ≡ get l.fn.self.conns k)
    × EndsOnly (g.W.World.seen l.fn.world) (g.W.World.seen l.world) l.fn.self.conns
    × ((first : Slab Conn) (base : Seen) → l.all ≡ true → Meets first base (g.W.World.seen l.fn.world) l.fn.self.conns → Meets first base (g.W.World.seen l.world) l.self.conns)
    × Parted (g.W.World.seen l.fn.world) (g.W.World.seen l.world)
    × (l.all ≡ false → IsLostBefore (g.W.World.seen l.fn.world) (g.W.World.seen l.world) l.fn.self.conns l.key)
    × AreUnnoted (g.W.World.seen l.fn.world) (g.W.World.seen l.world) l.self.conns
