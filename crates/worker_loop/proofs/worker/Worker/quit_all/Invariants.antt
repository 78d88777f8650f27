use Rattle.std.proofs.Common.{◌≡◌, ◌<◌, ◌≤◌, ℕ, List, None}
use Rattle.slab.specs.Slab.{Slab, get}
use Rattle.conn_machine.specs.declared.conn.Conn.{Conn}
use Rattle.link_world.specs.Seen.{Seen}
use Rattle.conversation.specs.Plans.{Plan}
use Rattle.worker_loop.specs.Rounds.{Worked}
use Rattle.worker_loop.specs.Runs.{Runs, Attended}
use Rattle.worker_loop.proofs.worker.Worker.quit_all.Given as goal

abbrev pub invariant-loop-key : goal.invariant-loop-key
invariant-loop-key g l =
    Attended (g.W.World.seen l.world) l.self.conns
    × ((first : Slab Conn) (base : Seen) (gens : List Plan) → Runs first base (g.W.World.seen l.fn.world) gens l.fn.self.conns → Runs first base (g.W.World.seen l.world) gens l.self.conns)
    × ((k : ℕ) → k < l.key → get l.self.conns k ≡ None)
    × ((k : ℕ) → l.end ≤ k → get l.self.conns k ≡ None)
    × Worked (g.W.World.seen l.fn.world) (g.W.World.seen l.world)
    × ((g.W.World.seen l.world).stops ≡ (g.W.World.seen l.fn.world).stops)
