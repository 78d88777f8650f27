use Rattle.conn_machine.specs.Prompt.{IsPrompt}
use Rattle.conn_service.specs.Moments.{moment}
use Rattle.conn_service.specs.Went.{Went}
use Rattle.conn_service.specs.Counts.{Counted}
use Rattle.conn_service.specs.Released.{LeavesOpen}
use Rattle.conn_service.proofs.turn.work.Given as goal

abbrev pub invariant-loop : goal.invariant-loop
invariant-loop g l =
    (goal.iterator-loop g).can_next l.iterator' × (goal.iterator-loop g).is_finite l.iterator'
    × Went ⊥ (moment (g.W.World.seen l.fn.world) (g.W.World.lately l.fn.world) (g.S.Shared.desk l.fn.shared) l.fn.conn) (moment (g.W.World.seen l.world) (g.W.World.lately l.world) (g.S.Shared.desk l.shared) l.conn)
    × IsPrompt l.conn
    × Counted l.reads (g.W.World.lately l.world) l.conn
    × LeavesOpen (g.W.World.seen l.fn.world) l.fn.conn (g.W.World.seen l.world) l.conn
