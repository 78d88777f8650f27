use Rattle.link_world.specs.declared.note.EndCause.{EndCause}
use Rattle.conn_service.specs.Farewell.{OnlyTells}
use Rattle.conn_service.specs.Released.{OnlyCloses}
use Rattle.std.proofs.Common.{◌≡◌}
use Rattle.desk.specs.Desks.{Desk}
use Rattle.conn_machine.specs.Reached.{notes_left, IsOpen, IsEnding, EndsBy}
use Rattle.conn_service.specs.Moments.{moment}
use Rattle.conn_service.specs.Went.{Went}
use Rattle.conn_service.proofs.service.tell.Given as goal

abbrev pub invariant-notes : goal.invariant-notes
invariant-notes g l = record {
  went : (desk : Desk) → Went ⊥ (moment (g.W.World.seen l.fn.world) (g.W.World.lately l.fn.world) desk l.fn.conn) (moment (g.W.World.seen l.world) (g.W.World.lately l.world) desk l.conn);
  lately : g.W.World.lately l.world ≡ g.W.World.lately l.fn.world;
  open_ : IsOpen l.fn.conn → l.conn ≡ record l.fn.conn { notes = l.conn.notes };
  ending : IsEnding l.fn.conn.phase → IsEnding l.conn.phase;
  cause : (x : EndCause) → EndsBy x l.fn.conn.phase → EndsBy x l.conn.phase;
  tells : OnlyTells (g.W.World.seen l.fn.world) (g.W.World.seen l.world);
  links : OnlyCloses (g.W.World.seen l.fn.world) (g.W.World.seen l.world);
}

abbrev pub decreases-notes : goal.decreases-notes
decreases-notes g l = notes_left l.conn
