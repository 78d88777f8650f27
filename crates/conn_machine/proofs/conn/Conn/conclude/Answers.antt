use Rattle.std.proofs.Common.{refl, ◌≢◌, []}
use Rattle.conversation.specs.Steps.{history, failures, stops}
use Rattle.link_world.specs.declared.note.EndCause.TheVariants as ending
use Rattle.conn_machine.proofs.Opens.{opened_at, reached_open, reached_over}
use Rattle.conn_machine.proofs.Passings.{opened_whole, cut_ends}
use Rattle.conn_machine.proofs.conn.Conn.conclude.Goals as goal

pub returns-in-Whole-clause-reached : goal.returns-in-Whole-clause-reached
returns-in-Whole-clause-reached c = λ steps r. c.settle.ensures.reached steps (reached_open _ c.requires.waits.phase (opened_whole c.in-Whole.ensures (opened_at c.requires.waits r)))

pub returns-in-Cut-clause-reached : goal.returns-in-Cut-clause-reached
returns-in-Cut-clause-reached c = λ steps r.
    reached_over _ (ending.Cut c.args.self.now.current.link) refl (opened_at c.requires.waits r) (cut_ends (history c.args.self.now.client.link steps) (failures c.args.self.now.client.link steps ≢ []) (stops steps ≢ []) c.in-Cut.ensures (opened_at c.requires.waits r))
