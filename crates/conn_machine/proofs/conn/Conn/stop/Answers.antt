use Rattle.std.proofs.Common.{refl}
use Rattle.link_world.specs.declared.note.EndCause.TheVariants.{Stopped}
use Rattle.conversation.proofs.Tellings.{stops_more}
use Rattle.conn_machine.proofs.Opens.{opened, opened_stopped, reached_over}
use Rattle.conn_machine.proofs.conn.Conn.stop.Goals as goal

pub returns-clause-reached : goal.returns-clause-reached
returns-clause-reached c = λ steps r. reached_over _ Stopped refl (opened_stopped (opened c.requires r)) (stops_more steps)
