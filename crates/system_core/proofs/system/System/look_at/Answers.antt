use Rattle.std.proofs.Common.{refl, subst, sym}
use Rattle.conn_machine.specs.declared.conn.Conn.{Conn}
use Rattle.conn_machine.specs.Reached.{WantsNode}
use Rattle.system_core.proofs.Places.{indexed}
use Rattle.system_core.proofs.Choosing.{looks_at}
use Rattle.system_core.proofs.system.System.look_at.Goals as goal

pub drive-requires-clause-told : goal.drive-requires-clause-told
drive-requires-clause-told c = (
  c.requires.0,
  c.requires.1,
  c.requires.2,
  subst (λ (x : Conn). WantsNode x c.in-Some.aim.now.node) (indexed c.args.self.now.clients.conns.items c.args.place c.requires.0 c.index.result.now c.requires.1 c.index.ensures) c.in-Some.ensures.wants,
)

pub returns : goal.returns
returns c = looks_at c.args.self.now _ c.args.place c.requires.0 c.in-Some.aim.now.node c.requires.1 (record { timeline = c.drive.ensures.timeline; stopped = refl }) refl refl (c.in_ok-drive.ensures.driven c.requires.0 c.requires.1)
