use Rattle.conn_machine.proofs.Tells.{finished_served, no_items, untold_from, unended_some}
use Rattle.conn_machine.proofs.conn.Conn.is_finished.Goals as goal

pub returns-in-Told-clause-served : goal.returns-in-Told-clause-served
returns-in-Told-clause-served c = λ yes_ steps plans r held. finished_served plans c.in-Told.field-0 (no_items c.args.self.now.notes _ c.is_empty.ensures c.if-is_empty.true) c.in-Told.is r held

pub returns-in_default-clause-unended : goal.returns-in_default-clause-unended
returns-in_default-clause-unended c = λ no_. untold_from c.args.self.now c.in_default.not-Told

pub returns-else-is_empty-clause-unended : goal.returns-else-is_empty-clause-unended
returns-else-is_empty-clause-unended c = λ no_. unended_some c.args.self.now _ c.is_empty.ensures c.if-is_empty.false
