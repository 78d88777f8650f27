use Rattle.std.proofs.Common.{refl}
use Rattle.conn_machine.proofs.Starts.{reached_rested}
use Rattle.conn_machine.proofs.conn.Conn.rest.Goals as goal

pub returns-clause-reached : goal.returns-clause-reached
returns-clause-reached c = λ steps r. reached_rested {c = c.args.self.now} c.shrink_to_fit.new.self c.shrink_to_fit-2.new.self c.args.self.now.looks c.args.self.now.picks c.args.self.now.backs c.shrink_to_fit-3.new.self
    c.shrink_to_fit.ensures.items c.shrink_to_fit-2.ensures.items refl refl refl c.shrink_to_fit-3.ensures.items r
