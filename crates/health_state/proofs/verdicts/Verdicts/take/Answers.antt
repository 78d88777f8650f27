use Rattle.health_state.proofs.Healths.{Follows-judged}
use Rattle.health_state.proofs.verdicts.Verdicts.take.Goals as goal

pub returns-clause-verdicts : goal.returns-clause-verdicts
returns-clause-verdicts c marks follows =
    let before = rw (← c.self.view_is) at follows in
    rw c.saturating_add.ensures
    (Follows-judged marks (record { interval = c.self.inside.interval; servers = c.self.inside.servers.items }) c.args.server c.args.good c.args.now before)
