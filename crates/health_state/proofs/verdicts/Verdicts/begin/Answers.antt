use Rattle.std.proofs.Common.{List, ap, sym, subst}
use Rattle.health_state.specs.declared.verdicts.Server.{Server}
use Rattle.health_state.specs.Health.{Health, Follows}
use Rattle.health_state.proofs.Healths.{begun_at-write, Follows-began}
use Rattle.health_state.proofs.verdicts.Verdicts.begin.Goals as goal

pub returns-clause-began : goal.returns-clause-began
returns-clause-began c =
    let within = rw (← c.self.view_is) at c.requires in
    rw (← c.self.view_is)
    (ap (λ (servers : List Server). let health : Health = record { interval = c.self.inside.interval; servers = servers } in health)
    (begun_at-write c.self.inside.servers.items c.args.server c.index_mut.result.now within c.index_mut.ensures.value))

pub returns-clause-verdicts : goal.returns-clause-verdicts
returns-clause-verdicts c marks follows =
    let P : Health → Type 0 = Follows marks in
    subst P (sym (returns-clause-began c)) (Follows-began marks c.args.self.now c.args.server follows)
