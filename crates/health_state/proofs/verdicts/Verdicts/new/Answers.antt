use Rattle.std.proofs.Common.{◌≡◌, rules, true, false, replicate}
use Rattle.health_state.proofs.Healths.{Follows-fresh}
use Rattle.health_state.proofs.verdicts.Verdicts.new.Goals as goal

pub returns-clause-verdicts : goal.returns-clause-verdicts
returns-clause-verdicts c =
    let all : c.in_ok-servers.servers.items ≡ replicate c.args.servers (record { up = true; begun = false; due = c.args.start }) = search rules in
    rw all (Follows-fresh c.args.servers c.args.interval c.args.start)
