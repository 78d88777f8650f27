use Rattle.std.proofs.Common.{refl, sym, subst}
use Rattle.replay_script.specs.declared.lines.Line.{Line}
use Rattle.replay_cmd.specs.Replays.{IsUnmeant}
use Rattle.replay_cmd.specs.declared.why.Why.TheVariants as why
use Rattle.replay_cmd.proofs.run.Run.event_of.Goals as goal

pub returns-in-None-clause-means : goal.returns-in-None-clause-means
returns-in-None-clause-means c =
    let never = rw c.in-None.is at c.in_ok-bytes-in-Bytes.ensures in
    subst (λ (l : Line). IsUnmeant l why.Grammar) (sym c.in-Bytes.is) (never, refl)
