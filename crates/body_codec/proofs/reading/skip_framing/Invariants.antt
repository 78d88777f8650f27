use Rattle.std.proofs.Common.{◌≡◌, ◌≢◌, take, []}
use Rattle.body_codec.specs.Reading.{run, content, IsPhase}
use Rattle.body_codec.specs.declared.phases.Phase.TheVariants.{Bad}
use Rattle.body_codec.proofs.reading.skip_framing.Given as goal

abbrev pub invariant-loop-at : goal.invariant-loop-at
invariant-loop-at l = (run l.fn.old (take l.at l.piece) ≡ l.phase) × (content l.fn.old (take l.at l.piece) ≡ []) × (l.phase ≢ Bad) × IsPhase l.phase
