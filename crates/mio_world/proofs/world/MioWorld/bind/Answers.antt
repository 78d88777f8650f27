use Rattle.std.proofs.Common.{ap, ◌∙◌}
use Rattle.mio_world.specs.Notes.{first_notes}
use Rattle.mio_world.proofs.world.MioWorld.bind.Goals as goal

pub returns-clause-notes : goal.returns-clause-notes
returns-clause-notes g c = c.new-notes.ensures ∙ ap (λ a. first_notes a c.args.requests) c.loop-at.invariant
