use Rattle.body_codec.proofs.Runs.{length_all, length_part}
use Rattle.body_codec.proofs.reading.take_length.Goals as goal

pub returns-then-left-rest : goal.returns-then-left-rest
returns-then-left-rest c = length_all c.args.left c.args.rest.now c.requires c.if-left-rest.true

pub returns-else-left-rest : goal.returns-else-left-rest
returns-else-left-rest c = length_part c.args.left c.args.rest.now c.requires c.if-left-rest.false
