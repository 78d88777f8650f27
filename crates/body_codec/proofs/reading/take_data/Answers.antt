use Rattle.body_codec.proofs.Runs.{data_all, data_part}
use Rattle.body_codec.proofs.reading.take_data.Goals as goal

pub returns-then-left-rest : goal.returns-then-left-rest
returns-then-left-rest c = data_all c.args.left c.args.rest.now c.requires.0 c.if-left-rest.true

pub returns-else-left-rest : goal.returns-else-left-rest
returns-else-left-rest c = data_part c.args.left c.args.rest.now c.requires.0 c.requires.1 c.if-left-rest.false
