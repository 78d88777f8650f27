use Rattle.std.proofs.Common.{◌+◌, arith}
use Rattle.http_wire.proofs.Laid.{all_long, begins_within, begins_later}
use Rattle.http_wire.proofs.lines.edits.bounds_of.Goals as goal

pub start_of-start-requires-clause-fits : goal.start_of-start-requires-clause-fits
start_of-start-requires-clause-fits c = omega (arith, all_long c.args.text.now c.args.spans.now c.requires.spelled)

pub start_of-end-requires-clause-fits : goal.start_of-end-requires-clause-fits
start_of-end-requires-clause-fits c = omega (arith, all_long c.args.text.now c.args.spans.now c.requires.spelled)

pub returns-clause-ordered : goal.returns-clause-ordered
returns-clause-ordered c =
    omega (arith, begins_later c.args.spans.now c.args.at c.requires.within, c.start_of-start.ensures, c.start_of-end.ensures)

pub returns-clause-within : goal.returns-clause-within
returns-clause-within c =
    omega (arith, all_long c.args.text.now c.args.spans.now c.requires.spelled, begins_within c.args.spans.now (c.args.at + 1), c.start_of-end.ensures)
