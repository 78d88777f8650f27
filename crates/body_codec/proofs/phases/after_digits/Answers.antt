use Rattle.std.proofs.Common.{arith}
use Rattle.body_codec.proofs.Runs.{size_bound}
use Rattle.body_codec.proofs.phases.after_digits.Goals as goal

pub returns-in-13-clause-valid : goal.returns-in-13-clause-valid
returns-in-13-clause-valid c = size_bound c.args.digits c.args.size c.requires.0 c.requires.1

pub returns-in-59-clause-valid : goal.returns-in-59-clause-valid
returns-in-59-clause-valid c = (size_bound c.args.digits c.args.size c.requires.0 c.requires.1, omega (arith, c.requires.0))
