use Rattle.std.proofs.Common.{arith}
use Rattle.body_codec.proofs.Runs.{size_bound}
use Rattle.body_codec.proofs.phases.after_size.Goals as goal

pub overflow_mul-result : goal.overflow_mul-result
overflow_mul-result c = omega (arith, size_bound c.args.digits c.args.size c.requires.0 c.requires.1)

pub overflow_add-result-in-Some : goal.overflow_add-result-in-Some
overflow_add-result-in-Some c = omega (arith, size_bound c.args.digits c.args.size c.requires.0 c.requires.1, c.in-Some.ensures)
