use Rattle.std.proofs.Common.{lit≤}
use Rattle.wrr_deadlines.specs.Reduced.{period_len, common_divisor, greatest_divisor}
use Rattle.system_core.proofs.server.OneServer.new.Goals as goal

pub new-requires-clause-short : goal.new-requires-clause-short
unfolding period_len common_divisor greatest_divisor
new-requires-clause-short c = lit≤ tt
