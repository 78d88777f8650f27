use Rattle.std.proofs.Common.{◌≡◌, length}
use Rattle.desk.specs.Told.{last_count}
use Rattle.desk.proofs.seats.count_at.Given as goal

-- what was passed over is elsewhere
abbrev pub invariant-counts : goal.invariant-counts
invariant-counts l = last_count l.number l.node 0 l.rest ≡ last_count l.number l.node 0 l.fn.counts

abbrev pub decreases-counts : goal.decreases-counts
decreases-counts l = length l.rest
