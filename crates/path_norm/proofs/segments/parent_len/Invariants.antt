use Rattle.std.proofs.Common.{◌<◌, ◌≤◌, ◌≢◌, ℕ, get_or, length}
use Rattle.path_norm.proofs.segments.parent_len.Given as goal

abbrev pub invariant-loop-len : goal.invariant-loop-len
invariant-loop-len l = record {
  within : l.len ≤ length l.path;
  none : (k : ℕ) → l.len ≤ k → k < length l.path → get_or l.path k 0 ≢ 47;
}

abbrev pub decreases-loop-len : goal.decreases-loop-len
decreases-loop-len l = l.len
