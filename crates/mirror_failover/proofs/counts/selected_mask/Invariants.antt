use Rattle.std.proofs.Common.{◌≡◌, map, drop}
use Rattle.mirror_failover.specs.Mirrors.{flags_mask, selects}
use Rattle.mirror_failover.proofs.counts.selected_mask.Given as goal

abbrev pub invariant-loop-i : goal.invariant-loop-i
invariant-loop-i l = l.mask ≡ flags_mask (map (λ percent. selects percent l.n) (drop l.i l.percents))
