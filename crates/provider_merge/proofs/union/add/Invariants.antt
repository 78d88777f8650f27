use Rattle.std.proofs.Common.{◌≡◌, ◌++◌}
use Rattle.provider_merge.specs.Merging.{entries_of}
use Rattle.provider_merge.proofs.union.add.Given as goal

abbrev pub invariant-loop-name : goal.invariant-loop-name
invariant-loop-name g l = l.entries.items ≡ l.initial.entries.items ++ entries_of l.provider l.yielded
