use Rattle.std.proofs.Common.{◌≡◌}
use Rattle.rule_lang.specs.Trees.{tree_of}
use Rattle.rule_lang.specs.Builds.{trees, not_times}
use Rattle.rule_lang.proofs.build.not_times.Given as goal

abbrev pub invariant-loop : goal.invariant-loop
invariant-loop l = tree_of l.rule ≡ not_times trees l.counter (tree_of l.fn.rule)
