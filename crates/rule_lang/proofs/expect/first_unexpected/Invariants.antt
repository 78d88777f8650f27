use Rattle.std.proofs.Common.{◌≡◌, ◌≤◌, Some, take}
use Rattle.rule_lang.specs.Expects.{steps_from, at_start}
use Rattle.rule_lang.proofs.expect.first_unexpected.Given as goal

abbrev pub invariant-loop-token : goal.invariant-loop-token
invariant-loop-token l = record {
  steps : steps_from (Some at_start) (take l.token-index l.tokens) ≡ Some l.progress;
  groups : l.progress.groups ≤ l.token-index;
}
