use Rattle.std.proofs.Common.{◌≡◌, take}
use Rattle.rule_lang.specs.Depths.{depth_steps, depth_start}
use Rattle.rule_lang.specs.Gauges.{depths_of}
use Rattle.rule_lang.proofs.Deepening.{Within}
use Rattle.rule_lang.proofs.depth.deepest.Given as goal

abbrev pub invariant-loop-token : goal.invariant-loop-token
invariant-loop-token l = record {
  steps : depth_steps depth_start (take l.token-index l.tokens) ≡ depths_of l.gauge;
  within : Within l.token-index (depths_of l.gauge);
}
