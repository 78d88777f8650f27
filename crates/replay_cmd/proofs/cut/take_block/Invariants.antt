use Rattle.std.proofs.Common.{ℕ, ◌≤◌, List, ◌++◌, length}
use Rattle.replay_cmd.specs.Script.{IsBlock}
use Rattle.replay_cmd.proofs.cut.take_block.Given as goal

abbrev pub invariant-loop-behind : goal.invariant-loop-behind
invariant-loop-behind l = record {
  shorter : length l.rest ≤ length l.text;
  block : (b r : List ℕ) → IsBlock l.rest b r → IsBlock l.text (l.block.items ++ b) r;
}

abbrev pub decreases-loop-behind : goal.decreases-loop-behind
decreases-loop-behind l = length l.rest
