use Rattle.std.proofs.Common.{◌≡◌, ◌++◌, drop}
use Rattle.replay_cmd.specs.Output.{links_text}
use Rattle.replay_cmd.proofs.output.links_of.Given as goal

abbrev pub invariant-loop-number : goal.invariant-loop-number
invariant-loop-number l = l.text.items ++ links_text l.number (drop l.number l.links) ≡ links_text 0 l.links
