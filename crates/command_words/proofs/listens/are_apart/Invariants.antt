use Rattle.std.proofs.Common.{◌≡◌, map, length}
use Rattle.command_words.specs.Commands.{are_apart as are_names_apart, entry_of}
use Rattle.command_words.proofs.listens.are_apart.Given as goal

abbrev pub invariant-loop-listen : goal.invariant-loop-listen
invariant-loop-listen l = are_names_apart (map entry_of l.listens) ≡ are_names_apart (map entry_of l.rest)

abbrev pub decreases-loop-listen : goal.decreases-loop-listen
decreases-loop-listen l = length l.rest
