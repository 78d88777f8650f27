use Rattle.std.proofs.Common.{◌≡◌, map, length}
use Rattle.command_words.specs.Commands.{is_among as is_name_among, entry_of}
use Rattle.command_words.proofs.listens.is_among.Given as goal

abbrev pub invariant-loop-listen : goal.invariant-loop-listen
invariant-loop-listen l = is_name_among l.entry (map entry_of l.listens) ≡ is_name_among l.entry (map entry_of l.rest)

abbrev pub decreases-loop-listen : goal.decreases-loop-listen
decreases-loop-listen l = length l.rest
