use Rattle.std.proofs.Common.{◌≡◌, map, length, string_bytes}
use Rattle.command_words.specs.Words.{sorted, joined}
use Rattle.command_words.proofs.sorting.sort_words.Given as goal

abbrev pub invariant-loop-word : goal.invariant-loop-word
invariant-loop-word l = sorted (map string_bytes l.words) ≡ joined l.found (sorted (map string_bytes l.rest))

abbrev pub decreases-loop-word : goal.decreases-loop-word
decreases-loop-word l = length l.rest
