use Rattle.std.proofs.Common.{take}
use Rattle.command_words.specs.Commands.{AreListens}
use Rattle.command_words.proofs.listens.each_listen.Given as goal

abbrev pub invariant-loop-word : goal.invariant-loop-word
invariant-loop-word l = AreListens (take l.word-index l.words) l.listens
