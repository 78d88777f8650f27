use Rattle.std.proofs.Common.{map, string_bytes, Global}
use Rattle.command_words.specs.Words.{sorted}
use Rattle.command_words.proofs.Joins.{joined_nothing}
use Rattle.command_words.proofs.sorting.sort_words.Goals as goal

pub loop-word-init : goal.loop-word-init
loop-word-init c = joined_nothing c.new.result c.new-2.result (sorted (map (string_bytes {Z = Global}) c.args.words.now)) c.new.ensures c.new-2.ensures
